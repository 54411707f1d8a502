-- What the library lacks of numbers.
use Rattle.std.proofs.Common.{◌≡◌, ◌≢◌, ℕ, true, not, eqb, refl, ◌+◌, Bool, false, if◌then◌else◌, arith, suc, ◌||◌, ap, ◌==◌, sym, zero, ◌<◌, ◌≤◌, ◌⊎◌, inl, inr}
use Rattle.std.proofs.lemmas.Bool.{eq-eqb, ne_eqb, eqb-false}
use Rattle.std.proofs.lemmas.Bool.Decides.{nat_tests}
use Rattle.m2_lemmas.proofs.Booleans.{from_false_true}

pub tested_isnt_zero : (n : ℕ) → not (eqb n 0) ≡ true → n ≢ 0
tested_isnt_zero n e is = let t = eq-eqb n 0 is in absurd (cc (e, t))

pub not_zero_is_tested : (n : ℕ) → n ≢ 0 → not (eqb n 0) ≡ true
not_zero_is_tested n h = rw (ne_eqb n 0 h) refl

pub none_back : (back : Bool) (k n : ℕ) → k + (if back then n else 0) ≡ 0 → back ≡ true → n ≡ 0
none_back true k n e b = omega (arith, e)
none_back false k n e b = from_false_true b

pub past_at : (b rest : Bool) (n m : ℕ) → (b || rest) ≡ false → (rest ≡ false → n ≡ m) → suc n ≡ (if b then 0 else suc m)
past_at true rest n m e h = absurd cc
past_at false rest n m e h = ap suc (h e)

pub unlike_turned : (a b : ℕ) → (a == b) ≡ false → (b == a) ≡ false
unlike_turned a b h = ne_eqb b a (λ e. eqb-false a b h (sym e))

pub test_turned : (m n : ℕ) → (m == n) ≡ (n == m)
test_turned m n = grind (arith, nat_tests)

pub same_number : (a b : ℕ) → a ≡ b → (a == b) ≡ true
same_number a b e = grind (arith, e)

pub below_or_not : (a b : ℕ) → (a < b) ⊎ (b ≤ a)
below_or_not zero zero = inr (omega arith)
below_or_not zero (suc b) = inl (omega arith)
below_or_not (suc a) zero = inr (omega arith)
below_or_not (suc a) (suc b) = elim (below_or_not a b) [ inl h ↦ inl (omega (arith, h)) | inr h ↦ inr (omega (arith, h)) ]

pub zero_if : (b : Bool) → ◌≡◌ {A = ℕ} (if b then 0 else 0) 0
zero_if true = refl
zero_if false = refl
