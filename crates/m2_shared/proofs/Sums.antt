-- The sum of a list of which one number changes, and steps of a word that wrap round.
use Rattle.std.proofs.Common.{◌≡◌, ℕ, zero, suc, ◌+◌, ◌-◌, ◌*◌, ◌%◌, ◌^◌, ◌<◌, ◌≤◌, List, [], ◌∷◌, ◌++◌, length, set, sym, ap, ◌∙◌, arith, mod-eq_of_lt}
use Rattle.std.specs.Prelude.{sum, sum_by}
use Rattle.std.proofs.Math.Nat.{add-mul-mod_self_right}
use Rattle.std.proofs.lemmas.List.Sums.{sum_by-cons, sum_by-append}
use mathlib.Core.Option.{some, some-injective, some-ne-none}
use lib.ListN.{get_elem?}

-- v has become w, and each item counts as f says
pub sum_by_set : {A : Type 0} (f : A → ℕ) (xs : List A) (id : ℕ) (v w : A) → get_elem? xs id ≡ some v → sum_by f (set xs id w) + f v ≡ sum_by f xs + f w
sum_by_set f [] id v w at = absurd (some-ne-none v (sym at))
sum_by_set f (x ∷ xs) zero v w at =
    let same : f x ≡ f v = ap f (some-injective x v at) in
    omega (arith, same, sum_by-cons f x xs, sum_by-cons f w xs)
sum_by_set f (x ∷ xs) (suc i) v w at = omega (arith, sum_by_set f xs i v w at, sum_by-cons f x xs, sum_by-cons f x (set xs i w))

-- v has become w
pub sum_set : (held : List ℕ) (id v w : ℕ) → get_elem? held id ≡ some v → sum (set held id w) + v ≡ sum held + w
sum_set held id v w at = sum_by_set (λ (y : ℕ). y) held id v w at

-- a number of the list is at most the sum
pub sum_at : (held : List ℕ) (id v : ℕ) → get_elem? held id ≡ some v → v ≤ sum held
sum_at held id v at = omega (arith, sum_set held id v 0 at)

-- what stands at a place stands before the end
pub at_length : (held : List ℕ) (id v : ℕ) → get_elem? held id ≡ some v → id < length held
at_length [] id v at = absurd (some-ne-none v (sym at))
at_length (x ∷ xs) zero v at = omega arith
at_length (x ∷ xs) (suc i) v at = omega (arith, at_length xs i v at)

-- one number of 0 more
pub sum_more : (held : List ℕ) → sum (held ++ 0 ∷ []) ≡ sum held
sum_more held = omega (arith, sum_by-append (λ (y : ℕ). y) held (0 ∷ []))

-- a subtraction of no more than is there doesn't wrap
pub sub_wraps : (x k : ℕ) → k ≤ x → x < 2 ^ 64 → (x + (2 ^ 64 - k)) % 2 ^ 64 ≡ x - k
sub_wraps x k le lt =
    let e : x + (2 ^ 64 - k) ≡ (x - k) + 1 * 2 ^ 64 = omega arith in
    ap (λ (y : ℕ). y % 2 ^ 64) e ∙ (add-mul-mod_self_right (x - k) 1 (2 ^ 64) ∙ mod-eq_of_lt (omega arith))
