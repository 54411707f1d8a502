-- Words without spaces and line feeds: what stands before the first of either is read in one way.
use Rattle.std.proofs.Common.{◌≡◌, ℕ, zero, suc, ◌+◌, ◌<◌, ◌≤◌, ◌^◌, Bool, true, List, [], ◌∷◌, ◌++◌, map, refl, sym, subst, arith}
use Rattle.std.specs.Prelude.{nat_lt}
use Rattle.std.specs.List.{AllByRecursion, list_all}
use Rattle.std.specs.Fmt.{decimal}
use Rattle.std.proofs.lemmas.Bool.{and_parts, ltb-true}
use Rattle.std.proofs.lemmas.Fmt.{decimal_digit, decimal-digits_of}
use Rattle.std.proofs.lemmas.Bool.Decides.{nat_tests}
use Rattle.std.specs.Int.Digits.{digits_of}
use Rattle.m2_scenario.specs.Text.{Word}
use Rattle.m2_scenario.specs.Word.{is_name, is_name_byte}

-- every byte comes after the space, which has the number 32; the line feed has 10
abbrev pub IsPlain : Word → Type 0
IsPlain w = AllByRecursion (λ b. 32 < b) w

-- what stands before a space or a line feed, and what behind it
pub cut_once : (mark : ℕ) (a b r s : Word) → mark ≤ 32 → IsPlain a → IsPlain b → a ++ mark ∷ r ≡ b ++ mark ∷ s → (a ≡ b) × (r ≡ s)
cut_once mark [] [] r s low p q e = (refl, cc)
cut_once mark [] (y ∷ b) r s low p q e = let f : mark ≡ y = cc in absurd (omega (arith, q.0))
cut_once mark (x ∷ a) [] r s low p q e = let f : x ≡ mark = cc in absurd (omega (arith, p.0))
cut_once mark (x ∷ a) (y ∷ b) r s low p q e =
    let first : x ≡ y = cc in
    let rest : a ++ mark ∷ r ≡ b ++ mark ∷ s = cc in
    let ih = cut_once mark a b r s low p.1 q.1 rest in
    (cc, ih.1)

pub passes : (p : ℕ → Bool) → ((b : ℕ) → p b ≡ true → 32 < b) → (w : Word) → list_all p w ≡ true → IsPlain w
passes p above [] h = tt
passes p above (b ∷ bs) h = let parts = and_parts (p b) (list_all p bs) h in (above b parts.0, passes p above bs parts.1)

pub plain_if : (w : Word) → list_all (nat_lt 32) w ≡ true → IsPlain w
plain_if w h = passes (nat_lt 32) (λ b. ltb-true 32 b) w h

name_byte : (b : ℕ) → is_name_byte b ≡ true → 32 < b
name_byte b h = grind (arith, nat_tests)

pub plain_name : (w : Word) → is_name w ≡ true → IsPlain w
plain_name w h = passes is_name_byte name_byte w (and_parts _ _ h).1

plain_digits : (ds : List ℕ) → IsPlain (map (λ d. 48 + d) ds)
plain_digits [] = tt
plain_digits (d ∷ ds) = (omega arith, plain_digits ds)

pub plain_decimal : (n : ℕ) → n < 2 ^ 64 → IsPlain (decimal n)
plain_decimal zero small = subst IsPlain (sym (decimal_digit 0 (omega arith))) (omega arith, tt)
plain_decimal (suc n) small = subst IsPlain (sym (decimal-digits_of (suc n) (omega arith) small)) (plain_digits (digits_of 10 (suc n)))
