-- Words and their texts: where the first `--` stands, and what stands round it.
use Rattle.std.proofs.Common.{◌≡◌, ℕ, ◌||◌, ◌+◌, ◌≤◌, Bool, true, false, List, [], ◌∷◌, ◌++◌, length, map, take, drop, Option, None, Some, refl, sym, ◌∙◌, ap, arith, cond, ltb, not, unwrap_or, subst}
use Rattle.std.specs.List.{list_any, position_or_len, position_from}
use Rattle.std.proofs.lemmas.Bool.{ltb-false}
use Rattle.m2_cli.specs.Form.{form_among, form_in, is_dashes, is_option_word}
use Rattle.std.proofs.lemmas.List.Sums.{prefix_len-le-length}
use Rattle.std.proofs.lemmas.Iterator.Adapters.{position_from-zero}

pub position_or_len-map : {X Y : Type 0} (p : Y → Bool) (h : X → Y) (xs : List X) → position_or_len p (map h xs) ≡ position_or_len (λ x. p (h x)) xs
position_or_len-map p h [] = refl
position_or_len-map p h (x ∷ xs) = ap (λ n. cond (not (p (h x))) (1 + n) 0) (position_or_len-map p h xs)

pub list_any-map : {X Y : Type 0} (p : Y → Bool) (h : X → Y) (xs : List X) → list_any p (map h xs) ≡ list_any (λ x. p (h x)) xs
list_any-map p h [] = refl
list_any-map p h (x ∷ xs) = ap (λ b. p (h x) || b) (list_any-map p h xs)

place_by : (p n : ℕ) (b : Bool) (r : Option ℕ) → ltb p n ≡ b → p ≤ n → r ≡ cond b (Some p) None → unwrap_or r n ≡ p
place_by p n true r t h e = ap (λ o. unwrap_or o n) e
place_by p n false r t h e = let past : n ≤ p = ltb-false p n t in let same : n ≡ p = omega arith in ap (λ o. unwrap_or o n) e ∙ same

-- the first place that was found, or past the end
pub first_place : {X : Type 0} (t : X → Bool) (xs : List X) (r : Option ℕ) → r ≡ position_from t 0 xs → unwrap_or r (length xs) ≡ position_or_len t xs
first_place t xs r e =
    place_by (position_or_len t xs) (length xs) (ltb (position_or_len t xs) (length xs)) r refl (prefix_len-le-length (λ x. not (t x)) xs) (e ∙ sym (position_from-zero t xs))

-- words of which one is an option before the `--`
pub refused : (words : List (List ℕ)) (cut : ℕ) → cut ≡ position_or_len is_dashes words → list_any is_option_word (take cut words) ≡ true → None ≡ form_in words
refused words cut e h =
    let P : ℕ → Type 0 = λ i. list_any is_option_word (take i words) ≡ true in
    let seen : list_any is_option_word (take (position_or_len is_dashes words) words) ≡ true = subst P e h in
    sym (ap (λ b. cond b None (form_among (take (position_or_len is_dashes words) words ++ drop (position_or_len is_dashes words + 1) words))) seen)

-- words without an option before the `--`
pub taken : (words : List (List ℕ)) (cut : ℕ) → cut ≡ position_or_len is_dashes words → list_any is_option_word (take cut words) ≡ false
    → form_among (take cut words ++ drop (cut + 1) words) ≡ form_in words
taken words cut e h =
    let P : ℕ → Type 0 = λ i. list_any is_option_word (take i words) ≡ false in
    let seen : list_any is_option_word (take (position_or_len is_dashes words) words) ≡ false = subst P e h in
    ap (λ i. form_among (take i words ++ drop (i + 1) words)) e
    ∙ sym (ap (λ b. cond b None (form_among (take (position_or_len is_dashes words) words ++ drop (position_or_len is_dashes words + 1) words))) seen)
