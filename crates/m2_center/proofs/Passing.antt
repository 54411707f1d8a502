-- Whether all of a list pass, one after the other.
use Rattle.std.proofs.Common.{◌≡◌, ℕ, zero, suc, ◌+◌, ◌<◌, ◌≤◌, Bool, true, ◌&&◌, List, [], ◌∷◌, length, drop, add-one, sym, ap, ◌∙◌, arith}
use Rattle.std.specs.Prelude.{slice_index_or}
use Rattle.std.specs.List.{list_all}
use Rattle.std.proofs.Math.ListN.{drop_of_length-le}

next_passes : {X : Type 0} (p : X → Bool) (xs : List X) (i : ℕ) (x : X) → i < length xs → x ≡ slice_index_or xs i x → p x ≡ true → list_all p (drop (suc i) xs) ≡ list_all p (drop i xs)
next_passes p [] i x within here passes = absurd (omega (arith, within))
next_passes p (y ∷ ys) zero x within here passes = ap (λ b. b && list_all p ys) (sym passes ∙ ap p here)
next_passes p (y ∷ ys) (suc n) x within here passes = next_passes p ys n x (omega (arith, within)) here passes

pub one_more_passes : {X : Type 0} (p : X → Bool) (xs : List X) (i : ℕ) (x : X) → i < length xs → x ≡ slice_index_or xs i x → p x ≡ true → list_all p (drop i xs) ≡ list_all p xs →
    list_all p (drop (i + 1) xs) ≡ list_all p xs
one_more_passes p xs i x within here passes so_far = ap (λ n. list_all p (drop n xs)) (add-one i) ∙ next_passes p xs i x within here passes ∙ so_far

pub all_pass : {X : Type 0} (p : X → Bool) (xs : List X) (i : ℕ) → length xs ≤ i → list_all p (drop i xs) ≡ list_all p xs → true ≡ list_all p xs
all_pass p xs i past so_far = sym (ap (list_all p) (drop_of_length-le xs past)) ∙ so_far
