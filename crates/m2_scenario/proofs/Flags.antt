-- A list of flags with one more set.
use Rattle.std.proofs.Common.{◌≡◌, ◌==◌, ◌<◌, ℕ, zero, suc, Bool, true, false, not, ◌||◌, List, [], ◌∷◌, length, get_or, refl, sym, ap, ◌∙◌, arith, Some}
use Rattle.std.specs.Prelude.{slice_get, slice_set}
use Rattle.std.specs.List.{list_all}
use Rattle.std.proofs.lemmas.List.{length-set, get_or-set_same, get_or-set_other}
use Rattle.std.proofs.lemmas.Option.{slice_get-get_or, get_or_from_slice_get}
use Rattle.std.proofs.lemmas.Bool.{eqb-true, eq-eqb}
use Rattle.m2_bytes.proofs.m2_lemmas.Booleans.{or_false, or_true}

-- the flag at b is set where it was, and where it is the one at a
pub flag_at : (flags : List Bool) (n a b : ℕ) (had t : Bool) → (a == b) ≡ t → length flags ≡ n → a < n → b < n → slice_get flags b ≡ Some had → slice_get (slice_set flags a true) b ≡ Some (had || (t || false))
flag_at flags n a b had true is len small below was =
    let same : a ≡ b = eqb-true a b is in
    let e : get_or (slice_set flags a true) b false ≡ true = rw (← same) (get_or-set_same flags a true false (omega (arith, len, small))) in
    slice_get-get_or (slice_set flags a true) b false (omega (arith, length-set flags a true, len, below)) ∙ ap Some (e ∙ sym (or_true had))
flag_at flags n a b had false is len small below was =
    let e : get_or (slice_set flags a true) b false ≡ get_or flags b false = get_or-set_other flags a b true false (λ s. let t : (a == b) ≡ true = eq-eqb a b (sym s) in cc) in
    slice_get-get_or (slice_set flags a true) b false (omega (arith, length-set flags a true, len, below)) ∙ ap Some (e ∙ get_or_from_slice_get flags b had false was ∙ sym (or_false had))

-- where none is set
pub none_set : (flags : List Bool) (k : ℕ) → list_all not flags ≡ true → k < length flags → slice_get flags k ≡ Some false
none_set [] k none h = absurd (omega arith)
none_set (true ∷ fs) k none h = absurd (cc)
none_set (false ∷ fs) zero none h = refl
none_set (false ∷ fs) (suc k) none h = none_set fs k none (omega arith)
