-- Canonical decimal words.
use Rattle.std.proofs.Common.{◌≡◌, ◌≢◌, ℕ, ◌<◌, ◌^◌, Bool, true, false, ◌&&◌, if◌then◌else◌, List, Some, None, refl}
use Rattle.std.specs.Prelude.{nat_lt}
use Rattle.std.specs.Str.{bytes_eq}
use Rattle.std.specs.Str.Parse.{digits_value}
use Rattle.std.specs.Fmt.{decimal}
use Rattle.std.proofs.lemmas.Fmt.{decimal_is_IsNumeral}
use Rattle.std.proofs.lemmas.Bool.{ltb-true, lt-ltb}
use Rattle.std.proofs.lemmas.Slice.Eq.{bytes_eq-Decides}
use Rattle.m2_scenario.specs.Word.{decimal_value}

pub value_of_decimal : (w : List ℕ) (n : ℕ) → n < 2 ^ 64 → w ≡ decimal n → decimal_value w ≡ Some n
unfolding decimal_value
value_of_decimal w n small e =
    let v : digits_value 10 w ≡ n = rw e (decimal_is_IsNumeral n small).1 in
    let t : nat_lt n (2 ^ 64) ≡ true = lt-ltb n (2 ^ 64) small in
    let s : bytes_eq w (decimal n) ≡ true = (bytes_eq-Decides w (decimal n)).1 e in
    rw (v, t, s) refl

no_value : (w : List ℕ) (v : ℕ) (a b : Bool) → (a ≡ true → b ≡ true → ⊥) → (if a && b then Some v else None) ≡ None
no_value w v true true h = absurd (h refl refl)
no_value w v true false h = refl
no_value w v false true h = refl
no_value w v false false h = refl

pub no_decimal : (w : List ℕ) → ((n : ℕ) → n < 2 ^ 64 → w ≢ decimal n) → decimal_value w ≡ None
unfolding decimal_value
no_decimal w none = no_value w (digits_value 10 w) (nat_lt (digits_value 10 w) (2 ^ 64)) (bytes_eq w (decimal (digits_value 10 w)))
    (λ small same. none (digits_value 10 w) (ltb-true (digits_value 10 w) (2 ^ 64) small) ((bytes_eq-Decides w (decimal (digits_value 10 w))).0 same))
