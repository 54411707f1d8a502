-- Tables of rows, and what follows from the answer that one gives.
use Rattle.std.proofs.Common.{◌≡◌, ◌≢◌, Bool, true, false, if◌then◌else◌, List, [], ◌∷◌, ◌++◌, refl}
use Rattle.std.specs.List.{AllByRecursion}
use Rattle.m2_session.specs.Table.{Row, first_that_holds, NoneHolds}
use Rattle.m2_session.specs.SessionLaws.{AreReadInOrder}
use Rattle.m2_bytes.proofs.m2_lemmas.Booleans.{chosen}

gives : {N A : Type 0} (before : List (Row N A)) (r : Row N A) (after : List (Row N A)) (otherwise : A) → NoneHolds before → r.holds ≡ true → first_that_holds (before ++ r ∷ after) otherwise ≡ r.answer
gives [] r after otherwise none holds = rw holds refl
gives (b ∷ before) r after otherwise none holds = rw none.0 (gives before r after otherwise none.1 holds)

falls_through : {N A : Type 0} (rows : List (Row N A)) (otherwise : A) → NoneHolds rows → first_that_holds rows otherwise ≡ otherwise
falls_through [] otherwise none = refl
falls_through (r ∷ rows) otherwise none = rw none.0 (falls_through rows otherwise none.1)

pub are_read_in_order : AreReadInOrder
are_read_in_order = record {
  ident = record { gives = gives; otherwise = falls_through };
  reconnect = record { gives = gives; otherwise = falls_through };
  fault = record { gives = gives; otherwise = falls_through };
}

-- what holds of each answer of a table holds of the one that it gives
pub each_answer : {N A : Type 0} (P : A → Type 0) (rows : List (Row N A)) (otherwise : A) → AllByRecursion (λ (r : Row N A). P r.answer) rows → P otherwise → P (first_that_holds rows otherwise)
each_answer P [] otherwise all last = last
each_answer P (r ∷ rows) otherwise all last =
    elim r.holds as (λ b. P (if b then r.answer else first_that_holds rows otherwise)) [
      | true ↦ all.0
      | false ↦ each_answer P rows otherwise all.1 last
    ]

not_taken : {A : Type 0} (b : Bool) (x y a : A) → x ≢ a → (if b then x else y) ≡ a → (b ≡ false) × (y ≡ a)
not_taken true x y a differs given = absurd (differs given)
not_taken false x y a differs given = (refl, given)

-- where a table gives what no row answers, no row's condition holds
pub none_holds : {N A : Type 0} (a : A) (rows : List (Row N A)) (otherwise : A) → AllByRecursion (λ (r : Row N A). r.answer ≢ a) rows → first_that_holds rows otherwise ≡ a → NoneHolds rows
none_holds a [] otherwise all given = tt
none_holds a (r ∷ rows) otherwise all given =
    let next = not_taken r.holds r.answer (first_that_holds rows otherwise) a all.0 given in
    (next.0, none_holds a rows otherwise all.1 next.1)

-- what holds of each row's answer, where the row holds and those before it don't
abbrev pub EachInOrder : {N A : Type 0} → (A → Type 0) → List (Row N A) → A → Type 0
EachInOrder P [] otherwise = P otherwise
EachInOrder P (r ∷ rows) otherwise = (r.holds ≡ true → P r.answer) × (r.holds ≡ false → EachInOrder P rows otherwise)

pub each_in_order : {N A : Type 0} (P : A → Type 0) (rows : List (Row N A)) (otherwise : A) → EachInOrder P rows otherwise → P (first_that_holds rows otherwise)
each_in_order P [] otherwise all = all
each_in_order P (r ∷ rows) otherwise all =
    chosen P r.holds r.answer (first_that_holds rows otherwise) all.0 (λ fails. each_in_order P rows otherwise (all.1 fails))
