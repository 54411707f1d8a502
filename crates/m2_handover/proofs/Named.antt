-- Inboxes that have names.
use Rattle.std.proofs.Common.{◌≡◌, ℕ, ◌<◌, inl, inr, List, length, slice_get, Option, Some, None, refl, sym, subst, arith}
use Rattle.std.proofs.lemmas.Option.{slice_get_cases, slice_get_within}
use Rattle.m2_handover.specs.Handed.{IsOfNamed}

-- what is so of each inbox that has the name is so of the one that has it
pub is_of_named : {A : Type 0} (P : A → Type 0) (all : List A) (number : ℕ) → number < length all → ((x : A) → slice_get all number ≡ Some x → P x) → IsOfNamed P (slice_get all number)
is_of_named P all number less so = elim (slice_get_cases all number).1 [
  | inl some ↦ subst (IsOfNamed P) (sym some.2) (so some.0 some.2)
  | inr none ↦ absurd (let past = none.0 in omega (arith, less, past))
]

-- and the other way round
pub of_named : {A : Type 0} (P : A → Type 0) (named : Option A) (x : A) → IsOfNamed P named → named ≡ Some x → P x
of_named P None x is e = elim is [ ]
of_named P (Some y) x is e = subst P (let same : y ≡ x = cc in same) is

-- one has the name
pub named_within : {A : Type 0} (P : A → Type 0) (all : List A) (number : ℕ) → IsOfNamed P (slice_get all number) → number < length all
named_within {A} P all number is = by (slice_get all number) refl is
  where
    by : (named : Option A) → slice_get all number ≡ named → IsOfNamed P named → number < length all
    by None e is = elim is [ ]
    by (Some x) e is = slice_get_within all number x e
