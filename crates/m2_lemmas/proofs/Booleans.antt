-- What the library lacks of truth values.
use Rattle.std.proofs.Common.{◌≡◌, Bool, true, false, ◌&&◌, refl, true≢false, sym, if◌then◌else◌, ◌||◌, subst, not, ap, ◌⊎◌, inl, inr}

pub and_false : (b : Bool) → (b && false) ≡ false
and_false true = refl
and_false false = refl

pub from_false_true : {X : Type 0} → false ≡ true → X
from_false_true e = absurd (true≢false (sym e))

pub from_true_false : {X : Type 0} → true ≡ false → X
from_true_false e = absurd (true≢false e)

pub if_false : {X : Type 0} (b : Bool) (x y : X) → b ≡ false → (if b then x else y) ≡ y
if_false true x y e = absurd (from_false_true (sym e))
if_false false x y e = refl

pub or_false : (b : Bool) → (b || false) ≡ b
or_false true = refl
or_false false = refl

pub false_isnt_true : false ≡ true → ⊥
false_isnt_true e = subst (λ b. elim b as (λ _. Type 0) [ false ↦ Unit {0} | true ↦ ⊥ ]) e tt

pub one_of_three : (goes made waits : Bool) → goes && (not made && not waits) ≡ true → (goes ≡ true) × (made ≡ false) × (waits ≡ false)
one_of_three true false false h = (refl, refl, refl)
one_of_three true false true h = absurd (false_isnt_true h)
one_of_three true true waits h = absurd (false_isnt_true h)
one_of_three false made waits h = absurd (false_isnt_true h)

pub neither_of_or : (a b : Bool) → (a || b) ≡ false → (a ≡ false) × (b ≡ false)
neither_of_or false b h = (refl, h)
neither_of_or true b h = absurd (cc)

pub or_assoc : (a b c : Bool) → (a || b) || c ≡ a || (b || c)
or_assoc true b c = refl
or_assoc false b c = refl

pub or_true : (b : Bool) → (b || true) ≡ true
or_true true = refl
or_true false = refl

pub or_right : (a b : Bool) → b ≡ true → (a || b) ≡ true
or_right true b h = refl
or_right false b h = h

pub or_left : (a b : Bool) → a ≡ true → (a || b) ≡ true
or_left a b p = rw p refl

pub fifth_of_five : (a b c d e : Bool) → e ≡ true → (a || b || c || d || e) ≡ true
fifth_of_five true b c d e h = refl
fifth_of_five false true c d e h = refl
fifth_of_five false false true d e h = refl
fifth_of_five false false false true e h = refl
fifth_of_five false false false false e h = ap (λ x. false || false || false || false || x) h

pub both_true : (a b : Bool) → a ≡ true → b ≡ true → (a && b) ≡ true
both_true a b p q = rw (p, q) refl

pub both_of_and : (a b : Bool) → (a && b) ≡ true → (a ≡ true) × (b ≡ true)
both_of_and true b h = (refl, h)
both_of_and false b h = absurd (cc)

pub not_true_is_false : (b : Bool) → (b ≡ true → ⊥) → b ≡ false
not_true_is_false true h = absurd (h refl)
not_true_is_false false h = refl

pub one_of_or : (a b : Bool) → (a || b) ≡ true → (a ≡ true) ⊎ (b ≡ true)
one_of_or true b h = inl refl
one_of_or false b h = inr h

pub either_turned : {A B : Type 0} → A ⊎ B → B ⊎ A
either_turned (inl a) = inr a
either_turned (inr b) = inl b

pub negated_is_false : (b : Bool) → not b ≡ true → b ≡ false
negated_is_false true h = absurd (false_isnt_true h)
negated_is_false false h = refl

pub chosen : {A : Type 0} (P : A → Type 0) (b : Bool) (x y : A) → (b ≡ true → P x) → (b ≡ false → P y) → P (if b then x else y)
chosen P true x y here later = here refl
chosen P false x y here later = later refl

pub negated_is_true : (b : Bool) → not b ≡ false → b ≡ true
negated_is_true true h = refl
negated_is_true false h = sym h
