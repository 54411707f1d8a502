-- How a word that says what is held goes along with it, and sums of what is held.
use Rattle.std.proofs.Common.{◌≡◌, ℕ, zero, suc, ◌+◌, ◌-◌, ◌++◌, List, [], ◌∷◌, slice_get, slice_set, Bool, true, false, Some, refl, ap, arith}
use Rattle.std.specs.Prelude.{sum_by}
use Rattle.std.proofs.lemmas.List.Sums.{sum_by-append, sum_by-cons}
use Rattle.m2_dispatch.specs.declared.parcel.Parcel.{Parcel}
use Rattle.m2_dispatch.specs.m2_shared.Gates.{Gate}
use Rattle.m2_fabric.proofs.m2_lemmas.Options.{some_same}
use Rattle.m2_script.specs.m2_center.m2_record.Calls.{all_granted, told_parcels}

-- ---- a word beside what is held

-- where the word was what is held, with whatever is held besides, it is so again
abbrev pub Follows : (before behind old new : ℕ) → Type 0
Follows before behind old new = (rest : ℕ) → before ≡ old + rest → behind ≡ new + rest

pub given : (n before behind old new : ℕ) → behind ≡ before - n → new + n ≡ old → Follows before behind old new
given n before behind old new word amount rest h = omega (arith, word, amount, h)

-- what was drawn besides what was held is held
pub kept : (was is before behind old new : ℕ) → behind + was ≡ before + is → new + was ≡ old + is → Follows before behind old new
kept was is before behind old new word amount rest h = omega (arith, word, amount, h)

pub stays : (before behind old new : ℕ) → behind ≡ before → new ≡ old → Follows before behind old new
stays before behind old new word amount rest h = omega (arith, word, amount, h)

pub along : (first mid last old between new : ℕ) → Follows first mid old between → Follows mid last between new → Follows first last old new
along first mid last old between new f g rest h = g rest (f rest h)

pub beside : (k before behind old new : ℕ) → Follows before behind old new → Follows before behind (old + k) (new + k)
beside k before behind old new f rest h = let e = f (k + rest) (omega (arith, h)) in omega (arith, e)

-- what is held is told in other words
pub as_held : (before behind old new was is : ℕ) → was ≡ old → is ≡ new → Follows before behind old new → Follows before behind was is
as_held before behind old new was is o n f rest h = let e = f rest (omega (arith, o, h)) in omega (arith, n, e)

-- ---- parcels

pub granted_behind : (gate : Gate) (xs ys : List Parcel) → all_granted (xs ++ ys) gate ≡ all_granted xs gate + all_granted ys gate
granted_behind gate [] ys = omega arith
granted_behind gate (x ∷ xs) ys = let e = granted_behind gate xs ys in omega (arith, e)

told_none : (gate : Gate) (place : ℕ) (discarded reset : Bool) → all_granted (told_parcels place discarded reset) gate ≡ 0
told_none gate place true true = refl
told_none gate place true false = refl
told_none gate place false true = refl
told_none gate place false false = refl

-- nothing is granted for what tells of a session
pub told_behind : (gate : Gate) (xs : List Parcel) (place : ℕ) (discarded reset : Bool) → all_granted (xs ++ told_parcels place discarded reset) gate ≡ all_granted xs gate
told_behind gate xs place discarded reset =
    let all = granted_behind gate xs (told_parcels place discarded reset) in
    let none = told_none gate place discarded reset in
    omega (arith, all, none)

-- ---- one of many

pub sum_first : {X : Type 0} (f : X → ℕ) (x : X) (xs : List X) → sum_by f (x ∷ xs) ≡ f x + sum_by f xs
sum_first f x xs = sum_by-cons f x xs

pub sum_behind : {X : Type 0} (f : X → ℕ) (xs ys : List X) → sum_by f (xs ++ ys) ≡ sum_by f xs + sum_by f ys
sum_behind f xs ys = sum_by-append f xs ys

-- one is another now
pub sum_set : {X : Type 0} (f : X → ℕ) (xs : List X) (k : ℕ) (x y : X) → slice_get xs k ≡ Some x → sum_by f (slice_set xs k y) + f x ≡ sum_by f xs + f y
sum_set f [] k x y at = absurd (cc at)
sum_set f (z ∷ xs) zero x y at =
    let is = ap f (some_same z x at) in
    let was = sum_first f z xs in
    let now = sum_first f y xs in
    omega (arith, is, was, now)
sum_set f (z ∷ xs) (suc k) x y at =
    let was = sum_first f z xs in
    let now = sum_first f z (slice_set xs k y) in
    let rest = sum_set f xs k x y at in
    omega (arith, was, now, rest)

-- it is one part of the sum
pub sum_has : {X : Type 0} (f : X → ℕ) (xs : List X) (k : ℕ) (x : X) → slice_get xs k ≡ Some x → (rest : ℕ) × (sum_by f xs ≡ f x + rest)
sum_has f [] k x at = absurd (cc at)
sum_has f (z ∷ xs) zero x at = (sum_by f xs, let is = ap f (some_same z x at) in let all = sum_first f z xs in omega (arith, is, all))
sum_has f (z ∷ xs) (suc k) x at =
    let rest = sum_has f xs k x at in
    (f z + rest.0, let all = sum_first f z xs in let is = rest.1 in omega (arith, all, is))
