-- Lists of lists, two lists item by item, and lists of which some items are left out.
use Rattle.std.proofs.Common.{◌≡◌, ◌⊎◌, inl, inr, ℕ, zero, suc, Bool, true, false, if◌then◌else◌, List, [], ◌∷◌, Some, refl, sym, subst}
use Rattle.std.specs.Prelude.{filter, slice_get}
use Rattle.std.specs.List.{AllByRecursion, flat_map}
use Rattle.std.proofs.lemmas.Option.{none-some, same_Some}
use Rattle.m2_node.proofs.m2_links_go_on.m2_growth.Among.{in_part, one_back, one_front}
use Rattle.m2_node.specs.m2_links_go_on.m2_growth.Halves.{IsOneOf}
use Rattle.m2_node.specs.Lists.{SideBySide}

-- ---- lists of lists

-- in which of them it is
pub record OneAt {X Y : Type 0} (f : X → List Y) (y : Y) (xs : List X) : Type 0 where
  pub place : ℕ
  pub item : X
  pub there : slice_get xs place ≡ Some item
  pub one : IsOneOf y (f item)

pub one_at : {X Y : Type 0} (f : X → List Y) (y : Y) (xs : List X) → IsOneOf y (flat_map f xs) → OneAt f y xs
one_at f y [] i = absurd i
one_at f y (x ∷ xs) i = by (in_part y (f x) (flat_map f xs) i) (one_at f y xs)
  where
    by : IsOneOf y (f x) ⊎ IsOneOf y (flat_map f xs) → (IsOneOf y (flat_map f xs) → OneAt f y xs) → OneAt f y (x ∷ xs)
    by (inl h) rest = record { place = 0; item = x; there = refl; one = h }
    by (inr h) rest = let its = rest h in record { place = suc its.place; item = its.item; there = its.there; one = its.one }

pub at_one : {X Y : Type 0} (f : X → List Y) (y : Y) (xs : List X) (j : ℕ) (x : X) → slice_get xs j ≡ Some x → IsOneOf y (f x) → IsOneOf y (flat_map f xs)
at_one f y [] j x e i = absurd (none-some x e)
at_one f y (z ∷ xs) zero x e i = one_front y (f z) (flat_map f xs) (subst (λ w. IsOneOf y (f w)) (sym (same_Some z x e)) i)
at_one f y (z ∷ xs) (suc j) x e i = one_back y (f z) (flat_map f xs) (at_one f y xs j x e i)

-- ---- two lists, item by item

-- of one of the first its own of the second
pub record Beside {X Y : Type 0} (how : X → Y → Type 0) (x : X) (ys : List Y) : Type 0 where
  pub other : Y
  pub there : IsOneOf other ys
  pub is : how x other

pub beside : {X Y : Type 0} (how : X → Y → Type 0) (x : X) (xs : List X) (ys : List Y) → SideBySide how xs ys → IsOneOf x xs → Beside how x ys
beside how x [] ys all i = absurd i
beside how x (z ∷ xs) [] all i = absurd all
beside how x (z ∷ xs) (y ∷ ys) all (inl e) = record { other = y; there = inl refl; is = subst (λ w. how w y) (sym e) all.0 }
beside how x (z ∷ xs) (y ∷ ys) all (inr i) = let its = beside how x xs ys all.1 i in record { other = its.other; there = inr its.there; is = its.is }

pub turned : {X Y : Type 0} (how : X → Y → Type 0) (xs : List X) (ys : List Y) → SideBySide how xs ys → SideBySide (λ y x. how x y) ys xs
turned how [] [] all = tt
turned how [] (y ∷ ys) all = absurd all
turned how (x ∷ xs) [] all = absurd all
turned how (x ∷ xs) (y ∷ ys) all = (all.0, turned how xs ys all.1)

-- of that at a place of the first the one at that place of the second
pub record PlacedBeside {X Y : Type 0} (how : X → Y → Type 0) (x : X) (j : ℕ) (ys : List Y) : Type 0 where
  pub other : Y
  pub there : slice_get ys j ≡ Some other
  pub is : how x other

pub placed_beside : {X Y : Type 0} (how : X → Y → Type 0) (xs : List X) (ys : List Y) (j : ℕ) (x : X) → SideBySide how xs ys → slice_get xs j ≡ Some x → PlacedBeside how x j ys
placed_beside how [] ys j x all e = absurd (none-some x e)
placed_beside how (z ∷ xs) [] j x all e = absurd all
placed_beside how (z ∷ xs) (y ∷ ys) zero x all e = record { other = y; there = refl; is = subst (λ w. how w y) (same_Some z x e) all.0 }
placed_beside how (z ∷ xs) (y ∷ ys) (suc j) x all e = let its = placed_beside how xs ys j x all.1 e in record { other = its.other; there = its.there; is = its.is }

-- ---- some items are left out

pub all_filtered : {X : Type 0} (P : X → Type 0) (p : X → Bool) (xs : List X) → AllByRecursion P xs → AllByRecursion (λ x. P x × (p x ≡ true)) (filter p xs)
all_filtered P p [] all = tt
all_filtered P p (x ∷ xs) all = at (p x) refl (all_filtered P p xs all.1)
  where
    at : (b : Bool) → p x ≡ b → AllByRecursion (λ y. P y × (p y ≡ true)) (filter p xs) → AllByRecursion (λ y. P y × (p y ≡ true)) (if b then x ∷ filter p xs else filter p xs)
    at true e rest = ((all.0, e), rest)
    at false e rest = rest
