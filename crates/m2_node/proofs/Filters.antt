-- What the library lacks of filters.
use Rattle.std.proofs.Common.{◌≡◌, ◌∙◌, Bool, true, false, List, [], ◌∷◌, map, refl, ap}
use Rattle.std.specs.Prelude.{filter, if◌then◌else◌}
use Rattle.std.specs.List.{AllByRecursion, IsDistinct}

-- a filter behind a map
pub filter_mapped : {X Y : Type 0} (f : X → Y) (test : Y → Bool) (xs : List X) → filter test (map f xs) ≡ map f (filter (λ x. test (f x)) xs)
filter_mapped f test [] = refl
filter_mapped f test (x ∷ xs) = go (test (f x)) (filter_mapped f test xs)
  where
    go : (b : Bool) → filter test (map f xs) ≡ map f (filter (λ y. test (f y)) xs) → (if b then f x ∷ filter test (map f xs) else filter test (map f xs)) ≡ map f (if b then x ∷ filter (λ y. test (f y)) xs else filter (λ y. test (f y)) xs)
    go true rest = ap (λ ys. f x ∷ ys) rest
    go false rest = rest

-- what parts the items of a list parts those that are left of it
all_of_kept : {X Y : Type 0} (P : Y → Type 0) (f : X → Y) (test : X → Bool) (xs : List X) → AllByRecursion P (map f xs) → AllByRecursion P (map f (filter test xs))
all_of_kept P f test [] all = tt
all_of_kept P f test (x ∷ xs) all = go (test x) (all_of_kept P f test xs all.1)
  where
    go : (b : Bool) → AllByRecursion P (map f (filter test xs)) → AllByRecursion P (map f (if b then x ∷ filter test xs else filter test xs))
    go true rest = (all.0, rest)
    go false rest = rest

pub distinct_filter : {X Y : Type 0} (e : Y → Y → Bool) (f : X → Y) (test : X → Bool) (xs : List X) → IsDistinct e (map f xs) → IsDistinct e (map f (filter test xs))
unfolding IsDistinct
distinct_filter e f test [] apart = apart
distinct_filter e f test (x ∷ xs) apart = go (test x) (distinct_filter e f test xs apart.1)
  where
    go : (b : Bool) → IsDistinct e (map f (filter test xs)) → IsDistinct e (map f (if b then x ∷ filter test xs else filter test xs))
    go true rest = (all_of_kept (λ y. e (f x) y ≡ false) f test xs apart.0, rest)
    go false rest = rest

-- two maps that agree where the test passes
pub map_kept : {X Y : Type 0} (f g : X → Y) (test : X → Bool) → ((x : X) → test x ≡ true → f x ≡ g x) → (xs : List X) → map f (filter test xs) ≡ map g (filter test xs)
map_kept f g test so [] = refl
map_kept f g test so (x ∷ xs) = go (test x) refl (map_kept f g test so xs)
  where
    go : (b : Bool) → test x ≡ b → map f (filter test xs) ≡ map g (filter test xs) → map f (if b then x ∷ filter test xs else filter test xs) ≡ map g (if b then x ∷ filter test xs else filter test xs)
    go true e rest = ap (λ y. y ∷ map f (filter test xs)) (so x e) ∙ ap (λ ys. g x ∷ ys) rest
    go false e rest = rest
