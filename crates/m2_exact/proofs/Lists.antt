-- Lists of which a function makes the same.
use Rattle.std.proofs.Common.{◌≡◌, ℕ, zero, suc, List, [], ◌∷◌, length, map, slice_get, slice_set, Option, Some, refl, sym, ◌∙◌, ap, arith}
use Rattle.std.specs.List.{AllByRecursion}
use Rattle.m2_fabric.proofs.m2_lemmas.Lists.{cons_same}

pub mapped_twice : {X Y Z : Type 0} (f : Y → Z) (g : X → Y) (xs : List X) → map f (map g xs) ≡ map (λ x. f (g x)) xs
mapped_twice f g [] = refl
mapped_twice f g (x ∷ xs) = ap (λ ys. f (g x) ∷ ys) (mapped_twice f g xs)

-- ---- at a place

pub map_get : {X Y : Type 0} (f : X → Y) (xs ys : List X) (k : ℕ) (x y : X) → map f xs ≡ map f ys → slice_get xs k ≡ Some x → slice_get ys k ≡ Some y → f x ≡ f y
map_get f [] ys k x y same h g = absurd (cc h)
map_get f (a ∷ xs) [] k x y same h g = absurd (cc g)
map_get f (a ∷ xs) (b ∷ ys) zero x y same h g = ap f (sym (one a x h)) ∙ (cons_same (f a) (f b) (map f xs) (map f ys) same).0 ∙ ap f (one b y g)
  where
    one : {X : Type 0} (p q : X) → Some p ≡ Some q → p ≡ q
    one p q e = cc e
map_get f (a ∷ xs) (b ∷ ys) (suc k) x y same h g = map_get f xs ys k x y (cons_same (f a) (f b) (map f xs) (map f ys) same).1 h g

pub map_set : {X Y : Type 0} (f : X → Y) (xs ys : List X) (k : ℕ) (x y : X) → map f xs ≡ map f ys → f x ≡ f y → map f (slice_set xs k x) ≡ map f (slice_set ys k y)
map_set f [] [] k x y same e = refl
map_set f [] (b ∷ ys) k x y same e = absurd (cc same)
map_set f (a ∷ xs) [] k x y same e = absurd (cc same)
map_set f (a ∷ xs) (b ∷ ys) zero x y same e = ap (λ z. z ∷ map f xs) e ∙ ap (λ zs. f y ∷ zs) (cons_same (f a) (f b) (map f xs) (map f ys) same).1
map_set f (a ∷ xs) (b ∷ ys) (suc k) x y same e =
    let both = cons_same (f a) (f b) (map f xs) (map f ys) same in
    ap (λ z. z ∷ map f (slice_set xs k x)) both.0 ∙ ap (λ zs. f b ∷ zs) (map_set f xs ys k x y both.1 e)

-- what is said of an item, if there is one, by what the function makes of it
pub said_at : {X Y Z : Type 0} (f : X → Y) (says : Option X → Z) → ((x y : X) → f x ≡ f y → says (Some x) ≡ says (Some y)) → (xs ys : List X) → map f xs ≡ map f ys → (k : ℕ) →
    says (slice_get xs k) ≡ says (slice_get ys k)
said_at f says so [] [] same k = refl
said_at f says so [] (y ∷ ys) same k = absurd (cc same)
said_at f says so (x ∷ xs) [] same k = absurd (cc same)
said_at f says so (x ∷ xs) (y ∷ ys) same zero = so x y (cons_same (f x) (f y) (map f xs) (map f ys) same).0
said_at f says so (x ∷ xs) (y ∷ ys) same (suc k) = said_at f says so xs ys (cons_same (f x) (f y) (map f xs) (map f ys) same).1 k

-- lists that are as long, and of which it makes the same at each place
pub by_places : {X Y : Type 0} (f : X → Y) (xs ys : List X) → length xs ≡ length ys → ((k : ℕ) (x y : X) → slice_get xs k ≡ Some x → slice_get ys k ≡ Some y → f x ≡ f y) → map f xs ≡ map f ys
by_places f [] [] many at = refl
by_places f [] (y ∷ ys) many at = absurd (omega (arith, many))
by_places f (x ∷ xs) [] many at = absurd (omega (arith, many))
by_places f (x ∷ xs) (y ∷ ys) many at =
    ap (λ z. z ∷ map f xs) (at zero x y refl refl) ∙ ap (λ zs. f y ∷ zs) (by_places f xs ys (omega (arith, many)) (λ k. at (suc k)))

-- in a list as long as another there is an item where the other has one
pub there_too : {X Y : Type 0} (xs : List X) (ys : List Y) (k : ℕ) (y : Y) → length xs ≡ length ys → slice_get ys k ≡ Some y → (x : X) × (slice_get xs k ≡ Some x)
there_too xs [] k y many is = absurd (cc is)
there_too [] (z ∷ ys) k y many is = absurd (omega (arith, many))
there_too (x ∷ xs) (z ∷ ys) zero y many is = (x, refl)
there_too (x ∷ xs) (z ∷ ys) (suc k) y many is = there_too xs ys k y (omega (arith, many)) is

-- ---- what holds of all

pub all_set : {X : Type 0} (P : X → Type 0) (xs : List X) (k : ℕ) (x : X) → AllByRecursion P xs → P x → AllByRecursion P (slice_set xs k x)
all_set P [] k x all p = tt
all_set P (y ∷ ys) zero x all p = (p, all.1)
all_set P (y ∷ ys) (suc k) x all p = (all.0, all_set P ys k x all.1 p)

pub of_set : {X : Type 0} (P : X → Type 0) (xs : List X) (k : ℕ) (was x : X) → slice_get xs k ≡ Some was → AllByRecursion P (slice_set xs k x) → P x
of_set P [] k was x at all = absurd (cc at)
of_set P (y ∷ ys) zero was x at all = all.0
of_set P (y ∷ ys) (suc k) was x at all = of_set P ys k was x at all.1

-- what holds of each item by what a function makes of it
pub all_like : {X Y : Type 0} (f : X → Y) (P : X → Type 0) → ((x y : X) → f x ≡ f y → P x → P y) → (xs ys : List X) → map f xs ≡ map f ys → AllByRecursion P xs → AllByRecursion P ys
all_like f P so [] [] same all = tt
all_like f P so [] (y ∷ ys) same all = absurd (cc same)
all_like f P so (x ∷ xs) [] same all = absurd (cc same)
all_like f P so (x ∷ xs) (y ∷ ys) same all =
    let both = cons_same (f x) (f y) (map f xs) (map f ys) same in
    (so x y both.0 all.0, all_like f P so xs ys both.1 all.1)
