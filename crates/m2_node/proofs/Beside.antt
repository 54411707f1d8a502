-- Two lists item by item, and lists of lists.
use Rattle.std.proofs.Common.{◌≡◌, ℕ, zero, suc, List, [], ◌∷◌, ◌++◌, length, reverse, refl, sym, ap, subst, ◌∙◌, append_assoc, arith}
use Rattle.std.specs.Prelude.{slice_get, Some}
use Rattle.std.specs.List.{flat_map}
use Rattle.std.proofs.lemmas.List.{append-nil}
use Rattle.std.proofs.lemmas.List.Concat.{flat_map-append}
use Rattle.std.proofs.lemmas.Option.{none-some, same_Some}
use Rattle.m2_node.specs.Lists.{SideBySide, joined}
use Rattle.m2_node.proofs.Places.{reverse_last}

module _ {X Y : Type 0} (how : X → Y → Type 0) where
  pub side_both : (xs : List X) (ys : List Y) (us : List X) (vs : List Y) → SideBySide how xs ys → SideBySide how us vs → SideBySide how (xs ++ us) (ys ++ vs)
  side_both [] [] us vs a b = b
  side_both [] (y ∷ ys) us vs a b = elim a [ ]
  side_both (x ∷ xs) [] us vs a b = elim a [ ]
  side_both (x ∷ xs) (y ∷ ys) us vs a b = (a.0, side_both xs ys us vs a.1 b)

  pub side_last : (xs : List X) (ys : List Y) (x : X) (y : Y) → SideBySide how xs ys → how x y → SideBySide how (xs ++ x ∷ []) (ys ++ y ∷ [])
  side_last xs ys x y a b = side_both xs ys (x ∷ []) (y ∷ []) a (b, tt)

  pub side_length : (xs : List X) (ys : List Y) → SideBySide how xs ys → length ys ≡ length xs
  side_length [] [] a = refl
  side_length [] (y ∷ ys) a = elim a [ ]
  side_length (x ∷ xs) [] a = elim a [ ]
  side_length (x ∷ xs) (y ∷ ys) a = ap suc (side_length xs ys a.1)

  -- by places
  pub side_get : (xs : List X) (ys : List Y) → SideBySide how xs ys → (k : ℕ) (x : X) (y : Y) → slice_get xs k ≡ Some x → slice_get ys k ≡ Some y → how x y
  side_get [] ys a k x y p q = absurd (none-some x p)
  side_get (z ∷ xs) [] a k x y p q = elim a [ ]
  side_get (z ∷ xs) (w ∷ ys) a zero x y p q = subst (λ v. how v y) (same_Some z x p) (subst (how z) (same_Some w y q) a.0)
  side_get (z ∷ xs) (w ∷ ys) a (suc k) x y p q = side_get xs ys a.1 k x y p q

  pub side_of_each : (xs : List X) (ys : List Y) → length ys ≡ length xs → ((k : ℕ) (x : X) (y : Y) → slice_get xs k ≡ Some x → slice_get ys k ≡ Some y → how x y) → SideBySide how xs ys
  side_of_each [] [] same each = tt
  side_of_each [] (y ∷ ys) same each = absurd (omega (arith, same))
  side_of_each (x ∷ xs) [] same each = absurd (omega (arith, same))
  side_of_each (x ∷ xs) (y ∷ ys) same each =
      (each 0 x y refl refl, side_of_each xs ys (omega (arith, same)) (λ k v w p q. each (suc k) v w p q))

-- a relation that goes on to another one
pub side_so : {X Y : Type 0} (how so : X → Y → Type 0) (xs : List X) (ys : List Y) → ((x : X) (y : Y) → how x y → so x y) → SideBySide how xs ys → SideBySide so xs ys
side_so how so [] [] goes a = tt
side_so how so [] (y ∷ ys) goes a = elim a [ ]
side_so how so (x ∷ xs) [] goes a = elim a [ ]
side_so how so (x ∷ xs) (y ∷ ys) goes a = (goes x y a.0, side_so how so xs ys goes a.1)

-- one that goes over a list between
pub side_over : {X Y Z : Type 0} (how : X → Y → Type 0) (far : Y → Z → Type 0) (so : X → Z → Type 0) (xs : List X) (ys : List Y) (zs : List Z) →
    ((x : X) (y : Y) (z : Z) → how x y → far y z → so x z) → SideBySide how xs ys → SideBySide far ys zs → SideBySide so xs zs
side_over how far so [] [] [] goes a b = tt
side_over how far so [] [] (z ∷ zs) goes a b = elim b [ ]
side_over how far so [] (y ∷ ys) zs goes a b = elim a [ ]
side_over how far so (x ∷ xs) [] zs goes a b = elim a [ ]
side_over how far so (x ∷ xs) (y ∷ ys) [] goes a b = elim b [ ]
side_over how far so (x ∷ xs) (y ∷ ys) (z ∷ zs) goes a b = (goes x y z a.0 b.0, side_over how far so xs ys zs goes a.1 b.1)

-- the same lists of both
pub side_flat : {X Y A : Type 0} (how : X → Y → Type 0) (f : X → List A) (g : Y → List A) (xs : List X) (ys : List Y) → ((x : X) (y : Y) → how x y → g y ≡ f x) → SideBySide how xs ys →
    flat_map g ys ≡ flat_map f xs
side_flat how f g [] [] same a = refl
side_flat how f g [] (y ∷ ys) same a = elim a [ ]
side_flat how f g (x ∷ xs) [] same a = elim a [ ]
side_flat how f g (x ∷ xs) (y ∷ ys) same a = ap (λ zs. zs ++ flat_map g ys) (same x y a.0) ∙ ap (λ zs. f x ++ zs) (side_flat how f g xs ys same a.1)

-- ---- lists of lists

pub joined_both : {X : Type 0} (xss yss : List (List X)) → joined (xss ++ yss) ≡ joined xss ++ joined yss
joined_both xss yss = flat_map-append (λ xs. xs) xss yss

pub joined_one : {X : Type 0} (xs : List X) → joined (xs ∷ []) ≡ xs
joined_one xs = append-nil xs

-- ---- a list that is turned round, from its last item on

pub next_turned : {X : Type 0} (all gone left rest : List X) (x : X) → all ≡ gone ++ reverse left → left ≡ rest ++ x ∷ [] → all ≡ (gone ++ x ∷ []) ++ reverse rest
next_turned all gone left rest x split last =
    split ∙ ap (λ xs. gone ++ xs) (ap reverse last ∙ reverse_last rest x) ∙ sym (append_assoc gone (x ∷ []) (reverse rest))
