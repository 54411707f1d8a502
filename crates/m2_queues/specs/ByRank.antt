-- The order of a rank: the greatest rank first, and inside one rank the order as it was. A whole list is put
-- into it, and one item more joins a list that is in it.
use Rattle.std.specs.Prelude.{◌≡◌, ℕ, ◌==◌, ◌≤◌, Bool, nat_lt, if◌then◌else◌, List, [], ◌∷◌, All, filter}
use Rattle.std.specs.List.Sorted.{IsPermutation, IsSortedBy, IsStableBy}
use Rattle.std.specs.Fn.{Shared}
use denote.Ref.{Bor}

-- an item goes before all of its rank and of lower ones
abbrev pub put_before : {X : Type 0} → (X → ℕ) → X → List X → List X
put_before rank x [] = x ∷ []
put_before rank x (y ∷ ys) = if nat_lt (rank x) (rank y) then y ∷ put_before rank x ys else x ∷ y ∷ ys

-- an item goes behind all of its rank and of greater ones
abbrev pub put_behind : {X : Type 0} → (X → ℕ) → X → List X → List X
put_behind rank x [] = x ∷ []
put_behind rank x (y ∷ ys) = if nat_lt (rank y) (rank x) then x ∷ y ∷ ys else y ∷ put_behind rank x ys

-- the greatest rank first, and inside one rank the order as it was
abbrev pub by_rank : {X : Type 0} → (X → ℕ) → List X → List X
by_rank rank [] = []
by_rank rank (x ∷ xs) = put_before rank x (by_rank rank xs)

-- no item has a greater rank than one before it
abbrev pub IsFalling : {X : Type 0} → (X → ℕ) → List X → Type 0
IsFalling rank [] = Unit {0}
IsFalling rank (x ∷ xs) = All (λ y. rank y ≤ rank x) xs × IsFalling rank xs

-- the items of one rank, in order
abbrev pub of_rank : {X : Type 0} → (X → ℕ) → ℕ → List X → List X
of_rank rank n xs = filter (λ x. rank x == n) xs

-- an item goes before another one where its rank is greater
abbrev pub goes_before : {X : Type 0} → (X → ℕ) → X → X → Bool
goes_before rank x y = nat_lt (rank y) (rank x)

-- ys is what a stable sort makes of xs: the same items, none before one that goes before it, and those of one
-- rank in the order that they had
pub record IsStableSort {X : Type 0} (rank : X → ℕ) (xs ys : List X) : Type 0 where
  pub same : IsPermutation xs ys
  pub sorted : IsSortedBy (goes_before rank) ys
  pub stable : IsStableBy (goes_before rank) xs ys

-- each call of the closure gives the rank of the item that it is shown
abbrev pub Ranks : {F X : Type 0} → Shared F (Bor X × Unit {0}) ℕ → F → (X → ℕ) → Type 0
Ranks {F} {X} g f rank = (shown : Bor X) (r : ℕ) → g.post f (shown, tt) r → r ≡ rank shown.now
