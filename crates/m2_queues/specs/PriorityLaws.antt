-- What holds of the order of a rank.
use Rattle.std.specs.Prelude.{◌≡◌, ℕ, List, [], ◌∷◌, ◌++◌}
use Rattle.m2_queues.specs.ByRank.{put_behind, by_rank, IsFalling, of_rank, IsStableSort}

-- the list in the order of the rank is a stable sort of the list
abbrev pub ByRankIsAStableSort : {X : Type 0} → (X → ℕ) → Type 0
ByRankIsAStableSort {X} rank = (xs : List X) → IsStableSort rank xs (by_rank rank xs)

-- and the only one
abbrev pub NoOtherIsAStableSort : {X : Type 0} → (X → ℕ) → Type 0
NoOtherIsAStableSort {X} rank = (xs ys : List X) → IsStableSort rank xs ys → ys ≡ by_rank rank xs

-- one item more at the end of what is sorted joins what was sorted
abbrev pub JoiningIsSorting : {X : Type 0} → (X → ℕ) → Type 0
JoiningIsSorting {X} rank = (xs : List X) (x : X) → by_rank rank (xs ++ x ∷ []) ≡ put_behind rank x (by_rank rank xs)

-- what falls in rank still does when an item joins it
abbrev pub JoiningKeepsTheOrder : {X : Type 0} → (X → ℕ) → Type 0
JoiningKeepsTheOrder {X} rank = (xs : List X) (x : X) → IsFalling rank xs → IsFalling rank (put_behind rank x xs)

-- of each rank the item that joins is the last, and the others stay as they were
abbrev pub EachRankKeepsItsOrder : {X : Type 0} → (X → ℕ) → Type 0
EachRankKeepsItsOrder {X} rank = (xs : List X) (x : X) (n : ℕ) → IsFalling rank xs →
    of_rank rank n (put_behind rank x xs) ≡ of_rank rank n xs ++ of_rank rank n (x ∷ [])
