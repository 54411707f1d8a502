-- A priority queue as contracts see it: its items in the order in which they come out, each with its rank.
use Rattle.std.specs.Prelude.{ℕ, Option, Some, None, List, [], ◌∷◌}
use Rattle.m2_queues.specs.ByRank.{put_behind}

-- an item with the rank that it went in with
pub record Ranked (T : Type 0) : Type 0 where
  pub rank : ℕ
  pub item : T

-- the items in the order in which they come out, and how many more go in for certain
pub record Line (T : Type 0) : Type 0 where
  pub items : List (Ranked T)
  pub room : ℕ

abbrev pub rank_of : {T : Type 0} → Ranked T → ℕ
rank_of r = r.rank

abbrev pub item_of : {T : Type 0} → Ranked T → T
item_of r = r.item

-- an item joins, behind all of its rank and of greater ones
abbrev pub joined : {T : Type 0} → ℕ → T → List (Ranked T) → List (Ranked T)
joined rank item rs = put_behind rank_of (record { rank = rank; item = item }) rs

-- the item that comes out next
abbrev pub first_item : {T : Type 0} → List (Ranked T) → Option T
first_item [] = None
first_item (r ∷ rs) = Some r.item

-- and its rank
abbrev pub first_rank : {T : Type 0} → List (Ranked T) → Option ℕ
first_rank [] = None
first_rank (r ∷ rs) = Some r.rank
