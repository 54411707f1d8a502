-- What is promised of every merge: taking whatever may come finds an order of all entries exactly where there is one.
use Rattle.std.specs.Prelude.{◌≡◌, ℕ, List, length, slice_index}
use Rattle.m2_weave.specs.Order.{Cut, Rule, StaysMet, AtMost, AreLawful, IsStuck, IsOrder, IsGreedy, nothing, reached}
use Rattle.m2_weave.specs.Both.{times}
use Rattle.m2_weave.specs.Counted.{Strands, by_counters}

-- where nothing may come no order has gone further
abbrev pub StuckIsTheEnd : Type 0
StuckIsTheEnd = (rule : Rule) (all at : Cut) (order : List ℕ) → StaysMet rule → length at ≡ length all → IsStuck rule all at →
    AreLawful rule all (nothing all) order → AtMost (reached all order) at

-- where there is an order of all, a greedy one is one of all
abbrev pub GreedyIsAnOrder : Type 0
GreedyIsAnOrder = (rank : ℕ → ℕ) (rule : Rule) (all : Cut) (greedy order : List ℕ) → StaysMet rule →
    IsGreedy rank rule all greedy → IsOrder rule all order → IsOrder rule all greedy

-- all greedy orders stop at one cut, whatever the ranks
abbrev pub StopsAreOne : Type 0
StopsAreOne = (one other : ℕ → ℕ) (rule : Rule) (all : Cut) (xs ys : List ℕ) → StaysMet rule →
    IsGreedy one rule all xs → IsGreedy other rule all ys → reached all xs ≡ reached all ys

-- by counters what is met stays met
abbrev pub CountedStaysMet : Type 0
CountedStaysMet = (strands : Strands) → StaysMet (by_counters strands)

-- an order of all names each strand as often as it has entries
abbrev pub OrderNamesAll : Type 0
OrderNamesAll = (rule : Rule) (all : Cut) (order : List ℕ) → IsOrder rule all order → (k : ℕ) → times k order ≡ slice_index all k
