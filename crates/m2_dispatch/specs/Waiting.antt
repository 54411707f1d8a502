-- How the letters that wait lie in a queue of ranks. A priority has two ranks: the lower one of letters that came in,
-- and the upper one of a letter that was taken out and came back, of which there is at most one.
use Rattle.std.specs.Prelude.{ℕ, ◌+◌, ◌*◌, ◌≤◌, List, [], ◌∷◌, map}
use Rattle.std.specs.List.{AllByRecursion}
use Rattle.m2_queues.specs.PriorityQueue.{Ranked, item_of}
use Rattle.m2_dispatch.specs.declared.letter.Letter.{Letter}
use Rattle.m2_dispatch.specs.Letters.{letter_priority}

abbrev pub letters_in : List (Ranked Letter) → List Letter
letters_in rs = map item_of rs

-- the lower rank of its priority
abbrev pub lower_rank : Letter → ℕ
lower_rank l = 2 * letter_priority l

-- all the others have at most the lower rank of its priority
abbrev pub GoesFirst : Letter → List (Ranked Letter) → Type 0
GoesFirst l rs = AllByRecursion (λ (r : Ranked Letter). r.rank ≤ lower_rank l) rs

-- each has one of the two ranks of its priority, and goes first of those behind it
abbrev pub IsOrdered : List (Ranked Letter) → Type 0
IsOrdered [] = Unit {0}
IsOrdered (r ∷ rs) =
    (lower_rank r.item ≤ r.rank) × (r.rank ≤ lower_rank r.item + 1) × GoesFirst r.item rs × IsOrdered rs
