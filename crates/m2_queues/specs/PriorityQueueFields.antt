-- How the items of a priority queue lie in its lane, which has those of one rank, and in its heap, which has the
-- others; and the list that contracts see of them.
use Rattle.std.specs.Prelude.{◌≡◌, ◌≢◌, ◌==◌, ℕ, ◌+◌, ◌<◌, ◌≤◌, ◌^◌, Bool, true, not, ◌&&◌, List, [], ◌∷◌, ◌++◌, Option, Some, None, length, map, nat_lt, if◌then◌else◌}
use Rattle.std.specs.List.{AllByRecursion}
use Rattle.std.specs.VecDeque.{deque_len, deque_capacity}
use Rattle.m2_queues.specs.PriorityQueue.{Ranked, Line}
use Rattle.m2_queues.specs.declared.priority_queue.PriorityQueue.TheInside.{Inside}

abbrev pub at_rank : {T : Type 0} → ℕ → T → Ranked T
at_rank rank item = record { rank = rank; item = item }

-- items of one rank among others, behind all of a greater rank
abbrev pub placed_among : {T : Type 0} → ℕ → List (Ranked T) → List (Ranked T) → List (Ranked T)
placed_among rank lane [] = lane
placed_among rank lane (r ∷ rs) = if nat_lt rank r.rank then r ∷ placed_among rank lane rs else lane ++ r ∷ rs

abbrev pub items_among : {T : Type 0} → ℕ → List T → List (Ranked T) → List (Ranked T)
items_among rank lane others = placed_among rank (map (at_rank rank) lane) others

-- whether the lane's first item comes out before the first of the others, or there is no other
abbrev pub goes_before_others : ℕ → Bool → Option ℕ → Bool
goes_before_others rank empty None = true
goes_before_others rank empty (Some other) = not empty && nat_lt other rank

-- a lane gets another rank where there is no item
abbrev pub rank_for : ℕ → ℕ → ℕ → ℕ
rank_for len lane_rank rank = if len == 0 then rank else lane_rank

abbrev pub IsOfAnother : {T : Type 0} → ℕ → Ranked T → Type 0
IsOfAnother rank r = r.rank ≢ rank

abbrev pub line_of : {T : Type 0} → Inside T → Line T
line_of w = record { items = items_among w.lane_rank w.lane.items w.others.items; room = w.room }

-- what holds of the fields of a queue
pub record IsLine {T : Type 0} (w : Inside T) : Type 0 where
  pub apart : AllByRecursion (IsOfAnother w.lane_rank) w.others.items
  pub counted : w.len ≡ deque_len w.lane + length w.others.items
  pub fits : w.len + w.room < 2 ^ 64
  pub lane_room : deque_len w.lane + w.room ≤ deque_capacity w.lane
  pub others_room : w.room ≤ w.others.room
