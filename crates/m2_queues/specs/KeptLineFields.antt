-- How the messages of an outgoing queue lie: the first ones of the lane are kept, behind those of the front.
use Rattle.std.specs.Prelude.{◌≡◌, ◌+◌, ◌≤◌, ◌++◌, drop, length, take}
use Rattle.std.specs.List.{AllByRecursion}
use Rattle.std.specs.VecDeque.{deque_len, deque_capacity}
use Rattle.m2_queues.specs.KeptLine.{KeptAndWaiting}
use Rattle.m2_queues.specs.PriorityQueueFields.{IsOfAnother, items_among}
use Rattle.m2_queues.specs.declared.kept_line.KeptLine.TheInside.{Inside}

abbrev pub kept_of : Inside → KeptAndWaiting
kept_of w = record {
  kept = w.front.items ++ take w.taken w.lane.items;
  waiting = items_among w.lane_rank (drop w.taken w.lane.items) w.others.items;
  room = w.room;
}

-- what holds of the fields: all that is kept in the lane, waits or may wait has room in the front
pub record IsKeptLine (w : Inside) : Type 0 where
  pub taken : w.taken ≤ deque_len w.lane
  pub apart : AllByRecursion (IsOfAnother w.lane_rank) w.others.items
  pub counted : w.len + w.taken ≡ deque_len w.lane + length w.others.items
  pub lane_room : deque_len w.lane + w.room ≤ deque_capacity w.lane
  pub others_room : w.room ≤ w.others.room
  pub front_room : deque_len w.front + w.len + w.taken + w.room ≤ deque_capacity w.front
