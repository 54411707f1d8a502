use Rattle.std.proofs.Common.{◌≡◌, ◌+◌, ◌++◌, drop, take}
use Rattle.std.specs.VecDeque.{deque_len, deque_capacity}
use Rattle.m2_queues.proofs.kept_line.move_taken.Given as goal

-- those so far are moved
abbrev pub invariant-loop-n : goal.invariant-loop-n
invariant-loop-n l = record {
  front : l.front.items ≡ l.initial.front.items ++ take l.n l.initial.lane.items;
  front_len : deque_len l.front ≡ deque_len l.initial.front + l.n;
  front_capacity : deque_capacity l.front ≡ deque_capacity l.initial.front;
  lane : l.lane.items ≡ drop l.n l.initial.lane.items;
  lane_len : deque_len l.lane + l.n ≡ deque_len l.initial.lane;
  lane_capacity : deque_capacity l.lane ≡ deque_capacity l.initial.lane;
}
