use Rattle.std.proofs.Common.{◌≡◌, ◌+◌, ◌≤◌, ◌++◌, length, map}
use Rattle.std.specs.Vec.Iter.{into_iter_items}
use Rattle.m2_trail.specs.Arrivals.{left_of}
use Rattle.m2_record_trace.proofs.side.leave_all.Given as goal

-- with those that are left it has all, and they have room
abbrev pub invariant-open : goal.invariant-open
invariant-open l =
    (l.loose.items ++ map left_of (into_iter_items l.half-iterator) ≡ l.initial.loose.items ++ map left_of (into_iter_items l.initial.half-iterator))
    × (length (into_iter_items l.half-iterator) ≤ l.loose.room)
    × (l.loose.room + length (into_iter_items l.initial.half-iterator) ≡ l.initial.loose.room + length (into_iter_items l.half-iterator))
