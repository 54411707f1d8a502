use Rattle.std.proofs.Common.{◌≡◌, ◌+◌, ◌≤◌, ◌++◌, length}
use Rattle.std.specs.Vec.Iter.{into_iter_items}
use Rattle.m2_record_trace.proofs.side.move_all.Given as goal

-- with those that are left it has all, and they have room
abbrev pub invariant-closed : goal.invariant-closed
invariant-closed l =
    (l.loose.items ++ into_iter_items l.half-iterator ≡ l.initial.loose.items ++ into_iter_items l.initial.half-iterator)
    × (length (into_iter_items l.half-iterator) ≤ l.loose.room)
    × (l.loose.room + length (into_iter_items l.initial.half-iterator) ≡ l.initial.loose.room + length (into_iter_items l.half-iterator))
