use Rattle.std.proofs.Common.{◌≡◌, ◌++◌, length, map}
use Rattle.m2_handover.specs.Handed.{left_behind}
use Rattle.m2_handover.proofs.door.leave_asked.Given as goal

abbrev pub invariant-asked : goal.invariant-asked
invariant-asked g l = l.left.items ++ map left_behind l.asked.items ≡ l.fn.left.items ++ map left_behind l.fn.asked.items

abbrev pub decreases-asked : goal.decreases-asked
decreases-asked g l = length l.asked.items
