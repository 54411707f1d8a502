use Rattle.std.proofs.Common.{◌≡◌, ◌++◌, length, map}
use Rattle.m2_trail.specs.Arrivals.{left_of}
use Rattle.m2_handover.proofs.door.leave_halves.Given as goal

abbrev pub invariant-halves : goal.invariant-halves
invariant-halves g l = l.left.items ++ map left_of l.halves.items ≡ l.fn.left.items ++ map left_of l.fn.halves.items

abbrev pub decreases-halves : goal.decreases-halves
decreases-halves g l = length l.halves.items
