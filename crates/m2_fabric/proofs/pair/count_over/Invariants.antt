-- The sockets before the place are over both ways.
use Rattle.std.proofs.Common.{◌-◌, length}
use Rattle.m2_fabric.specs.Over.{AreOver}
use Rattle.m2_fabric.proofs.pair.count_over.Given as goal

abbrev pub invariant-loop-over : goal.invariant-loop-over
invariant-loop-over l = AreOver l.over l.sockets

abbrev pub decreases-loop-over : goal.decreases-loop-over
decreases-loop-over l = length l.sockets - l.over
