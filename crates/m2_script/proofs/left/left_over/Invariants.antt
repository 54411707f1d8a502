-- With those of the ways that are left they are all.
use Rattle.std.proofs.Common.{◌≡◌, ◌+◌, drop, sum_by}
use Rattle.m2_script.specs.Ways.{left_of}
use Rattle.m2_script.proofs.left.left_over.Given as goal

abbrev pub invariant-loop-way : goal.invariant-loop-way
invariant-loop-way l = l.left + sum_by (left_of l.logs) (drop l.way-index l.ways) ≡ sum_by (left_of l.logs) l.ways
