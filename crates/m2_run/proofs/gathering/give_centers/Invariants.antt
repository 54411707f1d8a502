-- Those before the ones that are left, which are turned round, have given.
use Rattle.std.proofs.Common.{length}
use Rattle.m2_run.proofs.Giving.{HaveGiven}
use Rattle.m2_run.proofs.gathering.give_centers.Given as goal

abbrev pub invariant-centers : goal.invariant-centers
invariant-centers g l = HaveGiven l.cuts l.fn.centers.items l.centers.items l.fn.into l.into

abbrev pub decreases-centers : goal.decreases-centers
decreases-centers g l = length l.centers.items
