-- Where the sockets of the centers that are left are met all are.
use Rattle.std.proofs.Common.{drop}
use Rattle.m2_run.specs.Still.{AreMetOf}
use Rattle.m2_run.proofs.Leaves.{made_over}
use Rattle.m2_run.proofs.still.are_met_over.Given as goal

abbrev pub invariant-centers : goal.invariant-centers
invariant-centers g l = AreMetOf l.to.at l.near l.far (made_over (drop l.center-index l.centers)) → AreMetOf l.to.at l.near l.far (made_over l.centers)
