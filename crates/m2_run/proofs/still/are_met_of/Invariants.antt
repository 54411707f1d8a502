-- Where those that are left are met all are.
use Rattle.std.proofs.Common.{drop}
use Rattle.m2_run.specs.Still.{AreMetOf}
use Rattle.m2_run.proofs.still.are_met_of.Given as goal

abbrev pub invariant-sockets : goal.invariant-sockets
invariant-sockets g l = AreMetOf l.to.at l.near l.far (drop l.id-index l.made) → AreMetOf l.to.at l.near l.far l.made
