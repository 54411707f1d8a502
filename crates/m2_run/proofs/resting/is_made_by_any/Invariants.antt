-- It is among all where it is among those from here on.
use Rattle.std.proofs.Common.{◌≡◌, drop}
use Rattle.m2_fabric.specs.Sockets.{is_among}
use Rattle.m2_run.specs.Opened.{made_of_all}
use Rattle.m2_run.proofs.resting.is_made_by_any.Given as goal

abbrev pub invariant-nodes : goal.invariant-nodes
invariant-nodes g l = is_among l.id (made_of_all l.all) ≡ is_among l.id (made_of_all (drop l.node-index l.all))
