-- The first that has an end of the socket says what it did.
use Rattle.m2_fabric.specs.Log.{log_of}
use Rattle.m2_node.proofs.Each.{found_behind, found_here, found_nowhere}
use Rattle.m2_node.proofs.node.log_in.Goals as goal

pub returns-in-Some : goal.returns-in-Some
returns-in-Some g c =
    found_here c.args.centers.now c.centers.center-index c.center-item.result c.args.id.now c.centers-test.true c.center-item.is (log_of c.in-Some.log.now) c.in-Some.ensures c.centers.invariant

pub centers-preserved : goal.centers-preserved
centers-preserved g c = found_behind c.args.centers.now c.centers.center-index c.center-item.result c.args.id.now c.centers-test.true c.center-item.is c.in_default.ensures c.centers.invariant

pub returns : goal.returns
returns g c = found_nowhere c.args.centers.now c.centers.center-index c.args.id.now c.centers-test.false c.centers.invariant
