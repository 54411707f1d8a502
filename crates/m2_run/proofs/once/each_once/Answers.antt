-- Those of one node more.
use Rattle.m2_run.specs.Opened.{IsEachOnceAt}
use Rattle.m2_run.proofs.Stillness.{one_more_below}
use Rattle.m2_run.proofs.once.each_once.Goals as goal

pub nodes-preserved : goal.nodes-preserved
nodes-preserved g c = one_more_below (IsEachOnceAt c.args.nodes.now c.args.all.now) c.nodes.k c.nodes.invariant c.in_ok-is_once_at.ensures
