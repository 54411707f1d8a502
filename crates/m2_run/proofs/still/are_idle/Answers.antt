use Rattle.m2_run.specs.Still.{IsIdleAt}
use Rattle.m2_run.proofs.Stillness.{one_more_below}
use Rattle.m2_run.proofs.still.are_idle.Goals as goal

pub nodes-preserved : goal.nodes-preserved
nodes-preserved g c = one_more_below (IsIdleAt c.args.now c.args.nodes.now c.args.all.now) c.nodes.k c.nodes.invariant c.if-not-is_idle_at.ensures
