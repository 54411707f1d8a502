use Rattle.std.specs.Prelude.{◌≢◌}
use Rattle.m2_run.specs.Still.{IsMetAt}
use Rattle.m2_run.proofs.Stillness.{one_more_below}
use Rattle.m2_run.proofs.still.is_met_everywhere.Goals as goal

pub nodes-preserved : goal.nodes-preserved
nodes-preserved g c = one_more_below (λ j. c.args.k ≢ j → IsMetAt c.args.nodes.now c.args.all.now c.args.k j) c.nodes.j c.nodes.invariant c.if-not-is_met_at.ensures
