use Rattle.std.proofs.Common.{length}
use Rattle.std.specs.Prelude.{◌≢◌}
use Rattle.m2_run.specs.Still.{AllBelow, IsMetAt}
use Rattle.m2_run.proofs.Stillness.{one_more_below}
use Rattle.m2_run.proofs.still.are_met.Goals as goal

pub nodes-preserved : goal.nodes-preserved
nodes-preserved g c =
    one_more_below (λ k. AllBelow (λ j. k ≢ j → IsMetAt c.args.nodes.now c.args.all.now k j) (length c.args.all.now)) c.nodes.k c.nodes.invariant c.if-not-is_met_everywhere.ensures
