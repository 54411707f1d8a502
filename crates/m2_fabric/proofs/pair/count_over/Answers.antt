use Rattle.std.proofs.Common.{sym, ◌∙◌}
use Rattle.m2_fabric.proofs.Over.{one_more_over}
use Rattle.m2_fabric.proofs.pair.count_over.Goals as goal

pub loop-over-preserved : goal.loop-over-preserved
loop-over-preserved c = one_more_over c.loop-over.over c.args.sockets.now _ c.loop-over.invariant c.loop-over-test.true (sym c.is_over.ensures ∙ c.if-is_over.true)
