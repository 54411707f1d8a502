use Rattle.std.proofs.Common.{arith}
use Rattle.m2_run.specs.Still.{IsFoundAt}
use Rattle.m2_run.proofs.Stillness.{one_more_below}
use Rattle.m2_run.proofs.still.are_found.Goals as goal

pub nodes-preserved : goal.nodes-preserved
nodes-preserved g c = one_more_below (IsFoundAt c.args.nodes.now c.args.all.now) c.nodes.j c.nodes.invariant c.if-not-is_found_at.ensures

pub returns : goal.returns
returns g c = λ k h. c.nodes.invariant k (omega (arith, h, c.nodes-test.false))
