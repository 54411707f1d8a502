-- One node more.
use Rattle.std.proofs.Common.{ap, ◌∙◌}
use Rattle.m2_run.specs.Kept.{last_of}
use Rattle.m2_node.specs.Nodes.{RunNodeNow}
use Rattle.m2_run.proofs.Settled.{one_further}
use Rattle.m2_run.proofs.settling.last_in.Goals as goal

pub nodes-preserved : goal.nodes-preserved
nodes-preserved g c =
    let l = c.nodes in
    one_further (λ most (n : RunNodeNow). last_of most n.centers) c.args.start c.args.all.now l.k l.last l.invariant c.last_of-last.result c.index-all-k.result
    c.nodes-test.true c.index-all-k.is (c.last_of-last.ensures ∙ ap (last_of l.last) c.centers.ensures)
