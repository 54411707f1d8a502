use Rattle.std.proofs.Common.{subst}
use Rattle.std.proofs.lemmas.List.Elements.{All-more, recursion_from_All}
use Rattle.m2_cluster.specs.Node.{IsWholeNode}
use Rattle.m2_center.proofs.m2_turn.Wholes.{all_of_them}
use Rattle.m2_cluster.proofs.cluster.Cluster.each_is_whole.Goals as goal

pub nodes-preserved : goal.nodes-preserved
nodes-preserved g c = All-more IsWholeNode c.args.nodes.now c.nodes.node-index c.node-item.result c.nodes-test.true c.nodes.invariant (subst IsWholeNode c.node-item.is c.is_whole.ensures)

pub returns : goal.returns
returns g c = recursion_from_All IsWholeNode c.args.nodes.now (all_of_them IsWholeNode c.args.nodes.now c.nodes.node-index c.nodes-test.false c.nodes.auto.node-index-end c.nodes.invariant)
