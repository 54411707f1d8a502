-- A socket comes to the node with the number.
use Rattle.m2_cluster.proofs.OneNode.{comes_so, rest_so}
use Rattle.m2_cluster.proofs.holding.ClusterHolder.incoming.Goals as goal

pub returns-clause-ok : goal.returns-clause-ok
returns-clause-ok g c = comes_so _ _ c.self.view_is c.args.node c.args.id c.index_mut.result.now c.index_mut.ensures.value c.requires c.incoming.result c.incoming.new.self c.incoming.ensures.ok

pub returns-clause-rest : goal.returns-clause-rest
returns-clause-rest g c = rest_so _ _ c.self.view_is c.args.node c.args.id c.index_mut.result.now c.index_mut.ensures.value c.requires c.incoming.new.self c.incoming.ensures.rest
