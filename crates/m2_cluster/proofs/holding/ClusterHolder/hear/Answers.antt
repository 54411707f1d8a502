-- An end of the node with the number is told something.
use Rattle.m2_fabric.specs.End.{after_news}
use Rattle.m2_cluster.proofs.OneNode.{hears_so, rest_so}
use Rattle.m2_cluster.proofs.holding.ClusterHolder.hear.Goals as goal

pub returns-clause-ok : goal.returns-clause-ok
returns-clause-ok g c =
    hears_so _ _ c.self.view_is c.args.node c.args.id.now c.index_mut.result.now c.index_mut.ensures.value c.requires c.hear.result (after_news c.args.news c.args.bytes.now) c.hear.new.self c.hear.ensures.ok

pub returns-clause-rest : goal.returns-clause-rest
returns-clause-rest g c = rest_so _ _ c.self.view_is c.args.node c.args.id.now c.index_mut.result.now c.index_mut.ensures.value c.requires c.hear.new.self c.hear.ensures.rest
