-- The log is that of the node with the number.
use Rattle.m2_cluster.proofs.OneNode.{log_so}
use Rattle.m2_cluster.proofs.holding.ClusterHolder.log.Goals as goal

pub returns : goal.returns
returns g c = log_so _ _ c.self.view_is c.args.node c.args.id.now c.index.result.now c.index.ensures c.requires _ c.log.ensures
