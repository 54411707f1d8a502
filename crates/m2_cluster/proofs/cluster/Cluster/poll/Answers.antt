-- The node with the number waits.
use Rattle.m2_cluster.specs.Node.{Polls}
use Rattle.m2_cluster.proofs.Doing.{one_does}
use Rattle.m2_cluster.proofs.cluster.Cluster.poll.Goals as goal

pub returns : goal.returns
returns g c =
    one_does _ _ c.self.view_is c.args.node c.index_mut.result.now c.index_mut.ensures.value c.requires
    Polls c.poll.new.self c.poll.ensures.stays
