-- The node with the number takes a turn.
use Rattle.m2_center.specs.CenterTurn.{memory_in}
use Rattle.m2_cluster.specs.Node.{NodeTurns}
use Rattle.m2_cluster.proofs.Doing.{one_does}
use Rattle.m2_cluster.proofs.cluster.Cluster.turn.Goals as goal

pub returns : goal.returns
returns g c =
    one_does _ _ c.self.view_is c.args.node c.index_mut.result.now c.index_mut.ensures.value c.requires
    (NodeTurns g.row.P-End.Denot g.D.Dispatcher.heard c.args.now (memory_in c.turn.result)) c.turn.new.self c.turn.ensures
