-- What the node shares is the same.
use Rattle.m2_center.specs.CenterTurn.{memory_in}
use Rattle.m2_cluster.proofs.Doing.{turns_so}
use Rattle.m2_cluster.proofs.node.Node.turn.Goals as goal

pub returns : goal.returns
returns g c = turns_so _ _ c.self.view_is c.turn.new.self g.row.P-End.Denot g.D.Dispatcher.heard c.args.now (memory_in c.turn.result) c.turn.ensures.turns
