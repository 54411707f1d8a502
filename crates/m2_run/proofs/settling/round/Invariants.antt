-- Of the nodes so far each that is on has taken its turn.
use Rattle.m2_node.specs.declared.end.RunEnd.{RunEnd}
use Rattle.m2_node.specs.Way.{NodeTurnsSo}
use Rattle.m2_run.proofs.Rounds.{HaveDone}
use Rattle.m2_run.proofs.settling.round.Given as goal

abbrev pub invariant-nodes : goal.invariant-nodes
invariant-nodes g l = HaveDone (NodeTurnsSo (RunEnd g.row.P-End.Denot) l.now) l.k l.nodes l.fn.all l.all
