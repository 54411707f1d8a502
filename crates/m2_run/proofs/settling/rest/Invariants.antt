-- Of the nodes so far each that is on has waited.
use Rattle.m2_node.specs.Way.{NodePollsSo}
use Rattle.m2_run.proofs.Rounds.{HaveDone}
use Rattle.m2_run.proofs.settling.rest.Given as goal

abbrev pub invariant-nodes : goal.invariant-nodes
invariant-nodes g l = HaveDone NodePollsSo l.k l.nodes l.fn.all l.all
