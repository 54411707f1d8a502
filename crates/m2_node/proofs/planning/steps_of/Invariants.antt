-- What the lines that are left have nodes do is to come.
use Rattle.m2_node.proofs.StepLists.{AreStepsSoFar}
use Rattle.m2_node.proofs.planning.steps_of.Given as goal

abbrev pub invariant-lines : goal.invariant-lines
invariant-lines l = AreStepsSoFar l.nodes l.line-iterator.rest.items l.fn.lines.items l.all.items
