-- Those of the steps that are left are to come.
use Rattle.m2_node.proofs.StepLists.{AreByHomeSoFar}
use Rattle.m2_node.proofs.planning.steps_by_home.Given as goal

abbrev pub invariant-steps : goal.invariant-steps
invariant-steps l = AreByHomeSoFar l.nodes l.centers l.step-iterator.rest.items l.fn.steps.items l.all.items
