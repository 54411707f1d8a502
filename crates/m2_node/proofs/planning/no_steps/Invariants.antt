use Rattle.std.proofs.Common.{[]}
use Rattle.m2_node.specs.Planned.{AreStepsOf}
use Rattle.m2_node.proofs.planning.no_steps.Given as goal

abbrev pub invariant-nodes : goal.invariant-nodes
invariant-nodes l = AreStepsOf l.counter [] l.all.items
