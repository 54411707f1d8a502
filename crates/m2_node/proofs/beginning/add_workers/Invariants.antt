-- The workers of the threads so far have done nothing; the ports and the steps that are left are for the threads that are left; and there is
-- room for their workers.
use Rattle.std.proofs.Common.{◌≡◌, ◌+◌, ◌-◌, ◌≤◌}
use Rattle.std.specs.Prelude.{vec_capacity, vec_len}
use Rattle.std.specs.List.{AllByRecursion}
use Rattle.m2_node.specs.Begins.{IsPortFor}
use Rattle.m2_node.proofs.StepLists.{AreNextSteps}
use Rattle.m2_node.proofs.WorkersBegin.{AreAddedSoFar}
use Rattle.m2_node.proofs.beginning.add_workers.Given as goal

abbrev pub invariant-centers : goal.invariant-centers
invariant-centers g l = record {
  ports : AllByRecursion (IsPortFor l.node) l.ports.rest.items;
  steps : AreNextSteps l.nodes l.centers l.fn.part.steps.items l.center l.steps.rest.items;
  passes : l.passes ≡ l.fn.part.passes;
  added : AreAddedSoFar l.nodes l.links l.fn.part.steps.items l.k l.word l.node l.shares l.start l.center l.fn.workers.items l.workers.items;
  room : l.centers ≤ (vec_capacity l.workers - vec_len l.workers) + l.center;
}
