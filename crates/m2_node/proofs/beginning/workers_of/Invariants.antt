-- The workers so far are those of nodes that have done nothing, and what is left is for the nodes that are left.
use Rattle.std.proofs.Common.{◌≡◌, drop}
use Rattle.m2_node.specs.Begins.{steps_at}
use Rattle.m2_node.proofs.WorkersBegin.{AreMadeSoFar}
use Rattle.m2_node.proofs.beginning.workers_of.Given as goal

abbrev pub invariant-nodes : goal.invariant-nodes
invariant-nodes g l = record {
  ports : l.parts.ports.rest.items ≡ drop l.k l.fn.ports.items;
  steps : l.parts.steps.rest.items ≡ drop l.k l.fn.steps.items;
  passes : l.parts.passes.rest.items ≡ drop l.k l.fn.passes.items;
  made : AreMadeSoFar l.nodes l.links (steps_at l.fn.steps.items) l.shares l.start l.k l.workers.items;
}
