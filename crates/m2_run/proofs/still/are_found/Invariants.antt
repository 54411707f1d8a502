-- Those before lack no more than they refused.
use Rattle.m2_run.specs.Still.{AllBelow, IsFoundAt}
use Rattle.m2_run.proofs.still.are_found.Given as goal

abbrev pub invariant-nodes : goal.invariant-nodes
invariant-nodes g l = AllBelow (IsFoundAt l.nodes l.all) l.j
