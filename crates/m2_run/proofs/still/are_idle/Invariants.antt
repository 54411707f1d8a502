-- Those before are idle.
use Rattle.m2_run.specs.Still.{AllBelow, IsIdleAt}
use Rattle.m2_run.proofs.still.are_idle.Given as goal

abbrev pub invariant-nodes : goal.invariant-nodes
invariant-nodes g l = AllBelow (IsIdleAt l.now l.nodes l.all) l.k
