-- Those of the nodes before are.
use Rattle.m2_run.specs.Opened.{IsEachOnceAt}
use Rattle.m2_run.specs.Still.{AllBelow}
use Rattle.m2_run.proofs.once.each_once.Given as goal

abbrev pub invariant-nodes : goal.invariant-nodes
invariant-nodes g l = AllBelow (IsEachOnceAt l.nodes l.all) l.k
