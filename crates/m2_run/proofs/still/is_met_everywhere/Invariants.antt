-- Those to the nodes before are met.
use Rattle.std.specs.Prelude.{◌≢◌}
use Rattle.m2_run.specs.Still.{AllBelow, IsMetAt}
use Rattle.m2_run.proofs.still.is_met_everywhere.Given as goal

abbrev pub invariant-nodes : goal.invariant-nodes
invariant-nodes g l = AllBelow (λ j. l.k ≢ j → IsMetAt l.nodes l.all l.k j) l.j
