-- Of those before all sockets are met.
use Rattle.std.proofs.Common.{length}
use Rattle.std.specs.Prelude.{◌≢◌}
use Rattle.m2_run.specs.Still.{AllBelow, IsMetAt}
use Rattle.m2_run.proofs.still.are_met.Given as goal

abbrev pub invariant-nodes : goal.invariant-nodes
invariant-nodes g l = AllBelow (λ k. AllBelow (λ j. k ≢ j → IsMetAt l.nodes l.all k j) (length l.all)) l.k
