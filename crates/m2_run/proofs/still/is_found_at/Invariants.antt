-- What the node lacks of sockets of those before, and how much more it may.
use Rattle.m2_run.proofs.Stillness.{Spares}
use Rattle.m2_run.proofs.still.is_found_at.Given as goal

abbrev pub invariant-nodes : goal.invariant-nodes
invariant-nodes g l = Spares l.nodes l.all l.j l.k l.rest
