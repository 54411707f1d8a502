-- The nodes so far listen.
use Rattle.m2_run.specs.Listening.{ListenSoFar}
use Rattle.m2_run.proofs.listening.listen_all.Given as goal

abbrev pub invariant-nodes : goal.invariant-nodes
invariant-nodes g l = ListenSoFar l.k l.nodes (g.F.Fabric.seen l.fn.fabric) (g.F.Fabric.seen l.fabric)
