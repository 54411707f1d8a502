-- The ports of the nodes so far are out, without a fault, and what those of the others are made of is there.
use Rattle.std.specs.Prelude.{slice_get}
use Rattle.std.proofs.Common.{◌≡◌, drop, map}
use Rattle.m2_node.specs.Begins.{AreDoorsOf, AreOutSoFar}
use Rattle.m2_node.specs.Rooms.{homes_of}
use Rattle.m2_node.proofs.OutPorts.{ArePortsSoFar}
use Rattle.m2_node.proofs.beginning.ports_of.Given as goal

abbrev pub invariant-nodes : goal.invariant-nodes
invariant-nodes g l = record {
  ports : ArePortsSoFar l.k l.nodes (map (λ ps. ps.items) l.ports.items);
  out : AreOutSoFar l.k l.nodes (g.F.Fabric.seen l.fn.fabric) (g.F.Fabric.seen l.fabric);
  faults : (g.F.Fabric.seen l.fabric).faults ≡ (g.F.Fabric.seen l.fn.fabric).faults;
  doors : AreDoorsOf (slice_get g.B.Inboxes.inboxes) (homes_of (drop l.k l.nodes)) l.doors;
}
