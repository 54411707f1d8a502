-- The ports so far are over those of the fabric that were given, and what the others are made of is there.
use Rattle.std.specs.Prelude.{slice_get}
use Rattle.std.proofs.Common.{map}
use Rattle.m2_node.specs.Begins.{IsNewDoor}
use Rattle.m2_node.proofs.OutPorts.{ArePortsAmid}
use Rattle.m2_node.proofs.beginning.ports_over.Given as goal

abbrev pub invariant-centers : goal.invariant-centers
invariant-centers g l = record {
  ports : ArePortsAmid (slice_get g.B.Inboxes.inboxes) l.node l.fn.doors l.all.items (map g.P.Port.seen l.port-iterator.rest.items) l.doors;
  door : IsNewDoor l.door;
}
