-- There are the inboxes of the nodes so far.
use Rattle.std.proofs.Common.{take}
use Rattle.m2_node.specs.Rooms.{AreRoomsOf, homes_of}
use Rattle.m2_node.proofs.rooms.rooms_of.Given as goal

abbrev pub invariant-nodes : goal.invariant-nodes
invariant-nodes g l = AreRoomsOf (homes_of (take l.node-index l.nodes)) l.rooms.inboxes.items l.rooms.rights.puts.items l.rooms.rights.gets.items
