-- So many are behind those of before.
use Rattle.std.proofs.Common.{List, ◌++◌}
use Rattle.m2_node.specs.Rooms.{AreRoomsOf, HomeAt, homes_from}
use Rattle.m2_node.proofs.rooms.add_rooms.Given as goal

abbrev pub invariant-centers : goal.invariant-centers
invariant-centers g l =
    (homes : List HomeAt) → AreRoomsOf homes l.fn.rooms.inboxes.items l.fn.rooms.rights.puts.items l.fn.rooms.rights.gets.items →
    AreRoomsOf (homes ++ homes_from 0 l.center l.centers) l.rooms.inboxes.items l.rooms.rights.puts.items l.rooms.rights.gets.items
