-- Those of one node more.
use Rattle.std.proofs.Common.{sym, subst, take}
use Rattle.std.proofs.lemmas.List.{take_all}
use Rattle.m2_node.specs.Rooms.{AreRoomsOf, homes_of}
use Rattle.m2_node.proofs.InboxLists.{homes_more, no_rooms_yet}
use Rattle.m2_node.proofs.rooms.rooms_of.Goals as goal

pub nodes-init : goal.nodes-init
nodes-init g c = no_rooms_yet c.new.result.items c.new-2.result.items c.new-3.result.items c.new.ensures.items c.new-2.ensures.items c.new-3.ensures.items

pub nodes-preserved : goal.nodes-preserved
nodes-preserved g c =
    let l = c.nodes in
    let nodes = c.args.nodes.now in
    let new = c.add_rooms_of.new.rooms in
    subst (λ hs. AreRoomsOf hs new.inboxes.items new.rights.puts.items new.rights.gets.items) (sym (homes_more nodes l.node-index c.node-item.result c.nodes-test.true c.node-item.is))
    (c.in_default.ensures (homes_of (take l.node-index nodes)) l.invariant)

pub returns : goal.returns
returns g c =
    let l = c.nodes in
    subst (λ ns. AreRoomsOf (homes_of ns) l.rooms.inboxes.items l.rooms.rights.puts.items l.rooms.rights.gets.items) (take_all l.node-index c.args.nodes.now c.nodes-test.false) l.invariant
