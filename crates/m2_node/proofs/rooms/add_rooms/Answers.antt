-- One more.
use Rattle.std.proofs.Common.{sym, subst}
use Rattle.std.proofs.lemmas.List.{append-nil}
use Rattle.m2_node.specs.Rooms.{AreRoomsOf}
use Rattle.m2_node.proofs.InboxLists.{one_thread_more}
use Rattle.m2_node.proofs.rooms.add_rooms.Goals as goal

pub centers-init : goal.centers-init
centers-init g c = λ homes rooms. subst (λ hs. AreRoomsOf hs c.args.rooms.now.inboxes.items c.args.rooms.now.rights.puts.items c.args.rooms.now.rights.gets.items) (sym (append-nil homes)) rooms

pub centers-preserved : goal.centers-preserved
centers-preserved g c = λ homes rooms.
    let l = c.centers in
    let old = l.rooms in
    let new = c.add_room.new.rooms in
    one_thread_more homes l.center c.args.centers old.inboxes.items new.inboxes.items old.rights.puts.items new.rights.puts.items old.rights.gets.items new.rights.gets.items
    c.in_ok-add_room.ensures (l.invariant homes rooms)
