-- It goes last.
use Rattle.std.proofs.Common.{◌∙◌, ◌++◌, [], ◌∷◌, ap, sym, subst}
use Rattle.m2_trail.specs.declared.home.HomeOf.{HomeOf}
use Rattle.m2_node.specs.Rooms.{AreRoomsOf, thread_of}
use Rattle.m2_node.proofs.InboxLists.{one_room_more}
use Rattle.m2_node.proofs.rooms.add_room.Goals as goal

pub returns : goal.returns
returns g c = λ homes rooms.
    let all = homes ++ thread_of c.args.home ∷ [] in
    let b = c.in_ok-inbox.inbox in
    let p = c.in_ok-inbox.put in
    let h = c.in_ok-inbox.get in
    let its = c.in_ok-inbox.ensures in
    let old = c.args.rooms.now in
    let inboxes = c.push_reserved.ensures.items ∙ ap (λ xs. xs ++ b ∷ []) c.reserve.ensures.items in
    let puts = c.push_reserved-2.ensures.items ∙ ap (λ xs. xs ++ p ∷ []) c.reserve-2.ensures.items in
    let gets = c.push_reserved-3.ensures.items ∙ ap (λ xs. xs ++ h ∷ []) c.reserve-3.ensures.items in
    subst (λ xs. AreRoomsOf all xs c.push_reserved-2.new.self.items c.push_reserved-3.new.self.items) (sym inboxes)
    (subst (λ xs. AreRoomsOf all (old.inboxes.items ++ b ∷ []) xs c.push_reserved-3.new.self.items) (sym puts)
    (subst (AreRoomsOf all (old.inboxes.items ++ b ∷ []) (old.rights.puts.items ++ p ∷ [])) (sym gets)
    (one_room_more homes old.inboxes.items old.rights.puts.items old.rights.gets.items (thread_of c.args.home) b p h rooms
    (record {
      center = ap (λ (o : HomeOf). o.center) its.owner;
      centers = ap (λ (o : HomeOf). o.centers) its.owner;
      puts = its.put;
      gets = its.get;
      whole = its.parts;
      nothing_put = its.puts;
      nothing_taken = its.taken;
    }))))
