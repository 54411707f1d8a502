use Rattle.std.proofs.Common.{◌++◌, ◌∷◌, [], ◌-◌, ◌∙◌, ap, map, subst, sym}
use Rattle.m2_fabric.specs.declared.socket.SocketId.{SocketId}
use Rattle.m2_journal.specs.declared.entry.Entry.TheVariants as entry
use Rattle.m2_record.specs.Calls.{ConnectIsDue, IsNewSocket}
use Rattle.m2_record.specs.RecordNow.{RecordNow}
use Rattle.m2_record.proofs.Opening.{connect-dials, connect-number, opened-after}
use Rattle.m2_record.proofs.record.Record.connected.Goals as goal

pub invariant_of-self-2 : goal.invariant_of-self-2
invariant_of-self-2 g c =
    let e = g.E.End.seen c.args.end in
    let journal = c.room_for_socket.new.journal in
    opened-after _ c.opened.new.self e c.args.now journal.items c.push_reserved.new.self (journal.room - 1) _ _ c.self.invariant
    (subst (λ (v : RecordNow). ConnectIsDue c.args.now v) (sym c.self.view_is) c.requires.due) c.requires.end
    (subst (λ (v : RecordNow). IsNewSocket v e.id) (sym c.self.view_is) c.requires.socket) c.in-Ok.ensures.ok.1
    c.opened.ensures.value c.opened.ensures.feed c.opened.ensures.leads c.room_for_socket.ensures.entries
    (c.push_reserved.ensures ∙ ap (λ (k : SocketId). record { items = journal.items ++ entry.Opened k ∷ []; room = journal.room - 1 }) c.id-socket.ensures)
    (ap (map g.E.End.seen) c.room_for_socket.ensures.ends)

pub opened-requires-clause-due : goal.opened-requires-clause-due
opened-requires-clause-due g c = connect-dials c.args.now _ c.self.invariant (subst (λ (v : RecordNow). ConnectIsDue c.args.now v) (sym c.self.view_is) c.requires.due)

pub opened-requires-clause-fits : goal.opened-requires-clause-fits
opened-requires-clause-fits g c = connect-number c.args.now _ c.self.invariant (subst (λ (v : RecordNow). ConnectIsDue c.args.now v) (sym c.self.view_is) c.requires.due)
