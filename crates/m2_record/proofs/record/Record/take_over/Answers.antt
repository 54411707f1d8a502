use Rattle.m2_shared.specs.Gates.{places}
use Rattle.std.proofs.Common.{◌++◌, ◌∷◌, [], ◌-◌, ◌≤◌, ◌∙◌, ap, map, option_map, subst, sym}
use Rattle.std.proofs.lemmas.List.{map-append}
use Rattle.m2_bytes.specs.Items.{Holding}
use Rattle.m2_core.specs.Judging.{IsVerdict, MayBeJudged}
use Rattle.m2_fabric.specs.declared.socket.SocketId.{SocketId}
use Rattle.m2_journal.specs.declared.entry.Entry.{Entry}
use Rattle.m2_journal.specs.SideFacts.{SideFacts}
use Rattle.m2_trail.specs.declared.trail.Trail.{Trail}
use Rattle.m2_trail.specs.Trails.{trail_now}
use Rattle.m2_record.specs.Calls.{HasRoomFor, Owns, closed_entries}
use Rattle.m2_record.specs.Judging.{CanBeTaken, TakenHalf, judged_entry}
use Rattle.m2_record.specs.RecordNow.{RecordNow}
use Rattle.m2_record.proofs.Broken.{waits-as}
use Rattle.m2_record.proofs.Owning.{owned-taken}
use Rattle.m2_record.proofs.TakenOver.{entry-left, facts-stay, taken-after, took-over}
use Rattle.m2_record.proofs.record.Record.take_over.Goals as goal

pub invariant_of-self : goal.invariant_of-self
invariant_of-self g c =
    let closed = option_map g.E.End.seen c.take_over-aftermath.result.closed in
    let x : TakenHalf = record { end = g.E.End.seen c.args.half.end; unread = c.args.half.decoder.rest; trail = trail_now c.args.half.trail } in
    let facts = facts-stay c.args.v.now x.end x.unread c.self.inside.core c.take_over-aftermath.new.self c.take_over-aftermath.ensures.value c.take_over-aftermath.ensures.feed in
    taken-after c.args.v.now x c.args.now _ c.take_over-aftermath.new.self _ _ _ _ _ _ closed c.take_over-aftermath.result.discarded c.take_over-aftermath.result.remote_reset
    c.self.invariant c.requires.takes (subst (λ (v : RecordNow). IsVerdict c.args.v.now v.core) (sym c.self.view_is) c.requires.verdict)
    (subst (λ (v : RecordNow). MayBeJudged c.args.v.now v.core) (sym c.self.view_is) c.requires.may) c.requires.whole
    (subst (λ (v : RecordNow). CanBeTaken c.args.v.now x v) (sym c.self.view_is) c.requires.half)
    (subst (λ (v : RecordNow). 2 ≤ v.room.ends) (sym c.self.view_is) c.requires.ends) c.put_closed.ensures.ends
    (record {
      core = c.take_over-aftermath.ensures.value;
      feed = c.take_over-aftermath.ensures.feed;
      makes = c.take_over-aftermath.ensures.judged;
      aftermath = c.take_over-aftermath.ensures.aftermath;
      journal_is = c.put_closed.ensures.journal ∙ ap (λ (l : Holding Entry). l.items ++ closed_entries closed)
          (c.push_reserved.ensures ∙ ap (λ (k : SocketId). record { items = c.self.inside.journal.items ++ judged_entry c.args.v.now k ∷ []; room = c.self.inside.journal.room - 1 }) c.id.ensures);
      trails_are = ap (λ (l : Holding Trail). map trail_now l.items) c.push_reserved-2.ensures ∙ map-append trail_now c.self.inside.trails.items (c.args.half.trail ∷ []);
      spent_is = c.put_closed.ensures.spent;
      parcels_are = c.put_told.ensures.items;
      waits_are = waits-as _ _ _ _ _ _ _ _ _ c.stepped-self-inside.ensures (c.node.ensures ∙ ap (λ (f : SideFacts). f.node) facts) c.session.ensures c.session-2.ensures;
    })

pub returns-clause-entries : goal.returns-clause-entries
returns-clause-entries g c = entry-left (option_map g.E.End.seen c.take_over-aftermath.result.closed) c.self.inside.journal.room c.push_reserved.new.self.room c.put_closed.new.journal.room
    (subst (λ (v : RecordNow). HasRoomFor 3 v.room) (sym c.self.view_is) c.requires.room).entries (ap (λ (l : Holding Entry). l.room) c.push_reserved.ensures) c.put_closed.ensures.entries

pub returns-clause-owned : goal.returns-clause-owned
returns-clause-owned g c = owned-taken (places c.args.throttles.now) c.args.v.now (g.E.End.seen c.args.half.end) c.args.half.decoder.rest _ _ c.take_over-aftermath.result.discarded c.take_over-aftermath.result.remote_reset
    (subst (λ (v : RecordNow). Owns (places c.args.throttles.now) v) (sym c.self.view_is) c.requires.owned) c.take_over-aftermath.ensures.value c.take_over-aftermath.ensures.feed c.put_told.ensures.items

pub returns-clause-takes : goal.returns-clause-takes
returns-clause-takes g c =
    let closed = option_map g.E.End.seen c.take_over-aftermath.result.closed in
    let x : TakenHalf = record { end = g.E.End.seen c.args.half.end; unread = c.args.half.decoder.rest; trail = trail_now c.args.half.trail } in
    let facts = facts-stay c.args.v.now x.end x.unread c.self.inside.core c.take_over-aftermath.new.self c.take_over-aftermath.ensures.value c.take_over-aftermath.ensures.feed in
    took-over c.args.v.now x c.args.now _ _ c.take_over-aftermath.new.self _ _ _ _ _ _ closed c.take_over-aftermath.result.discarded c.take_over-aftermath.result.remote_reset c.self.view_is
    (record {
      core = c.take_over-aftermath.ensures.value;
      feed = c.take_over-aftermath.ensures.feed;
      makes = c.take_over-aftermath.ensures.judged;
      aftermath = c.take_over-aftermath.ensures.aftermath;
      journal_is = c.put_closed.ensures.journal ∙ ap (λ (l : Holding Entry). l.items ++ closed_entries closed)
          (c.push_reserved.ensures ∙ ap (λ (k : SocketId). record { items = c.self.inside.journal.items ++ judged_entry c.args.v.now k ∷ []; room = c.self.inside.journal.room - 1 }) c.id.ensures);
      trails_are = ap (λ (l : Holding Trail). map trail_now l.items) c.push_reserved-2.ensures ∙ map-append trail_now c.self.inside.trails.items (c.args.half.trail ∷ []);
      spent_is = c.put_closed.ensures.spent;
      parcels_are = c.put_told.ensures.items;
      waits_are = waits-as _ _ _ _ _ _ _ _ _ c.stepped-self-inside.ensures (c.node.ensures ∙ ap (λ (f : SideFacts). f.node) facts) c.session.ensures c.session-2.ensures;
    })
