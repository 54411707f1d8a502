use Rattle.m2_shared.specs.Gates.{held, places}
use Rattle.std.proofs.Common.{◌∙◌, ap, arith, map, option_map, refl}
use Rattle.m2_record.specs.RecordNow.{RecordNow}
use Rattle.m2_record.proofs.Heeding.{closed-fits, done-so, heeds-left, heeds-noted, no-reset, noted-none, owned-closed, owned-left, owned-so, record-closed, record-noted, reset-left, room-so, signed-so, tested, words-so}
use Rattle.m2_record.proofs.Fronts.{top-so}
use Rattle.m2_record.proofs.record.Record.heed_front.Goals as goal

pub next-next-requires-clause-signed : goal.next-next-requires-clause-signed
next-next-requires-clause-signed g c = signed-so _ _ c.self.view_is c.requires.signed

pub next-next-requires-clause-owned : goal.next-next-requires-clause-owned
next-next-requires-clause-owned g c = owned-so (places c.args.throttles.now) _ _ c.self.view_is c.requires.owned

pub note_next-framed-requires-clause-some : goal.note_next-framed-requires-clause-some
note_next-framed-requires-clause-some g c = done-so _ _ _ c.next-next.new.self c.next-next.result.next c.self.view_is c.requires.frame c.requires.signed c.next-next.ensures.next

pub note_next-framed-requires-clause-entries : goal.note_next-framed-requires-clause-entries
note_next-framed-requires-clause-entries g c = let two = (room-so _ _ c.self.view_is c.requires.room).entries in omega (arith, two)

pub note_next-framed-requires-clause-parcels : goal.note_next-framed-requires-clause-parcels
note_next-framed-requires-clause-parcels g c = let two = (room-so _ _ c.self.view_is c.requires.room).parcels in omega (arith, two)

pub invariant_of-self : goal.invariant_of-self
invariant_of-self g c = record-noted _ c.next-next.result.next c.note_next-framed.result _ c.next-next.new.self (record { answers = c.next-next.ensures.next; is = c.note_next-framed.ensures.answer }) c.args.now _ _ _ _
    c.self.invariant (tested c.is_faulted.result c.note_next-framed.result _ c.is_faulted.ensures c.if-not-is_faulted.true) refl
    (record { journal_is = c.note_next-framed.ensures.journal; parcels_are = c.note_next-framed.ensures.parcels; last_is = c.note_next-framed.ensures.last })

pub returns-then-not-is_faulted-clause-heeds : goal.returns-then-not-is_faulted-clause-heeds
returns-then-not-is_faulted-clause-heeds g c = heeds-noted _ c.next-next.result.next c.note_next-framed.result _ c.next-next.new.self (record { answers = c.next-next.ensures.next; is = c.note_next-framed.ensures.answer }) c.args.now _ _ _ _
    _ c.self.view_is
    (done-so _ _ _ c.next-next.new.self c.next-next.result.next c.self.view_is c.requires.frame c.requires.signed c.next-next.ensures.next)
    (tested c.is_faulted.result c.note_next-framed.result _ c.is_faulted.ensures c.if-not-is_faulted.true)
    (record { journal_is = c.note_next-framed.ensures.journal; parcels_are = c.note_next-framed.ensures.parcels; last_is = c.note_next-framed.ensures.last })

pub returns-then-not-is_faulted-clause-reset : goal.returns-then-not-is_faulted-clause-reset
returns-then-not-is_faulted-clause-reset g c =
    let capacity = c.note_next-framed.ensures.capacity in
    let len = c.note_next-framed.ensures.len in
    reset-left _ c.next-next.result.next c.note_next-framed.result _ c.next-next.new.self (record { answers = c.next-next.ensures.next; is = c.note_next-framed.ensures.answer })
    _ _ c.self.view_is refl c.requires.room c.note_next-framed.ensures.room (omega (arith, capacity, len))

pub returns-then-not-is_faulted-clause-owned : goal.returns-then-not-is_faulted-clause-owned
returns-then-not-is_faulted-clause-owned g c = owned-left _ c.next-next.result.next c.note_next-framed.result _ c.next-next.new.self (record { answers = c.next-next.ensures.next; is = c.note_next-framed.ensures.answer })
    (places c.args.throttles.now) _ _ c.self.view_is c.requires.owned c.next-next.ensures.owned refl c.note_next-framed.ensures.parcels

pub returns-then-not-is_faulted-clause-word : goal.returns-then-not-is_faulted-clause-word
returns-then-not-is_faulted-clause-word g c = words-so c.next-next.result.next c.note_next-framed.result _ _ _ _
    (done-so _ _ _ c.next-next.new.self c.next-next.result.next c.self.view_is c.requires.frame c.requires.signed c.next-next.ensures.next)
    c.note_next-framed.ensures.answer (ap (λ (v : RecordNow). held v.core.live.granted) c.self.view_is) c.next-next.ensures.word

pub put_told-requires : goal.put_told-requires
put_told-requires g c =
    let two = (room-so _ _ c.self.view_is c.requires.room).parcels in
    let capacity = c.note_next-framed.ensures.capacity in
    let len = c.note_next-framed.ensures.len in
    let none = (noted-none c.next-next.result.next c.note_next-framed.result c.self.inside.place c.note_next-framed.ensures.answer (tested c.is_faulted.result c.note_next-framed.result _ c.is_faulted.ensures c.if-not-is_faulted.false)).1 in
    omega (arith, two, capacity, len, none)

pub put_closed-requires-clause-entries : goal.put_closed-requires-clause-entries
put_closed-requires-clause-entries g c =
    let two = (room-so _ _ c.self.view_is c.requires.room).entries in
    let room = c.note_next-framed.ensures.room in
    let none = (noted-none c.next-next.result.next c.note_next-framed.result c.self.inside.place c.note_next-framed.ensures.answer (tested c.is_faulted.result c.note_next-framed.result _ c.is_faulted.ensures c.if-not-is_faulted.false)).0 in
    omega (arith, two, room, none)

pub put_closed-requires-clause-ends : goal.put_closed-requires-clause-ends
put_closed-requires-clause-ends g c = closed-fits _ _ _ _ c.next-next.ensures.aftermath.end c.self.invariant.at_state.room

pub invariant_of-self-2 : goal.invariant_of-self-2
invariant_of-self-2 g c = record-closed c.self.invariant _ c.next-next.result.next c.note_next-framed.result c.next-next.new.self c.next-next.ensures.next c.note_next-framed.ensures.answer
    (tested c.is_faulted.result c.note_next-framed.result _ c.is_faulted.ensures c.if-not-is_faulted.false) c.args.now
    c.note_next-framed.new.journal.items c.put_closed.new.journal.items c.note_next-framed.new.parcels.items c.put_told.new.parcels.items (map g.E.End.seen c.put_closed.new.spent.items) c.stepped-self-inside.result c.note_next-framed.new.last
    (option_map g.E.End.seen c.next-next.result.aftermath.closed) c.next-next.result.aftermath.discarded c.next-next.result.aftermath.remote_reset _ _ _
    c.next-next.ensures.aftermath c.note_next-framed.ensures.journal c.put_closed.ensures.journal c.note_next-framed.ensures.parcels c.put_told.ensures.items c.put_closed.ensures.spent c.note_next-framed.ensures.last
    c.stepped-self-inside.ensures c.node.ensures c.session.ensures c.session-2.ensures
    _

pub returns-clause-heeds : goal.returns-clause-heeds
returns-clause-heeds g c = heeds-left c.self.invariant _ c.next-next.result.next c.note_next-framed.result c.next-next.new.self c.next-next.ensures.next c.note_next-framed.ensures.answer
    (tested c.is_faulted.result c.note_next-framed.result _ c.is_faulted.ensures c.if-not-is_faulted.false) c.args.now
    c.note_next-framed.new.journal.items c.put_closed.new.journal.items c.note_next-framed.new.parcels.items c.put_told.new.parcels.items (map g.E.End.seen c.put_closed.new.spent.items) c.stepped-self-inside.result c.note_next-framed.new.last
    (option_map g.E.End.seen c.next-next.result.aftermath.closed) c.next-next.result.aftermath.discarded c.next-next.result.aftermath.remote_reset _ _ _
    c.next-next.ensures.aftermath c.note_next-framed.ensures.journal c.put_closed.ensures.journal c.note_next-framed.ensures.parcels c.put_told.ensures.items c.put_closed.ensures.spent c.note_next-framed.ensures.last
    c.stepped-self-inside.ensures c.node.ensures c.session.ensures c.session-2.ensures
    _ _ c.self.view_is

pub returns-clause-reset : goal.returns-clause-reset
returns-clause-reset g c = no-reset c.note_next-framed.result _ (tested c.is_faulted.result c.note_next-framed.result _ c.is_faulted.ensures c.if-not-is_faulted.false)

pub returns-clause-owned : goal.returns-clause-owned
returns-clause-owned g c = owned-closed c.self.invariant _ c.next-next.result.next c.note_next-framed.result c.next-next.new.self c.next-next.ensures.next c.note_next-framed.ensures.answer
    (tested c.is_faulted.result c.note_next-framed.result _ c.is_faulted.ensures c.if-not-is_faulted.false) c.args.now
    c.note_next-framed.new.journal.items c.put_closed.new.journal.items c.note_next-framed.new.parcels.items c.put_told.new.parcels.items (map g.E.End.seen c.put_closed.new.spent.items) c.stepped-self-inside.result c.note_next-framed.new.last
    (option_map g.E.End.seen c.next-next.result.aftermath.closed) c.next-next.result.aftermath.discarded c.next-next.result.aftermath.remote_reset _ _ _
    c.next-next.ensures.aftermath c.note_next-framed.ensures.journal c.put_closed.ensures.journal c.note_next-framed.ensures.parcels c.put_told.ensures.items c.put_closed.ensures.spent c.note_next-framed.ensures.last
    c.stepped-self-inside.ensures c.node.ensures c.session.ensures c.session-2.ensures
    (places c.args.throttles.now) _ _ c.self.view_is c.requires.owned c.next-next.ensures.owned c.next-next.ensures.owned refl

pub returns-clause-word : goal.returns-clause-word
returns-clause-word g c = words-so c.next-next.result.next c.note_next-framed.result _ _ _ _
    (done-so _ _ _ c.next-next.new.self c.next-next.result.next c.self.view_is c.requires.frame c.requires.signed c.next-next.ensures.next)
    c.note_next-framed.ensures.answer (ap (λ (v : RecordNow). held v.core.live.granted) c.self.view_is) c.next-next.ensures.word

pub returns-then-not-is_faulted-clause-top : goal.returns-then-not-is_faulted-clause-top
returns-then-not-is_faulted-clause-top g c = top-so _ c.self.inside.core c.next-next.new.self c.next-next.result.next c.next-next.ensures.next ∙ ap (λ (v : RecordNow). v.core.top) c.self.view_is

pub returns-clause-top : goal.returns-clause-top
returns-clause-top g c = top-so _ c.self.inside.core c.next-next.new.self c.next-next.result.next c.next-next.ensures.next ∙ ap (λ (v : RecordNow). v.core.top) c.self.view_is
