use Rattle.std.proofs.Common.{◌∙◌, ◌-◌, ap, deque_capacity, deque_len, length, map, option_map, refl, subst, sym, vec_capacity, vec_len}
use Rattle.m2_core.specs.CoreNow.{CoreNow}
use Rattle.m2_trail.specs.Trails.{trail_now}
use Rattle.m2_record.specs.Calls.{HasRoomFor, Owns}
use Rattle.m2_record.specs.Reading.{ReadsFeedOnce}
use Rattle.m2_record.specs.RecordNow.{RecordNow, Rooms}
use Rattle.m2_record.proofs.HasGot.{counted, entered, kept-held, owned-read, read-after, read-broken, read-counts, read-fits, read-made, seen-some, waited}
use Rattle.m2_record.proofs.record.Record.read_once.Goals as goal

pub invariant_of-self : goal.invariant_of-self
invariant_of-self g c =
    let closed = option_map g.E.End.seen c.read-answer.result.aftermath.closed in
    read-after (record { answer = c.read-answer.result.answer; heard = c.read-answer.result.heard; closed = closed }) c.args.now _ c.in-Some.feed.now c.read-answer.new.self _ _ _ _ _ _ c.self.invariant
    c.read-answer.ensures.read (sym c.in-Some.ensures) (record {
      journal_is = entered c.read-answer.result.answer c.id-socket.result c.in-Some.feed.now closed _ _ _ c.id-socket.ensures c.note_read.ensures.journal c.put_closed.ensures.journal;
      spent_is = c.put_closed.ensures.spent;
      waits_are = waited c.read-answer.result.answer _ _ _ _ _ _ _ _ _ c.waits_read-self-inside.ensures (c.node.ensures ∙ ap (λ (z : CoreNow). z.facts.node) c.read-answer.ensures.read.only) c.session.ensures c.session-2.ensures;
      held_is = kept-held c.read-answer.result.answer _ _ _ _ c.held_read-self-inside.ensures (c.is_some.ensures ∙ sym (seen-some g.E.End.seen c.read-answer.result.aftermath.closed));
      last_is = c.note_read.ensures.last;
      ends = c.put_closed.ensures.ends;
    })

pub note_read-requires-clause-count : goal.note_read-requires-clause-count
note_read-requires-clause-count g c = counted (record { answer = c.read-answer.result.answer; heard = c.read-answer.result.heard; closed = option_map g.E.End.seen c.read-answer.result.aftermath.closed }) _ _ c.read-answer.ensures.read

pub returns-clause-reads : goal.returns-clause-reads
returns-clause-reads g c =
    let closed = option_map g.E.End.seen c.read-answer.result.aftermath.closed in
    let new : RecordNow = record {
      place = c.self.inside.place;
      plan = c.self.inside.plan.items;
      steps = c.self.inside.steps;
      journal = c.put_closed.new.journal.items;
      trails = map trail_now c.self.inside.trails.items;
      core = c.read-answer.new.self;
      spent = map g.E.End.seen c.put_closed.new.spent.items;
      parcels = c.self.inside.parcels.items;
      handed = length c.self.inside.handed.bytes;
      waits = c.waits_read-self-inside.result;
      held = c.held_read-self-inside.result;
      missed = c.self.inside.missed;
      last = c.note_read.new.last;
      room = record {
        entries = c.put_closed.new.journal.room;
        parcels = deque_capacity c.self.inside.parcels - deque_len c.self.inside.parcels;
        ends = vec_capacity c.put_closed.new.spent - vec_len c.put_closed.new.spent;
        trails = c.self.inside.trails.room;
      };
    } in
    subst (λ (v : RecordNow). ReadsFeedOnce (record { answer = c.read-answer.result.answer; heard = c.read-answer.result.heard }) c.args.now v new) c.self.view_is
    (read-made (record { answer = c.read-answer.result.answer; heard = c.read-answer.result.heard; closed = closed }) c.args.now _ c.in-Some.feed.now c.read-answer.new.self new.journal new.spent new.waits new.held new.last new.room
    c.read-answer.ensures.read (sym c.in-Some.ensures) (record {
      journal_is = entered c.read-answer.result.answer c.id-socket.result c.in-Some.feed.now closed _ _ _ c.id-socket.ensures c.note_read.ensures.journal c.put_closed.ensures.journal;
      spent_is = c.put_closed.ensures.spent;
      waits_are = waited c.read-answer.result.answer _ _ _ _ _ _ _ _ _ c.waits_read-self-inside.ensures (c.node.ensures ∙ ap (λ (z : CoreNow). z.facts.node) c.read-answer.ensures.read.only) c.session.ensures c.session-2.ensures;
      held_is = kept-held c.read-answer.result.answer _ _ _ _ c.held_read-self-inside.ensures (c.is_some.ensures ∙ sym (seen-some g.E.End.seen c.read-answer.result.aftermath.closed));
      last_is = c.note_read.ensures.last;
      ends = c.put_closed.ensures.ends;
    }))

pub returns-clause-broken : goal.returns-clause-broken
returns-clause-broken g c =
    let new : RecordNow = record {
      place = c.self.inside.place;
      plan = c.self.inside.plan.items;
      steps = c.self.inside.steps;
      journal = c.put_closed.new.journal.items;
      trails = map trail_now c.self.inside.trails.items;
      core = c.read-answer.new.self;
      spent = map g.E.End.seen c.put_closed.new.spent.items;
      parcels = c.self.inside.parcels.items;
      handed = length c.self.inside.handed.bytes;
      waits = c.waits_read-self-inside.result;
      held = c.held_read-self-inside.result;
      missed = c.self.inside.missed;
      last = c.note_read.new.last;
      room = record {
        entries = c.put_closed.new.journal.room;
        parcels = deque_capacity c.self.inside.parcels - deque_len c.self.inside.parcels;
        ends = vec_capacity c.put_closed.new.spent - vec_len c.put_closed.new.spent;
        trails = c.self.inside.trails.room;
      };
    } in
    read-broken (record { answer = c.read-answer.result.answer; heard = c.read-answer.result.heard; closed = option_map g.E.End.seen c.read-answer.result.aftermath.closed }) _ new c.read-answer.ensures.read c.read-answer.ensures.fault

pub returns-clause-room : goal.returns-clause-room
returns-clause-room g c =
    let parcels = deque_capacity c.self.inside.parcels - deque_len c.self.inside.parcels in
    let old : Rooms = record { entries = c.self.inside.journal.room; parcels = parcels; ends = vec_capacity c.self.inside.spent - vec_len c.self.inside.spent; trails = c.self.inside.trails.room } in
    let new : Rooms = record { entries = c.put_closed.new.journal.room; parcels = parcels; ends = vec_capacity c.put_closed.new.spent - vec_len c.put_closed.new.spent; trails = c.self.inside.trails.room } in
    read-fits (record { answer = c.read-answer.result.answer; heard = c.read-answer.result.heard; closed = option_map g.E.End.seen c.read-answer.result.aftermath.closed }) _ _ c.note_read.new.journal.room old new c.read-answer.ensures.read
    (subst (λ (v : RecordNow). HasRoomFor 2 v.room) (sym c.self.view_is) c.requires.room) c.note_read.ensures.room c.put_closed.ensures.entries refl

pub returns-clause-fits : goal.returns-clause-fits
returns-clause-fits g c =
    let parcels = deque_capacity c.self.inside.parcels - deque_len c.self.inside.parcels in
    let old : Rooms = record { entries = c.self.inside.journal.room; parcels = parcels; ends = vec_capacity c.self.inside.spent - vec_len c.self.inside.spent; trails = c.self.inside.trails.room } in
    let new : Rooms = record { entries = c.put_closed.new.journal.room; parcels = parcels; ends = vec_capacity c.put_closed.new.spent - vec_len c.put_closed.new.spent; trails = c.self.inside.trails.room } in
    read-counts (record { answer = c.read-answer.result.answer; heard = c.read-answer.result.heard; closed = option_map g.E.End.seen c.read-answer.result.aftermath.closed }) _ _ c.note_read.new.journal.room old new c.read-answer.ensures.read
    (subst (λ (v : RecordNow). HasRoomFor 2 v.room) (sym c.self.view_is) c.requires.room) c.note_read.ensures.room c.put_closed.ensures.entries

pub returns-clause-owned : goal.returns-clause-owned
returns-clause-owned g c = λ place h. owned-read place (record { answer = c.read-answer.result.answer; heard = c.read-answer.result.heard; closed = option_map g.E.End.seen c.read-answer.result.aftermath.closed }) _ _ c.read-answer.ensures.read refl
    (subst (λ (v : RecordNow). Owns place v) (sym c.self.view_is) h)
