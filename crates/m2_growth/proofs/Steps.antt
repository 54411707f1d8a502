-- A step of a record: its ends are the same, later, and it has a feed where its phase has one still.
use Rattle.std.proofs.Common.{◌≡◌, ℕ, ◌&&◌, Bool, true, false, not, List, [], ◌++◌, Option, Some, None, Result, Ok, Err, IfSome, IsSome, true≢false, refl, sym, ap, subst, ◌∙◌, append-nil}
use Rattle.std.specs.Option.{option_to_list}
use Rattle.m2_fabric.specs.m2_bytes.declared.memory.NoMemory as memory
use Rattle.m2_weave.specs.m2_control.declared.keepalive.Keepalive.{Keepalive}
use Rattle.m2_turn.specs.m2_core.declared.asking.CoreAsk.{CoreAsk}
use Rattle.m2_turn.specs.m2_core.declared.asking.CoreAsk.TheVariants as ask
use Rattle.m2_turn.specs.m2_core.declared.to_compose.CoreText.{CoreText}
use Rattle.m2_turn.specs.m2_core.declared.to_compose.CoreText.TheVariants as text
use Rattle.m2_turn.specs.m2_core.declared.next.CoreNext.{CoreNext}
use Rattle.m2_turn.specs.m2_core.declared.next.CoreNext.TheVariants as next
use Rattle.m2_turn.specs.m2_core.Asking.{LeavesAsk}
use Rattle.m2_turn.specs.m2_core.Calls.{ask_event, asks_ident}
use Rattle.m2_turn.specs.m2_core.CoreNow.{CoreNow}
use Rattle.m2_turn.specs.m2_core.Front.{FrontHeard, asks, heard_by, rests, tells}
use Rattle.m2_turn.specs.m2_core.Granting.{Throttled}
use Rattle.m2_turn.specs.m2_core.Hearing.{Heeds, effects_heard}
use Rattle.m2_turn.specs.m2_core.Next.{IsNext}
use Rattle.m2_turn.specs.m2_core.ToCompose.{to_compose}
use Rattle.m2_turn.proofs.m2_core.Sound.{fault_by}
use Rattle.m2_turn.specs.m2_core.Counting.{CountsIf, to_count}
use Rattle.m2_fabric.specs.declared.end.EndRead.{EndRead}
use Rattle.m2_fabric.specs.declared.end.EndRead.TheVariants as read
use Rattle.m2_fabric.specs.declared.end.EndWrite.TheVariants as write
use Rattle.m2_fabric.specs.End.{SeenEnd}
use Rattle.m2_bytes_fit.specs.m2_feed.Calls.{ComposesIfOk, ReadsOn, WritesOn, after_greeting}
use Rattle.m2_bytes_fit.specs.m2_feed.declared.answers.FeedWrite.{FeedWrite}
use Rattle.m2_bytes_fit.specs.m2_feed.declared.answers.FeedWrite.TheVariants as put
use Rattle.m2_bytes_fit.specs.m2_feed.declared.writing.Writing.{Writing}
use Rattle.m2_bytes_fit.specs.m2_feed.declared.writing.Writing.TheVariants as writing
use Rattle.m2_bytes_fit.specs.m2_feed.FeedNow.{FeedNow}
use Rattle.m2_dispatch.specs.m2_frame.Reading.{Item}
use Rattle.m2_turn.specs.m2_handshake.declared.answer.HalfStep.{HalfStep}
use Rattle.m2_turn.specs.m2_handshake.declared.answer.HalfStep.TheVariants as half
use Rattle.m2_turn.specs.m2_handshake.Standing.{Standing}
use Rattle.m2_bytes_fit.specs.m2_feed.declared.wire_fault.WireFault.{WireFault}
use Rattle.m2_bytes_fit.specs.m2_feed.declared.frame_heard.FrameHeard.TheVariants as heard
use Rattle.m2_bytes_fit.specs.m2_feed.declared.hearer.Hearer.{Hearer}
use Rattle.m2_bytes_fit.specs.m2_feed.declared.heard.Heard.{Heard}
use Rattle.m2_bytes_fit.specs.m2_feed.declared.heard.Heard.TheVariants as answer
use Rattle.m2_weave.specs.m2_journal.declared.entry.Entry.{Entry}
use Rattle.m2_weave.specs.m2_journal.declared.facts.PlanStep.{PlanStep}
use Rattle.m2_weave.specs.m2_journal.declared.facts.PlanStep.TheVariants as step
use Rattle.m2_weave.specs.m2_journal.OutFrames as out
use Rattle.m2_weave.specs.m2_journal.SideFacts.{SideFacts}
use Rattle.m2_turn.specs.m2_core.LiveCalls.{live_with}
use Rattle.m2_turn.specs.m2_core.Effects.{closed_if, has_effects}
use Rattle.m2_turn.specs.m2_core.LiveHearing.{ObeysReset}
use Rattle.m2_turn.specs.m2_core.LiveNow.{LiveNow, OnFeedNow, is_waiting}
use Rattle.m2_turn.specs.m2_core.OnFeed.{AnswersStamp, ChangesRoom, ComposesAsk, ComposesFeed, ComposesMessage, GreetsFeed, PassesFeed, PassesItem, ReadsFeed, WritesFeed, granted_feed}
use Rattle.m2_turn.specs.m2_core.Passing.{StampsFeed}
use Rattle.m2_turn.specs.m2_session.declared.event.Effects.{Effects}
use Rattle.m2_turn.specs.m2_session.declared.session.Session.{Session}
use Rattle.m2_turn.specs.m2_session.Phases.{is_among, with_feed}
use Rattle.m2_turn.specs.m2_session.Steps.{step_of}
use Rattle.m2_turn.specs.m2_record.declared.composing.Composed.{Composed}
use Rattle.m2_turn.specs.m2_record.declared.composing.Composed.TheVariants as composed
use Rattle.m2_turn.specs.m2_record.declared.due.Due.{Due}
use Rattle.m2_turn.specs.m2_record.declared.due.Due.TheVariants as due
use Rattle.m2_turn.specs.m2_record.declared.framing.Framed.{Framed}
use Rattle.m2_turn.specs.m2_record.declared.framing.Framed.TheVariants as framed
use Rattle.m2_turn.specs.m2_record.declared.stepped.Stepped.{Stepped}
use Rattle.m2_turn.specs.m2_record.declared.stepped.Stepped.TheVariants as stepped
use Rattle.m2_turn.specs.m2_record.Calls.{Breaks, ClosesFor, ComposesAs, GetsEntries, GoesDown, IsSameButRoom, Writes, fault_put, CountsResumption}
use Rattle.m2_turn.specs.m2_record.Due.{due_step, next_step}
use Rattle.m2_turn.specs.m2_record.Framing.{AnswersFront, Frames, Greets}
use Rattle.m2_turn.specs.m2_record.Reading.{Reads, fault_read, CountsAnswer, EndsRead}
use Rattle.m2_turn.specs.m2_record.RecordNow.{RecordNow}
use Rattle.m2_turn.specs.m2_record.Stepping.{FeedStays, HandsAs, NothingDone, PlansAs, StepsAs, StepsBy, TakesDue, Worked}
use Rattle.m2_growth.specs.Ends.{EndGrows}
use Rattle.m2_growth.proofs.Calls.{grows_equal, read_grows, write_grows}
use Rattle.m2_growth.proofs.Ends.{grows_same}
use Rattle.m2_growth.proofs.Standing.{FeedGrows, MovesOn, Stand, StandsOn, fixed_of, moves_chain, moves_same, stand_of, stands_chain, stands_entered, stands_grown, stands_left}
use Rattle.m2_growth.proofs.Standing as stand
use Rattle.m2_turn.proofs.GoesOn.{to_be_composed}

-- ---- feeds whose end is as it was, or was read or written

same_end : (v x : FeedNow) → x.end ≡ v.end → EndGrows v.end x.end
same_end v x e = grows_equal v.end x.end e

greeted_end : (answer : HalfStep) (s : Standing) (text : List ℕ) (v : FeedNow) → (after_greeting answer s text v).end ≡ v.end
greeted_end half.Authed s text v = refl
greeted_end half.NotYet s text v = refl
greeted_end half.Wrote s text v = refl
greeted_end (half.Fault f) s text v = refl
greeted_end half.NoMemory s text v = refl

greets_feed : (answer : HalfStep) (o p : Option FeedNow) → GreetsFeed answer o p → stand.FeedGoesOn o p
greets_feed answer (Some v) (Some x) g = same_end v x (ap (λ (z : FeedNow). z.end) g.leaves ∙ greeted_end answer g.after x.composed v)
greets_feed answer (Some v) None g = absurd g
greets_feed answer None p g = absurd g

passes_item : (item : Item) (o p : Option FeedNow) → PassesItem item o p → stand.FeedGoesOn o p
passes_item item (Some v) (Some x) (_, e) = same_end v x (ap (λ (z : FeedNow). z.end) e)
passes_item item (Some v) None g = absurd g
passes_item item None p g = absurd g

passes_feed : (o p : Option FeedNow) → PassesFeed o p → stand.FeedGoesOn o p
passes_feed (Some v) (Some x) (_, e) = same_end v x (ap (λ (z : FeedNow). z.end) e)
passes_feed (Some v) None g = absurd g
passes_feed None p g = absurd g

stamps_feed : (h : Hearer) (k : Keepalive) (o p : Option FeedNow) → StampsFeed h k o p → stand.FeedGoesOn o p
stamps_feed h k (Some v) (Some x) (_, (_, e)) = same_end v x (ap (λ (z : FeedNow). z.end) e)
stamps_feed h k (Some v) None g = absurd g
stamps_feed h k None p g = absurd g

room_feed : (o p : Option FeedNow) → ChangesRoom o p → stand.FeedGoesOn o p
room_feed (Some v) (Some x) e = same_end v x (ap (λ (z : FeedNow). z.end) e)
room_feed (Some v) None g = absurd g
room_feed None p g = absurd g

ask_feed : (bytes : List ℕ) (o p : Option FeedNow) → ComposesAsk bytes o p → stand.FeedGoesOn o p
ask_feed bytes (Some v) (Some x) e = same_end v x (ap (λ (z : FeedNow). z.end) e)
ask_feed bytes (Some v) None g = absurd g
ask_feed bytes None p g = absurd g

composes_end : (r : Result (Unit {0}) memory.NoMemory) (w : Writing) (bytes : List ℕ) (v x : FeedNow) → ComposesIfOk r w bytes v x → EndGrows v.end x.end
composes_end (Ok u) w bytes v x e = same_end v x (ap (λ (z : FeedNow). z.end) e)
composes_end (Err u) w bytes v x e = same_end v x (ap (λ (z : FeedNow). z.end) e)

composes_feed : (r : Result (Unit {0}) memory.NoMemory) (w : Writing) (bytes : List ℕ) (o p : Option FeedNow) → ComposesFeed r w bytes o p → stand.FeedGoesOn o p
composes_feed r w bytes (Some v) (Some x) e = composes_end r w bytes v x e
composes_feed r w bytes (Some v) None g = absurd g
composes_feed r w bytes None p g = absurd g

stamp_feed : (r : Result (Unit {0}) memory.NoMemory) (o p : Option FeedNow) → AnswersStamp r o p → stand.FeedGoesOn o p
stamp_feed r (Some v) (Some x) e = composes_end r _ _ v x e
stamp_feed r (Some v) None g = absurd g
stamp_feed r None p g = absurd g

read_end : (answer : EndRead) (v x : FeedNow) → ReadsOn answer v x → EndGrows v.end x.end
read_end (read.Got n) v x r = read_grows (read.Got n) r.hears.piece v.end x.end r.hears.reads
read_end read.NotYet v x r = read_grows read.NotYet r.hears.piece v.end x.end r.hears.reads
read_end read.Ended v x r = read_grows read.Ended r.hears.piece v.end x.end r.hears.reads
read_end read.Failed v x r = read_grows read.Failed r.hears.piece v.end x.end r.hears.reads
read_end read.NoMemory v x e = same_end v x (ap (λ (z : FeedNow). z.end) e)

reads_feed : (answer : EndRead) (o p : Option FeedNow) → ReadsFeed answer o p → stand.FeedGoesOn o p
reads_feed answer (Some v) (Some x) r = read_end answer v x r
reads_feed answer (Some v) None g = absurd g
reads_feed answer None p g = absurd g

write_end : (answer : FeedWrite) (v x : FeedNow) → WritesOn answer v x → EndGrows v.end x.end
write_end (put.Put n acknowledged) v x (w, _, _) = write_grows (write.Put n) v.composed v.end x.end w
write_end put.NotYet v x (w, _) = write_grows write.NotYet v.composed v.end x.end w
write_end put.Failed v x (w, _) = write_grows write.Failed v.composed v.end x.end w
write_end put.NoMemory v x e = same_end v x (ap (λ (z : FeedNow). z.end) e)

writes_feed : (answer : FeedWrite) (o p : Option FeedNow) → WritesFeed answer o p → stand.FeedGoesOn o p
writes_feed answer (Some v) (Some x) w = write_end answer v x w
writes_feed answer (Some v) None g = absurd g
writes_feed answer None p g = absurd g

equal_feed : (o p : Option FeedNow) → p ≡ o → FeedGrows o p
equal_feed o p e = rw e (at o)
  where
    at : (o : Option FeedNow) → FeedGrows o o
    at (Some v) = grows_same v.end
    at None = tt

granted_stays : (o : Option FeedNow) → FeedGrows o (granted_feed o)
granted_stays (Some v) = grows_same v.end
granted_stays None = tt

memory_feed : (o p : Option FeedNow) → FeedStays o p → FeedGrows o p
memory_feed (Some v) (Some x) e = same_end v x (ap (λ (z : FeedNow). z.end) e)
memory_feed (Some v) None g = absurd g
memory_feed None None g = tt
memory_feed None (Some x) g = absurd g

-- ---- cores

-- the phase stays, and the feed
pub record CoreStays (old new : CoreNow) : Type 0 where
  pub phase : new.live.session.phase ≡ old.live.session.phase
  pub feed : FeedGrows old.live.feed new.live.feed

core_by : (old new : CoreNow) → new.live.session.phase ≡ old.live.session.phase → stand.FeedGoesOn old.live.feed new.live.feed → CoreStays old new
core_by old new p f = record { phase = p; feed = stand.on_grows old.live.feed new.live.feed f }

core_same : (old new : CoreNow) → new.live.session.phase ≡ old.live.session.phase → new.live.feed ≡ old.live.feed → CoreStays old new
core_same old new p f = record { phase = p; feed = equal_feed old.live.feed new.live.feed f }

-- all but a fault, by which the feed is closed
abbrev IsNoFault : CoreNext → Type 0
IsNoFault (next.Fault cause) = ⊥
IsNoFault _ = Unit {0}

next_stays : (t : Throttled) (answer : CoreNext) (front : FrontHeard) (old new : CoreNow) → IsNoFault answer → IsNext t answer front old new → CoreStays old new
next_stays t next.Rests rests old new _ e = core_same old new (ap (λ c. c.live.session.phase) e) (ap (λ c. c.live.feed) e)
next_stays t next.Granted (asks n) old new _ g = record { phase = ap (λ c. c.live.session.phase) g.only; feed = subst (FeedGrows old.live.feed) (sym (ap (λ c. c.live.feed) g.only)) (granted_stays old.live.feed) }
next_stays t (next.Full stage held) (asks n) old new _ g = core_same old new (ap (λ c. c.live.session.phase) g.only) (ap (λ c. c.live.feed) g.only)
next_stays t (next.Again stage seen now) (asks n) old new _ g = core_same old new (ap (λ c. c.live.session.phase) g.only) (ap (λ c. c.live.feed) g.only)
next_stays t next.Passed (tells heard.Nothing) old new _ h = core_by old new (ap (λ c. c.live.session.phase) h.only) (passes_item h.passes.item old.live.feed new.live.feed h.passes.passes)
next_stays t next.Passed (tells (heard.Stamp k)) old new _ h = core_by old new (ap (λ c. c.live.session.phase) h.only) (stamps_feed _ k old.live.feed new.live.feed h.stamps)
next_stays t next.NoMemory (tells (heard.Stamp k)) old new _ e = core_same old new (ap (λ c. c.live.session.phase) e) (ap (λ c. c.live.feed) e)
next_stays t (next.Acked number) (tells (heard.Acknowledges n)) old new _ (_, h) = core_same old new (ap (λ c. c.live.session.phase) h.only) (ap (λ c. c.live.feed) h.only)
next_stays t (next.Accepted a) (tells (heard.Brings n)) old new _ (_, h) = core_by old new (ap (λ c. c.live.session.phase) h.only) (passes_item _ old.live.feed new.live.feed h.moves.passes)
next_stays t next.NoMemory (tells (heard.Brings n)) old new _ e = core_same old new (ap (λ c. c.live.session.phase) e) (ap (λ c. c.live.feed) e)
next_stays t (next.Resets full) (tells (heard.Resets mark)) old new _ (_, _, e) = core_same old new (ap (λ c. c.live.session.phase) e) (ap (λ c. c.live.feed) e)
next_stays t (next.Fault cause) front old new none _ = absurd none
next_stays t _ _ old new _ e = elim e [ ]

front_stays : (t : Throttled) (answer : CoreNext) (old new : CoreNow) → IsNoFault answer → AnswersFront t answer old new → CoreStays old new
front_stays t answer old new none h = at old.live.feed h
  where
    at : (o : Option FeedNow) → OnFeedNow o (λ v. IsNext t answer (heard_by old v.reading) old new) → CoreStays old new
    at (Some v) n = next_stays t answer (heard_by old v.reading) old new none n
    at None n = absurd n

-- ---- records

-- a record whose core stays so
stays : (old new : RecordNow) → fixed_of new ≡ fixed_of old → new.spent ≡ old.spent → CoreStays old.core new.core → MovesOn old new
stays old new f s c = record { fixed = f; stands = stands_grown (stand_of old) (stand_of new) s c.phase c.feed }

-- its phase is one that has a feed, and the feed stays
enters : (old new : RecordNow) → fixed_of new ≡ fixed_of old → new.spent ≡ old.spent → is_among new.core.live.session.phase with_feed ≡ true →
    stand.FeedGoesOn old.core.live.feed new.core.live.feed → MovesOn old new
enters old new f s p g = record { fixed = f; stands = stands_entered (stand_of old) (stand_of new) s p g }

pub room_alone : (old new : RecordNow) → IsSameButRoom old new → MovesOn old new
room_alone old new e = moves_same old new (ap fixed_of e) (ap stand_of e)

-- ---- the feed is closed

-- what a fault leaves of where a record stands
broke : (lossy server idle lost : Bool) (l : LiveNow) (spent : List SeenEnd) →
    let outcome : Session × Effects = fault_by lossy server idle l.session in
    let after : LiveNow = has_effects outcome.1 (record l { session = record outcome.0 { lost_ready = lost } }) in
    StandsOn (record { phase = l.session.phase; feed = l.feed; spent = spent })
    (record { phase = after.session.phase; feed = after.feed; spent = spent ++ option_to_list (closed_if outcome.1.close l.feed) })
broke true server idle lost l spent = stands_left _ _ refl refl refl
broke false true idle lost l spent = stands_left _ _ refl refl refl
broke false false true lost l spent = stands_left _ _ refl refl refl
broke false false false lost l spent = stands_left _ _ refl refl refl

breaks : (now : ℕ) (old new : RecordNow) → Breaks now old new → MovesOn old new
breaks now old new e = record {
  fixed = ap fixed_of e;
  stands = subst (StandsOn (stand_of old)) (sym (ap stand_of e))
      (broke s.policy.lossy s.policy.server (s.policy.standby && not (is_waiting old.core.live)) _ old.core.live old.spent);
}
  where
    s : Session
    s = old.core.live.session

closes : (cause : Option WireFault) (now : ℕ) (old new : RecordNow) → ClosesFor cause now old new → MovesOn old new
closes (Some f) now old new e = breaks now old new e
closes None now old new e = moves_same old new (ap fixed_of e) (ap stand_of e)

goes_down : (planned : Bool) (old new : RecordNow) → GoesDown planned old new → MovesOn old new
goes_down planned old new e = record {
  fixed = ap fixed_of e;
  stands = stands_left (stand_of old) (stand_of new) (ap (λ r. r.core.live.feed) e) (ap (λ (r : RecordNow). is_among r.core.live.session.phase with_feed) e) (ap (λ r. r.spent) e);
}

-- ---- the rows of the table

pub plans : (next : Option PlanStep) (answer : Result (Unit {0}) memory.NoMemory) (now : ℕ) (old new : RecordNow) → PlansAs next answer now old new → MovesOn old new
plans (Some (step.Post m)) (Ok _) now old new e = moves_same old new (ap fixed_of e) (ap stand_of e)
plans (Some (step.Post m)) (Err _) now old new e = moves_same old new (ap fixed_of e) (ap stand_of e)
plans (Some step.Dial) (Ok _) now old new e = moves_same old new (ap fixed_of e) (ap stand_of e)
plans (Some step.Dial) (Err _) now old new e = elim e [ ]
plans (Some step.Down) (Ok _) now old new e = goes_down true old new e
plans (Some step.Down) (Err _) now old new e = elim e [ ]
plans None answer now old new (_, e) = goes_down false old new e

hands : (answer : Stepped) (old new : RecordNow) → HandsAs answer old new → MovesOn old new
hands (stepped.Hand x) old new (_, e) = moves_same old new (ap fixed_of e) (ap stand_of e)
hands stepped.Moved old new e = elim e [ ]
hands stepped.Dry old new e = elim e [ ]
hands (stepped.Full stage held) old new e = elim e [ ]
hands (stepped.Again stage seen now) old new e = elim e [ ]
hands stepped.Spent old new e = elim e [ ]
hands (stepped.Faulted f) old new e = elim e [ ]
hands stepped.NoMemory old new e = elim e [ ]

writes : (answer : FeedWrite) (now : ℕ) (old new : RecordNow) → Writes answer now old new → MovesOn old new
writes answer now old new w =
    moves_chain old w.mid new
    (stays old w.mid (ap fixed_of w.once.only) (ap (λ r. r.spent) w.once.only)
    (core_by old.core w.mid.core (ap (λ c. c.live.session.phase) w.once.core.only) (writes_feed answer old.core.live.feed w.mid.core.live.feed w.once.core.writes)))
    (closes (fault_put answer) now w.mid new w.closes)

greets : (answer : HalfStep) (now : ℕ) (old new : RecordNow) → Greets answer now old new → MovesOn old new
greets (half.Fault f) now old new (mid, (h, e), b) =
    moves_chain old mid new
    (stays old mid (ap fixed_of e) (ap (λ r. r.spent) e) (core_by old.core mid.core (ap (λ c. c.live.session.phase) h.only) (greets_feed (half.Fault f) old.core.live.feed mid.core.live.feed h.greets)))
    (breaks now mid new b)
greets half.NotYet now old new (h, e) = stays old new (ap fixed_of e) (ap (λ r. r.spent) e) (core_by old.core new.core (ap (λ c. c.live.session.phase) h.only) (greets_feed half.NotYet old.core.live.feed new.core.live.feed h.greets))
greets half.Wrote now old new (h, e) = stays old new (ap fixed_of e) (ap (λ r. r.spent) e) (core_by old.core new.core (ap (λ c. c.live.session.phase) h.only) (greets_feed half.Wrote old.core.live.feed new.core.live.feed h.greets))
greets half.Authed now old new (h, e) = stays old new (ap fixed_of e) (ap (λ r. r.spent) e) (core_by old.core new.core (ap (λ c. c.live.session.phase) h.only) (greets_feed half.Authed old.core.live.feed new.core.live.feed h.greets))
greets half.NoMemory now old new (h, e) = stays old new (ap fixed_of e) (ap (λ r. r.spent) e) (core_by old.core new.core (ap (λ c. c.live.session.phase) h.only) (greets_feed half.NoMemory old.core.live.feed new.core.live.feed h.greets))

-- a reset is passed, and the session goes back to where it asks
obeys : (full : Bool) (old new : LiveNow) → ObeysReset full old new → (is_among new.session.phase with_feed ≡ true) × stand.FeedGoesOn old.feed new.feed
obeys true old new o = (ap (λ (l : LiveNow). is_among l.session.phase with_feed) o.live, subst (stand.FeedGoesOn old.feed) (sym (ap (λ (l : LiveNow). l.feed) o.live)) (passes_feed old.feed o.passed o.passes))
obeys false old new o = (ap (λ (l : LiveNow). is_among l.session.phase with_feed) o.live, subst (stand.FeedGoesOn old.feed) (sym (ap (λ (l : LiveNow). l.feed) o.live)) (passes_feed old.feed o.passed o.passes))

frames : (t : Throttled) (answer : Framed) (now : ℕ) (old new : RecordNow) → Frames t answer now old new → MovesOn old new
frames t (framed.Half answer) now old new g = greets answer now old new g
frames t framed.Passed now old new (h, e) = stays old new (ap fixed_of e) (ap (λ r. r.spent) e) (front_stays t next.Passed old.core new.core tt h)
frames t framed.Granted now old new (h, e) = stays old new (ap fixed_of e) (ap (λ r. r.spent) e) (front_stays t next.Granted old.core new.core tt h)
frames t (framed.Acked number) now old new (h, e) = stays old new (ap fixed_of e) (ap (λ r. r.spent) e) (front_stays t (next.Acked number) old.core new.core tt h)
frames t (framed.Accepted number) now old new (a, _, h, e) = stays old new (ap fixed_of e) (ap (λ r. r.spent) e) (front_stays t (next.Accepted a) old.core new.core tt h)
frames t (framed.Obeyed full) now old new (mid, (_, first), (h, second)) =
    let so = obeys full mid.core.live new.core.live h.obeys in
    moves_chain old mid new (room_alone old mid first) (enters mid new (ap fixed_of second) (ap (λ r. r.spent) second) so.0 so.1)
frames t (framed.Faulted cause) now old new (_, e) = breaks now old new e
frames t (framed.Full stage out) now old new (h, e) = stays old new (ap fixed_of e) (ap (λ r. r.spent) e) (front_stays t (next.Full stage out) old.core new.core tt h)
frames t (framed.Again stage seen at) now old new (h, e) = stays old new (ap fixed_of e) (ap (λ r. r.spent) e) (front_stays t (next.Again stage seen at) old.core new.core tt h)
frames t framed.NoMemory now old new (_, e) = room_alone old new e

-- ---- what is heard

-- the phase, the feed and what was spent, behind an answer that is taken
abbrev heeding : LiveNow → List SeenEnd → Stand
heeding l spent = record { phase = l.session.phase; feed = l.feed; spent = spent }

-- an answer leads to a phase with a feed
heeds_on : (l m : LiveNow) (passed : Option FeedNow) (spent : List SeenEnd) → PassesFeed l.feed passed → m.feed ≡ passed → is_among m.session.phase with_feed ≡ true →
    StandsOn (heeding l spent) (heeding m (spent ++ []))
heeds_on l m passed spent p f e = stands_entered (heeding l spent) (heeding m (spent ++ [])) (append-nil spent) e (subst (stand.FeedGoesOn l.feed) (sym f) (passes_feed l.feed passed p))

heeds_none : (l m : LiveNow) (spent : List SeenEnd) → m ≡ l → StandsOn (heeding l spent) (heeding m (spent ++ []))
heeds_none l m spent e = stands_grown (heeding l spent) (heeding m (spent ++ [])) (append-nil spent) (ap (λ (x : LiveNow). x.session.phase) e) (equal_feed l.feed m.feed (ap (λ (x : LiveNow). x.feed) e))

heeds : (h : Option Heard) (l m : LiveNow) (spent : List SeenEnd) → Heeds h l m →
    StandsOn (heeding l spent) (heeding m (spent ++ option_to_list (closed_if (effects_heard h l.session).close l.feed)))
heeds None l m spent e = heeds_none l m spent e
heeds (Some (answer.Reset full)) l m spent e = heeds_none l m spent e
heeds (Some (answer.Refused f)) l m spent e = heeds_none l m spent e
heeds (Some (answer.ServerIdent cookie global)) l m spent t = heeds_on l m t.passed spent t.passes (ap (λ (x : LiveNow). x.feed) t.live) (ap (λ (x : LiveNow). is_among x.session.phase with_feed) t.live)
heeds (Some (answer.ReconnectOk seen)) l m spent t = heeds_on l m t.passed spent t.passes (ap (λ (x : LiveNow). x.feed) t.live) (ap (λ (x : LiveNow). is_among x.session.phase with_feed) t.live)
heeds (Some (answer.Retry number)) l m spent t = heeds_on l m t.passed spent t.passes (ap (λ (x : LiveNow). x.feed) t.live) (ap (λ (x : LiveNow). is_among x.session.phase with_feed) t.live)
heeds (Some (answer.RetryGlobal number)) l m spent t = heeds_on l m t.passed spent t.passes (ap (λ (x : LiveNow). x.feed) t.live) (ap (λ (x : LiveNow). is_among x.session.phase with_feed) t.live)
heeds (Some answer.Wait) l m spent t = stands_left (heeding l spent) (heeding m (spent ++ option_to_list (closed_if true l.feed))) (ap (λ (x : LiveNow). x.feed) t.live) (ap (λ (x : LiveNow). is_among x.session.phase with_feed) t.live) refl

-- what a resumption acknowledges is counted, which moves neither the phase nor the feed
counts_core : (n : Option ℕ) (old new : CoreNow) → CountsIf n old new → CoreStays old new
counts_core (Some number) old new h = core_same old new (ap (λ c. c.live.session.phase) h.only) (ap (λ c. c.live.feed) h.only)
counts_core None old new e = core_same old new (ap (λ c. c.live.session.phase) e) (ap (λ c. c.live.feed) e)

pub counts_on : (old new : RecordNow) → CountsResumption old new → MovesOn old new
counts_on old new (h, e) = stays old new (ap fixed_of e) (ap (λ r. r.spent) e) (counts_core (to_count old.core.live) old.core new.core h)

counts_answer : (h : Option Heard) (old new : RecordNow) → CountsAnswer h old new → MovesOn old new
counts_answer (Some (answer.ReconnectOk seen)) old new c = counts_on old new c
counts_answer (Some (answer.ServerIdent cookie global)) old new e = moves_same old new (ap fixed_of e) (ap stand_of e)
counts_answer (Some (answer.Retry number)) old new e = moves_same old new (ap fixed_of e) (ap stand_of e)
counts_answer (Some (answer.RetryGlobal number)) old new e = moves_same old new (ap fixed_of e) (ap stand_of e)
counts_answer (Some (answer.Reset full)) old new e = moves_same old new (ap fixed_of e) (ap stand_of e)
counts_answer (Some (answer.Refused f)) old new e = moves_same old new (ap fixed_of e) (ap stand_of e)
counts_answer (Some answer.Wait) old new e = moves_same old new (ap fixed_of e) (ap stand_of e)
counts_answer None old new e = moves_same old new (ap fixed_of e) (ap stand_of e)

ends_read : (cause : Option WireFault) (h : Option Heard) (now : ℕ) (old new : RecordNow) → EndsRead cause h now old new → MovesOn old new
ends_read (Some f) h now old new e = breaks now old new e
ends_read None h now old new c = counts_answer h old new c

reads_on : (x : _) (now : ℕ) (old new : RecordNow) → Reads x now old new → MovesOn old new
reads_on x now old new r = moves_chain old r.mid new first (ends_read (fault_read x) x.heard now r.mid new r.ends)
  where
    read : LiveNow
    read = live_with r.once.core.feed old.core.live

    spent : List SeenEnd
    spent = old.spent ++ option_to_list (closed_if (effects_heard x.heard read.session).close read.feed)

    first : MovesOn old r.mid
    first = record {
      fixed = ap fixed_of r.once.only;
      stands = stands_chain (stand_of old) (heeding read old.spent) (stand_of r.mid)
          (stands_grown (stand_of old) (heeding read old.spent) refl refl (stand.on_grows old.core.live.feed read.feed (reads_feed x.answer old.core.live.feed read.feed r.once.core.reads)))
          (subst (λ s. StandsOn (heeding read old.spent) (heeding r.mid.core.live s)) (sym (ap (λ r. r.spent) r.once.only ∙ ap (λ o. old.spent ++ option_to_list o) r.once.core.closes))
          (heeds x.heard read r.mid.core.live old.spent r.once.core.heeds));
    }

-- ---- what is composed

ask_phase : (f : SideFacts) (b : Bool) (number : ℕ) (s : Session) → is_among (step_of s (ask_event f b number)).session.phase with_feed ≡ true
ask_phase f true number s = refl
ask_phase f false number s = refl

asks_on : (answer : CoreAsk) (entries : List Entry) (old new : RecordNow) → LeavesAsk answer old.core new.core → GetsEntries entries old new → MovesOn old new
asks_on (ask.Asked by_ident number) entries old new h e =
    enters old new (ap fixed_of e) (ap (λ r. r.spent) e) (ap (λ (s : Session). is_among s.phase with_feed) h.event ∙ ask_phase old.core.facts (asks_ident old.core.live) number old.core.live.session) (ask_feed _ old.core.live.feed new.core.live.feed h.text)
asks_on ask.Spent entries old new (r, c) e = stays old new (ap fixed_of e) (ap (λ r. r.spent) e) (core_by old.core new.core (ap (λ c. c.live.session.phase) c) (room_feed old.core.live.feed new.core.live.feed r))
asks_on (ask.Again seen now) entries old new (r, c) e = stays old new (ap fixed_of e) (ap (λ r. r.spent) e) (core_by old.core new.core (ap (λ c. c.live.session.phase) c) (room_feed old.core.live.feed new.core.live.feed r))
asks_on ask.NoMemory entries old new (r, c) e = stays old new (ap fixed_of e) (ap (λ r. r.spent) e) (core_by old.core new.core (ap (λ c. c.live.session.phase) c) (room_feed old.core.live.feed new.core.live.feed r))

message_feed : (number last : ℕ) (m : _) (o p : Option FeedNow) → ComposesMessage number last m o p → stand.FeedGoesOn o p
message_feed number last m (Some v) (Some x) e = same_end v x (ap (λ (z : FeedNow). z.end) e)
message_feed number last m (Some v) None g = absurd g
message_feed number last m None p g = absurd g

composes : (t : CoreText) (answer : Composed) (old new : RecordNow) → ComposesAs t answer old new → MovesOn old new
composes text.Ask (composed.Asked by_ident number) old new (_, left, e) = asks_on (ask.Asked by_ident number) _ old new left e
composes text.Ask composed.Spent old new (_, left, e) = asks_on ask.Spent _ old new left e
composes text.Ask (composed.Again seen now) old new (_, left, e) = asks_on (ask.Again seen now) _ old new left e
composes text.Ask composed.NoMemory old new (_, left, e) = asks_on ask.NoMemory _ old new left e
composes text.KeepaliveAnswer composed.Answered old new (h, e) = stays old new (ap fixed_of e) (ap (λ r. r.spent) e) (core_by old.core new.core (ap (λ c. c.live.session.phase) h.only) (stamp_feed (Ok tt) old.core.live.feed new.core.live.feed h.composes))
composes text.KeepaliveAnswer composed.NoMemory old new (h, e) = stays old new (ap fixed_of e) (ap (λ r. r.spent) e) (core_by old.core new.core (ap (λ c. c.live.session.phase) h.only) (stamp_feed (Err (record {})) old.core.live.feed new.core.live.feed h.composes))
composes text.Message (composed.Numbered number) old new (h, e) = stays old new (ap fixed_of e) (ap (λ r. r.spent) e) (core_by old.core new.core (ap (λ c. c.live.session.phase) h.only) (message_feed number old.core.live.last h.numbers.message old.core.live.feed new.core.live.feed h.numbers.composes))
composes text.Message composed.NoMemory old new (h, e) = stays old new (ap fixed_of e) (ap (λ r. r.spent) e) (core_by old.core new.core (ap (λ c. c.live.session.phase) h.only) (room_feed old.core.live.feed new.core.live.feed h.numbers.1))
composes text.Acknowledgement composed.Acknowledged old new (h, e) = stays old new (ap fixed_of e) (ap (λ r. r.spent) e) (core_by old.core new.core (ap (λ c. c.live.session.phase) h.only) (composes_feed (Ok tt) (writing.Acknowledgement old.core.live.last false) (out.text_of old.core.facts (out.acknowledgement old.core.live.last)) old.core.live.feed new.core.live.feed h.composes))
composes text.Acknowledgement composed.NoMemory old new (h, e) = stays old new (ap fixed_of e) (ap (λ r. r.spent) e) (core_by old.core new.core (ap (λ c. c.live.session.phase) h.only) (composes_feed (Err (record {})) (writing.Acknowledgement old.core.live.last false) (out.text_of old.core.facts (out.acknowledgement old.core.live.last)) old.core.live.feed new.core.live.feed h.composes))
composes _ _ old new e = elim e [ ]

composes_next : (t : Option CoreText) (answer : Composed) (old new : RecordNow) → IfSome t (λ c. ComposesAs c answer old new) → IsSome t → MovesOn old new
composes_next (Some c) answer old new e _ = composes c answer old new e
composes_next None c old new e some = absurd (true≢false (sym some))

by_due : (d : Due) (w : Worked) (old new : RecordNow) → (d ≡ due.Compose → IsSome (to_compose old.core)) → StepsBy d w old new → MovesOn old new
by_due due.Nothing w old new _ r = moves_same old new (ap fixed_of r.only) (ap stand_of r.only)
by_due (due.Connect at) w old new _ r = moves_same old new (ap fixed_of r.only) (ap stand_of r.only)
by_due due.Plan w old new _ r = plans (next_step old) r.taken w.now old new r.plans
by_due due.Hand w old new _ r = hands w.answer old new r.hands
by_due due.Write w old new _ r = writes r.put w.now old new r.writes
by_due due.Frame w old new _ r = frames w.bytes r.framed w.now old new r.frames
by_due due.Read w old new _ r = reads_on r.read w.now old new r.reads
by_due due.Compose w old new some r = composes_next (to_compose old.core) r.composed old new r.composes (some refl)

-- ---- a step

takes_due : (w : Worked) (old mid new : RecordNow) → IsSameButRoom old mid → TakesDue w mid new → MovesOn old new
takes_due w old mid new room due = moves_chain old mid new (room_alone old mid room) (by_due (due_step w.now mid) w mid new (to_be_composed w.now mid) due)

nothing_done : (old new : RecordNow) → NothingDone old new → MovesOn old new
nothing_done old new n = stays old new (ap fixed_of n.only) (ap (λ r. r.spent) n.only)
    (record { phase = ap (λ (r : RecordNow). r.core.live.session.phase) n.only; feed = memory_feed old.core.live.feed new.core.live.feed n.feed })

pub steps : (answer : Stepped) (w : Worked) (old new : RecordNow) → StepsAs answer w old new → MovesOn old new
steps stepped.NoMemory w old new n = nothing_done old new n.nothing
steps stepped.Moved w old new (mid, room, due) = takes_due w old mid new room due
steps (stepped.Hand x) w old new (mid, room, due) = takes_due w old mid new room due
steps stepped.Dry w old new (mid, room, due) = takes_due w old mid new room due
steps (stepped.Full stage held) w old new (mid, room, due) = takes_due w old mid new room due
steps (stepped.Again stage seen now) w old new (mid, room, due) = takes_due w old mid new room due
steps stepped.Spent w old new (mid, room, due) = takes_due w old mid new room due
steps (stepped.Faulted f) w old new (mid, room, due) = takes_due w old mid new room due
