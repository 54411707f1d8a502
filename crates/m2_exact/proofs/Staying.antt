-- Steps of records over ends in memory stay over ends in memory.
use Rattle.std.proofs.Common.{◌≡◌, ℕ, List, Bool, true, false, Option, None, Some, Result, Ok, Err, refl, sym, subst}
use Rattle.std.specs.Prelude.{◌≢◌}
use Rattle.std.specs.Option.{is_some}
use Rattle.m2_fabric.specs.m2_bytes.declared.memory.NoMemory as memory
use Rattle.m2_script.specs.m2_center.m2_core.CoreNow.{CoreNow}
use Rattle.m2_script.specs.m2_center.m2_core.Counting.{CountsIf, to_count}
use Rattle.m2_script.specs.m2_center.m2_core.Front.{FrontHeard, asks, heard_by, rests, tells}
use Rattle.m2_script.specs.m2_center.m2_core.Granting.{Throttled}
use Rattle.m2_script.specs.m2_center.m2_core.LiveNow.{LiveNow, OnFeedNow, is_waiting}
use Rattle.m2_script.specs.m2_center.m2_core.LiveCalls.{live_with}
use Rattle.m2_script.specs.m2_center.m2_core.Next.{IsNext}
use Rattle.m2_script.specs.m2_center.m2_core.OnFeed.{GreetsFeed, PassesItem, granted_feed}
use Rattle.m2_script.specs.m2_center.m2_core.Passing.{StampsFeed}
use Rattle.m2_script.specs.m2_center.m2_core.ToCompose.{to_compose}
use Rattle.m2_script.specs.m2_center.m2_core.declared.next.CoreNext.{CoreNext}
use Rattle.m2_script.specs.m2_center.m2_core.declared.next.CoreNext.TheVariants as next
use Rattle.m2_fabric.specs.Kinds.{IsInMemory}
use Rattle.m2_script.specs.m2_center.m2_feed.Calls.{after_greeting}
use Rattle.m2_script.specs.m2_center.m2_feed.FeedNow.{FeedNow}
use Rattle.m2_script.specs.m2_center.m2_feed.declared.frame_heard.FrameHeard.TheVariants as heard
use Rattle.m2_script.specs.m2_center.m2_feed.declared.hearer.Hearer.{Hearer}
use Rattle.m2_script.specs.m2_center.m2_feed.declared.heard.Heard.{Heard}
use Rattle.m2_script.specs.m2_center.m2_feed.declared.heard.Heard.TheVariants as answer
use Rattle.m2_script.specs.m2_center.m2_feed.declared.wire_fault.WireFault.{WireFault}
use Rattle.m2_script.specs.m2_center.m2_feed.m2_control.declared.keepalive.Keepalive.{Keepalive}
use Rattle.m2_script.specs.m2_center.m2_feed.m2_journal.declared.facts.PlanStep.{PlanStep}
use Rattle.m2_script.specs.m2_center.m2_feed.m2_journal.declared.facts.PlanStep.TheVariants as step
use Rattle.m2_script.specs.m2_center.m2_feed.m2_session.declared.event.Event.TheVariants as event
use Rattle.m2_script.specs.m2_center.m2_turn.m2_handshake.m2_frame.Reading.{Item, whole}
use Rattle.m2_script.specs.m2_center.m2_turn.m2_handshake.Standing.{Standing}
use Rattle.m2_script.specs.m2_center.m2_turn.m2_handshake.declared.answer.HalfStep.{HalfStep}
use Rattle.m2_script.specs.m2_center.m2_turn.m2_handshake.declared.answer.HalfStep.TheVariants as half
use Rattle.m2_script.specs.m2_center.m2_record.Calls.{Breaks, ClosesFor, GoesDown, Shakes, fault_put}
use Rattle.m2_script.specs.m2_center.m2_record.Due.{due_step, next_step}
use Rattle.m2_script.specs.m2_center.m2_record.Framing.{AnswersFront, Frames, Greets, Heeds}
use Rattle.m2_script.specs.m2_center.m2_record.Reading.{CountsAnswer, EndsRead, fault_read}
use Rattle.m2_script.specs.m2_center.m2_record.RecordNow.{RecordNow}
use Rattle.m2_script.specs.m2_center.m2_record.Stepping.{HandsAs, PlansAs, StepsBy, Worked}
use Rattle.m2_script.specs.m2_center.m2_record.declared.due.Due.{Due}
use Rattle.m2_script.specs.m2_center.m2_record.declared.due.Due.TheVariants as due
use Rattle.m2_script.specs.m2_center.m2_record.declared.framing.Framed.{Framed}
use Rattle.m2_script.specs.m2_center.m2_record.declared.framing.Framed.TheVariants as framed
use Rattle.m2_script.specs.m2_center.m2_record.declared.stepped.Stepped.{Stepped}
use Rattle.m2_script.specs.m2_center.m2_record.declared.stepped.Stepped.TheVariants as stepped
use Rattle.m2_exact.proofs.InMemory as ends
use Rattle.m2_exact.proofs.Leaving as leaving
use Rattle.m2_exact.proofs.Signing as signing
use Rattle.m2_exact.proofs.Steps as steps
use Rattle.m2_exact.specs.Cores.{FeedIsInMemory, OnMemory}
use Rattle.m2_exact.specs.Records.{LikeRecordsStepAlike, Took}

-- ---- feeds

greeting_end : (a : HalfStep) (s : Standing) (composed : List ℕ) (v : FeedNow) → IsInMemory v.end → IsInMemory (after_greeting a s composed v).end
greeting_end half.Authed s composed v m = m
greeting_end half.NotYet s composed v m = m
greeting_end half.Wrote s composed v m = m
greeting_end (half.Fault f) s composed v m = m
greeting_end half.NoMemory s composed v m = m

greets : (a : HalfStep) (x y : Option FeedNow) → OnMemory x → GreetsFeed a x y → OnMemory y
greets a (Some v) (Some w) m g = subst (λ (z : FeedNow). IsInMemory z.end) (sym g.leaves) (greeting_end a g.after w.composed v m)
greets a (Some v) None m g = absurd g
greets a None y m g = absurd g

passes : (i : Item) (x y : Option FeedNow) → OnMemory x → PassesItem i x y → OnMemory y
passes i (Some v) (Some w) m g = subst (λ (z : FeedNow). IsInMemory z.end) (sym g.1) m
passes i (Some v) None m g = absurd g
passes i None y m g = absurd g

stamps : (h : Hearer) (k : Keepalive) (x y : Option FeedNow) → OnMemory x → StampsFeed h k x y → OnMemory y
stamps h k (Some v) (Some w) m g = subst (λ (z : FeedNow). IsInMemory z.end) (sym g.1.1) m
stamps h k (Some v) None m g = absurd g
stamps h k None y m g = absurd g

grants : (x : Option FeedNow) → OnMemory x → OnMemory (granted_feed x)
grants (Some v) m = m
grants None m = m

-- ---- what calls leave

on : (r new : RecordNow) (x : RecordNow) → new ≡ x → FeedIsInMemory x.core → FeedIsInMemory new.core
on r new x e m = subst (λ (z : RecordNow). FeedIsInMemory z.core) (sym e) m

breaks : (now : ℕ) (r new : RecordNow) → FeedIsInMemory r.core → Breaks now r new → FeedIsInMemory new.core
breaks now r new m h = on r new _ h (ends.told (Some (event.Faulted (is_waiting r.core.live))) r.core.live m)

goes_down : (planned : Bool) (r new : RecordNow) → FeedIsInMemory r.core → GoesDown planned r new → FeedIsInMemory new.core
goes_down planned r new m h = on r new _ h (ends.told (Some event.MarkedDown) r.core.live m)

plans : (x : Option PlanStep) (a : Result (Unit {0}) memory.NoMemory) (now : ℕ) (r new : RecordNow) → FeedIsInMemory r.core → PlansAs x a now r new → FeedIsInMemory new.core
plans (Some (step.Post p)) (Ok u) now r new m h = on r new _ h m
plans (Some (step.Post p)) (Err e) now r new m h = on r new _ h m
plans (Some step.Dial) (Ok u) now r new m h = on r new _ h m
plans (Some step.Dial) (Err e) now r new m h = absurd h
plans (Some step.Down) (Ok u) now r new m h = goes_down true r new m h
plans (Some step.Down) (Err e) now r new m h = absurd h
plans None a now r new m h = goes_down false r new m h.1

hands : (a : Stepped) (r new : RecordNow) → FeedIsInMemory r.core → HandsAs a r new → FeedIsInMemory new.core
hands (stepped.Hand x) r new m h = on r new _ h.1 m
hands a r new m h = absurd h

closes : (f : Option WireFault) (now : ℕ) (r new : RecordNow) → FeedIsInMemory r.core → ClosesFor f now r new → FeedIsInMemory new.core
closes (Some f) now r new m h = breaks now r new m h
closes None now r new m h = on r new _ h m

pub counts : (n : Option ℕ) (c new : CoreNow) → FeedIsInMemory c → CountsIf n c new → FeedIsInMemory new
counts (Some n) c new m h = subst FeedIsInMemory (sym h.only) m
counts None c new m h = subst FeedIsInMemory (sym h) m

counts_answer : (h : Option Heard) (r new : RecordNow) → FeedIsInMemory r.core → CountsAnswer h r new → FeedIsInMemory new.core
counts_answer (Some (answer.ReconnectOk seen)) r new m h = counts (to_count r.core.live) r.core new.core m h.0
counts_answer h r new m e = on r new _ e m

ends_read : (f : Option WireFault) (h : Option Heard) (now : ℕ) (r new : RecordNow) → FeedIsInMemory r.core → EndsRead f h now r new → FeedIsInMemory new.core
ends_read (Some f) h now r new m e = breaks now r new m e
ends_read None h now r new m e = counts_answer h r new m e

-- ---- the front

nexts : (t : Throttled) (a : CoreNext) (f : FrontHeard) (c new : CoreNow) → FeedIsInMemory c → IsNext t a f c new → FeedIsInMemory new
nexts t next.Rests rests c new m h = subst FeedIsInMemory (sym h) m
nexts t next.Granted (asks n) c new m h = subst FeedIsInMemory (sym h.only) (grants c.live.feed m)
nexts t (next.Full stage held) (asks n) c new m h = subst FeedIsInMemory (sym h.only) m
nexts t (next.Again stage seen now) (asks n) c new m h = subst FeedIsInMemory (sym h.only) m
nexts t next.Passed (tells heard.Nothing) c new m h = passes h.passes.item c.live.feed new.live.feed m h.passes.passes
nexts t next.Passed (tells (heard.Stamp k)) c new m h = stamps _ k c.live.feed new.live.feed m h.stamps
nexts t next.NoMemory (tells (heard.Stamp k)) c new m h = subst FeedIsInMemory (sym h) m
nexts t (next.Acked number) (tells (heard.Acknowledges n)) c new m h = subst FeedIsInMemory (sym h.1.only) m
nexts t (next.Accepted a) (tells (heard.Brings n)) c new m h = passes (whole h.1.moves.frame) c.live.feed new.live.feed m h.1.moves.passes
nexts t next.NoMemory (tells (heard.Brings n)) c new m h = subst FeedIsInMemory (sym h) m
nexts t (next.Resets full) (tells (heard.Resets mark)) c new m h = subst FeedIsInMemory (sym h.2) m
nexts t (next.Fault cause) (tells (heard.Fault why)) c new m h = subst FeedIsInMemory (sym h.1.only) (ends.told (Some (event.Faulted (is_waiting c.live))) c.live m)
nexts t a f c new m h = absurd h

at_front : (t : Throttled) (a : CoreNext) (c new : CoreNow) → FeedIsInMemory c → AnswersFront t a c new → FeedIsInMemory new
at_front t a c new m h = by c.live.feed h
  where
    by : (x : Option FeedNow) → OnFeedNow x (λ v. IsNext t a (heard_by c v.reading) c new) → FeedIsInMemory new
    by (Some v) h = nexts t a (heard_by c v.reading) c new m h
    by None h = absurd h

heeds : (t : Throttled) (f : Framed) (now : ℕ) (r new : RecordNow) → FeedIsInMemory r.core → Heeds t f now r new → FeedIsInMemory new.core
heeds t (framed.Half a) now r new m h = absurd h
heeds t framed.Passed now r new m h = at_front t next.Passed r.core new.core m h.0
heeds t framed.Granted now r new m h = at_front t next.Granted r.core new.core m h.0
heeds t (framed.Acked n) now r new m h = at_front t (next.Acked n) r.core new.core m h.0
heeds t (framed.Accepted n) now r new m (a, is, h, only) = at_front t (next.Accepted a) r.core new.core m h
heeds t (framed.Obeyed full) now r new m h = at_front t (next.Resets full) r.core new.core m h.0
heeds t (framed.Faulted cause) now r new m h = breaks now r new m h.1
heeds t (framed.Full stage out) now r new m h = at_front t (next.Full stage out) r.core new.core m h.0
heeds t (framed.Again stage seen at) now r new m h = at_front t (next.Again stage seen at) r.core new.core m h.0
heeds t framed.NoMemory now r new m h = on r new _ h.1 m

shakes : (a : HalfStep) (r new : RecordNow) → FeedIsInMemory r.core → Shakes a r new → FeedIsInMemory new.core
shakes a r new m h = greets a r.core.live.feed new.core.live.feed m h.0.greets

greets_now : (a : HalfStep) (now : ℕ) (r new : RecordNow) → FeedIsInMemory r.core → Greets a now r new → FeedIsInMemory new.core
greets_now half.NotYet now r new m h = shakes half.NotYet r new m h
greets_now half.Wrote now r new m h = shakes half.Wrote r new m h
greets_now half.Authed now r new m h = shakes half.Authed r new m h
greets_now half.NoMemory now r new m h = shakes half.NoMemory r new m h
greets_now (half.Fault e) now r new m (mid, h, only) = breaks now mid new (shakes (half.Fault e) r mid m h) only

frames : (t : Throttled) (f : Framed) (now : ℕ) (r new : RecordNow) → FeedIsInMemory r.core → Frames t f now r new → FeedIsInMemory new.core
frames t (framed.Half a) now r new m h = greets_now a now r new m h
frames t (framed.Obeyed full) now r new m (mid, h, (o, only)) =
    let first = heeds t (framed.Obeyed full) now r mid m h in
    subst (λ (l : LiveNow). OnMemory l.feed) (sym o.obeys.live) (ends.told (Some (event.GotReset full)) (live_with o.obeys.passed mid.core.live) (ends.passes_feed mid.core.live.feed o.obeys.passed first o.obeys.passes))
frames t framed.Passed now r new m h = heeds t framed.Passed now r new m h
frames t framed.Granted now r new m h = heeds t framed.Granted now r new m h
frames t (framed.Acked n) now r new m h = heeds t (framed.Acked n) now r new m h
frames t (framed.Accepted n) now r new m h = heeds t (framed.Accepted n) now r new m h
frames t (framed.Faulted cause) now r new m h = heeds t (framed.Faulted cause) now r new m h
frames t (framed.Full stage out) now r new m h = heeds t (framed.Full stage out) now r new m h
frames t (framed.Again stage seen at) now r new m h = heeds t (framed.Again stage seen at) now r new m h
frames t framed.NoMemory now r new m h = heeds t framed.NoMemory now r new m h

-- ---- a step

by_due : (d : Due) (w : Worked) (r new : RecordNow) → w.answer ≢ stepped.NoMemory → (d ≡ due.Compose → is_some (to_compose r.core) ≡ true) → FeedIsInMemory r.core → StepsBy d w r new → FeedIsInMemory new.core
by_due due.Nothing w r new k some m h = on r new _ h.only m
by_due due.Plan w r new k some m h = plans (next_step r) h.taken w.now r new m h.plans
by_due due.Hand w r new k some m h = hands w.answer r new m h.hands
by_due (due.Connect at) w r new k some m h = on r new _ h.only m
by_due due.Write w r new k some m h = closes (fault_put h.put) w.now h.writes.mid new (ends.written h.put r.core h.writes.mid.core m h.writes.once.core) h.writes.closes
by_due due.Frame w r new k some m h = frames w.bytes h.framed w.now r new m h.frames
by_due due.Read w r new k some m h = ends_read (fault_read h.read) h.read.heard w.now h.reads.mid new (ends.has_read _ r.core h.reads.mid.core m h.reads.once.core) h.reads.ends
by_due due.Compose w r new k some m h = leaving.stays_in_memory r.core.live.feed new.core.live.feed (leaving.composed_so w r new k (some refl) h) m

stays : (w : Worked) (r new : RecordNow) → FeedIsInMemory r.core → Took w r new → FeedIsInMemory new.core
stays w r new m h =
    let (mid, room, step) = steps.takes w.answer w r new h.memory h.steps in
    by_due (due_step w.now mid) w mid new h.memory (steps.compose_is_due w.now mid) (on r mid _ room m) step

pub alike : LikeRecordsStepAlike
alike = record { steps = steps.steps; stays = stays; signed = signing.stays }
