-- What was asked on a feed was asked behind its signing: so it stays in each step.
use Rattle.std.proofs.Common.{◌≡◌, ◌&&◌, ℕ, if◌then◌else◌, List, Bool, true, false, Option, None, Some, Result, Ok, Err, refl, sym, subst, ◌∙◌, ap}
use Rattle.std.specs.Prelude.{◌≢◌}
use Rattle.std.specs.Option.{is_some}
use Rattle.m2_fabric.specs.m2_bytes.declared.memory.NoMemory as memory
use Rattle.m2_script.proofs.m2_center.m2_turn.m2_core.Judged.{IsQuiet}
use Rattle.m2_script.proofs.m2_center.m2_turn.m2_session.Events.{fault_closes}
use Rattle.m2_script.specs.m2_center.m2_core.CoreNow.{CoreNow, IsAskedIfSigned}
use Rattle.m2_script.specs.m2_center.m2_core.Counting.{CountsIf, to_count}
use Rattle.m2_script.specs.m2_center.m2_core.Effects.{closes, discards, has_effects, requeues, sets_back, tells, where_true}
use Rattle.m2_script.specs.m2_center.m2_core.Front as front
use Rattle.m2_script.specs.m2_center.m2_core.Front.{FrontHeard, heard_by}
use Rattle.m2_script.specs.m2_center.m2_core.Granting.{Throttled}
use Rattle.m2_script.specs.m2_center.m2_core.LiveNow.{LiveNow, OnFeedNow, is_waiting}
use Rattle.m2_script.specs.m2_center.m2_core.Hearing as hearing
use Rattle.m2_script.specs.m2_center.m2_core.LiveCalls.{after_fault, live_with, tells_if}
use Rattle.m2_script.specs.m2_center.m2_core.LiveHearing.{after_answer, resumed_by_answer}
use Rattle.m2_script.specs.m2_center.m2_core.Next.{IsNext}
use Rattle.m2_script.specs.m2_center.m2_core.OnFeed.{GreetsFeed, PassesFeed, PassesItem, ReadsFeed, WritesFeed, granted_feed}
use Rattle.m2_script.specs.m2_center.m2_core.Passing.{StampsFeed}
use Rattle.m2_script.specs.m2_center.m2_core.ToCompose.{text_on, text_rows, to_compose}
use Rattle.m2_script.specs.m2_center.m2_core.declared.next.CoreNext.{CoreNext}
use Rattle.m2_script.specs.m2_center.m2_core.declared.next.CoreNext.TheVariants as next
use Rattle.m2_script.specs.m2_center.m2_core.declared.to_compose.CoreText.{CoreText}
use Rattle.m2_fabric.specs.declared.end.EndRead.{EndRead}
use Rattle.m2_fabric.specs.declared.end.EndRead.TheVariants as read
use Rattle.m2_script.specs.m2_center.m2_feed.Calls.{IsFront, ReadsPiece, heard_of, is_empty, passed, with_grant}
use Rattle.m2_script.specs.m2_center.m2_feed.declared.answers.FeedWrite.{FeedWrite}
use Rattle.m2_script.specs.m2_center.m2_feed.declared.answers.FeedWrite.TheVariants as put
use Rattle.m2_script.specs.m2_center.m2_feed.Heard.{event_of}
use Rattle.m2_script.specs.m2_center.m2_feed.FeedNow.{FeedNow, Reading, framing, is_framing, shaking}
use Rattle.m2_script.specs.m2_center.m2_feed.declared.frame_heard.FrameHeard.TheVariants as heard
use Rattle.m2_script.specs.m2_center.m2_feed.declared.hearer.Hearer.{Hearer}
use Rattle.m2_script.specs.m2_center.m2_feed.declared.heard.Heard.{Heard}
use Rattle.m2_script.specs.m2_center.m2_feed.declared.heard.Heard.TheVariants as answer
use Rattle.m2_script.specs.m2_center.m2_feed.declared.wire_fault.WireFault.{WireFault}
use Rattle.m2_script.specs.m2_center.m2_feed.m2_control.declared.keepalive.Keepalive.{Keepalive}
use Rattle.m2_script.specs.m2_center.m2_feed.m2_journal.declared.facts.PlanStep.{PlanStep}
use Rattle.m2_script.specs.m2_center.m2_feed.m2_journal.declared.facts.PlanStep.TheVariants as step
use Rattle.m2_script.specs.m2_center.m2_feed.m2_session.Steps as session
use Rattle.m2_script.specs.m2_center.m2_feed.m2_session.Steps.{step_of}
use Rattle.m2_script.specs.m2_center.m2_feed.m2_session.Table.{first_that_holds}
use Rattle.m2_script.specs.m2_center.m2_feed.m2_session.declared.event.Effects.{Effects}
use Rattle.m2_script.specs.m2_center.m2_feed.m2_session.declared.event.Event.{Event}
use Rattle.m2_script.specs.m2_center.m2_feed.m2_session.declared.event.Event.TheVariants as event
use Rattle.m2_script.specs.m2_center.m2_feed.m2_session.declared.session.Phase.{Phase}
use Rattle.m2_script.specs.m2_center.m2_turn.m2_handshake.m2_frame.Reading.{Item, whole}
use Rattle.m2_script.specs.m2_center.m2_turn.m2_handshake.declared.answer.HalfStep.{HalfStep}
use Rattle.m2_script.specs.m2_center.m2_turn.m2_handshake.declared.answer.HalfStep.TheVariants as half
use Rattle.m2_script.specs.m2_center.m2_record.Calls.{Breaks, ClosesFor, GoesDown, Shakes, fault_put}
use Rattle.m2_script.specs.m2_center.m2_record.Due.{due_step, next_step}
use Rattle.m2_script.specs.m2_center.m2_record.Framing.{AnswersFront, Frames, Greets, Heeds}
use Rattle.m2_script.specs.m2_center.m2_record.Reading.{CountsAnswer, EndsRead, fault_read}
use Rattle.m2_script.specs.m2_center.m2_record.RecordNow.{RecordNow}
use Rattle.m2_script.specs.m2_center.m2_record.Stepping.{HandsAs, PlansAs, StepsBy, Worked}
use Rattle.m2_script.specs.m2_center.m2_record.declared.due.Due.{Due}
use Rattle.m2_script.specs.m2_center.m2_record.declared.due.Due.TheVariants as due
use Rattle.m2_script.specs.m2_center.m2_record.declared.framing.Framed.{Framed}
use Rattle.m2_script.specs.m2_center.m2_record.declared.framing.Framed.TheVariants as framed
use Rattle.m2_script.specs.m2_center.m2_record.declared.stepped.Stepped.{Stepped}
use Rattle.m2_script.specs.m2_center.m2_record.declared.stepped.Stepped.TheVariants as stepped
use Rattle.m2_exact.proofs.Leaving as leaving
use Rattle.m2_exact.proofs.Steps as steps
use Rattle.m2_exact.specs.Records.{Took}

-- ---- words

-- both sides have signed on the feed, where there is one
abbrev HasSigned : Option FeedNow → Type 0
HasSigned (Some v) = is_framing v.reading ≡ true
HasSigned None = Unit {0}

abbrev IsAsked : LiveNow → Type 0
IsAsked l = IsAskedIfSigned l.session.phase l.feed

signed : (p : Phase) (x : Option FeedNow) → HasSigned x → IsAskedIfSigned p x
signed p (Some v) h = λ e. absurd (cc (h, e))
signed p None h = tt

signed_live : (l : LiveNow) → HasSigned l.feed → IsAsked l
signed_live l h = signed l.session.phase l.feed h

-- where nothing but what is read has moved on, as far as both have signed there still
moved : (p : Phase) (v w : FeedNow) → (is_framing w.reading ≡ false → is_framing v.reading ≡ false) → IsAskedIfSigned p (Some v) → IsAskedIfSigned p (Some w)
moved p v w back h = λ e. h (back e)

-- ---- a step of the session

where_fed : (b : Bool) (change : LiveNow → LiveNow) (l : LiveNow) → (change l).feed ≡ l.feed → (where_true b change l).feed ≡ l.feed
where_fed true change l e = e
where_fed false change l e = refl

-- a step leaves the feed, or closes it
told_feed : (e : Event) (l : LiveNow) → (tells e l).feed ≡ (where_true (step_of l.session e).effects.close closes l).feed
told_feed e l = by (step_of l.session e).effects (record l { session = (step_of l.session e).session }) ∙ end (step_of l.session e).effects.close
  where
    by : (f : Effects) (k : LiveNow) → (has_effects f k).feed ≡ (where_true f.close closes k).feed
    by f k =
        let closed = where_true f.close closes k in
        let requeued = where_true f.requeue requeues closed in
        let back = where_true f.set_back sets_back requeued in
        where_fed f.discard discards back refl ∙ where_fed f.set_back sets_back requeued refl ∙ where_fed f.requeue requeues closed refl

    end : (b : Bool) → (where_true b closes (record l { session = (step_of l.session e).session })).feed ≡ (where_true b closes l).feed
    end true = refl
    end false = refl

closed : (e : Event) (l : LiveNow) → (step_of l.session e).effects.close ≡ true → (tells e l).feed ≡ None
closed e l is = told_feed e l ∙ ap (λ (b : Bool). (where_true b closes l).feed) is

told_signed : (e : Option Event) (l : LiveNow) → HasSigned l.feed → HasSigned (tells_if e l).feed
told_signed None l h = h
told_signed (Some e) l h = subst HasSigned (sym (told_feed e l)) (by (step_of l.session e).effects.close)
  where
    by : (b : Bool) → HasSigned (where_true b closes l).feed
    by true = tt
    by false = h

-- ---- what calls leave

on : (r new : RecordNow) (x : RecordNow) → new ≡ x → IsAsked x.core.live → IsAsked new.core.live
on r new x e m = subst (λ (z : RecordNow). IsAsked z.core.live) (sym e) m

none : (l : LiveNow) → l.feed ≡ None → IsAsked l
none l e = signed_live l (subst HasSigned (sym e) tt)

-- an answer that takes no socket leaves the feed, or closes it
pub told_quietly : (e : Option Event) (l : LiveNow) → IsQuiet e → IsAsked l → IsAsked (tells_if e l)
told_quietly None l q m = m
told_quietly (Some event.Pending) l q m = none (tells event.Pending l) (closed event.Pending l refl)
told_quietly (Some e) l q m = absurd q

breaks : (now : ℕ) (r new : RecordNow) → Breaks now r new → IsAsked new.core.live
breaks now r new h = on r new _ h (none (after_fault r.core.live) (closed (event.Faulted (is_waiting r.core.live)) r.core.live (fault_closes r.core.live.session (is_waiting r.core.live))))

goes_down : (planned : Bool) (r new : RecordNow) → GoesDown planned r new → IsAsked new.core.live
goes_down planned r new h = on r new _ h (none (tells event.MarkedDown r.core.live) (closed event.MarkedDown r.core.live refl))

pub plans : (x : Option PlanStep) (a : Result (Unit {0}) memory.NoMemory) (now : ℕ) (r new : RecordNow) → IsAsked r.core.live → PlansAs x a now r new → IsAsked new.core.live
plans (Some (step.Post p)) (Ok u) now r new m h = on r new _ h m
plans (Some (step.Post p)) (Err e) now r new m h = on r new _ h m
plans (Some step.Dial) (Ok u) now r new m h = on r new _ h m
plans (Some step.Dial) (Err e) now r new m h = absurd h
plans (Some step.Down) (Ok u) now r new m h = goes_down true r new h
plans (Some step.Down) (Err e) now r new m h = absurd h
plans None a now r new m h = goes_down false r new h.1

hands : (a : Stepped) (r new : RecordNow) → IsAsked r.core.live → HandsAs a r new → IsAsked new.core.live
hands (stepped.Hand x) r new m h = on r new _ h.1 m
hands a r new m h = absurd h

closes_for : (f : Option WireFault) (now : ℕ) (r new : RecordNow) → IsAsked r.core.live → ClosesFor f now r new → IsAsked new.core.live
closes_for (Some f) now r new m h = breaks now r new h
closes_for None now r new m h = on r new _ h m

pub counts : (n : Option ℕ) (c new : CoreNow) → IsAsked c.live → CountsIf n c new → IsAsked new.live
counts (Some n) c new m h = subst (λ (z : CoreNow). IsAsked z.live) (sym h.only) m
counts None c new m h = subst (λ (z : CoreNow). IsAsked z.live) (sym h) m

counts_answer : (h : Option Heard) (r new : RecordNow) → IsAsked r.core.live → CountsAnswer h r new → IsAsked new.core.live
counts_answer (Some (answer.ReconnectOk seen)) r new m h = counts (to_count r.core.live) r.core new.core m h.0
counts_answer h r new m e = on r new _ e m

ends_read : (f : Option WireFault) (h : Option Heard) (now : ℕ) (r new : RecordNow) → IsAsked r.core.live → EndsRead f h now r new → IsAsked new.core.live
ends_read (Some f) h now r new m e = breaks now r new e
ends_read None h now r new m e = counts_answer h r new m e

-- ---- bytes

written : (p : Phase) (a : FeedWrite) (x y : Option FeedNow) → IsAskedIfSigned p x → WritesFeed a x y → IsAskedIfSigned p y
written p (put.Put n b) (Some v) (Some w) m h = moved p v w (λ e. sym (ap (λ (z : FeedNow). is_framing z.reading) h.2) ∙ e) m
written p put.NotYet (Some v) (Some w) m h = moved p v w (λ e. sym (ap (λ (z : FeedNow). is_framing z.reading) h.1) ∙ e) m
written p put.Failed (Some v) (Some w) m h = moved p v w (λ e. sym (ap (λ (z : FeedNow). is_framing z.reading) h.1) ∙ e) m
written p put.NoMemory (Some v) (Some w) m h = moved p v w (λ e. sym (ap (λ (z : FeedNow). is_framing z.reading) h) ∙ e) m
written p a (Some v) None m h = absurd h
written p a None y m h = absurd h

heard_framing : (a : EndRead) (piece : List ℕ) (r : Reading) → is_framing (heard_of a piece r) ≡ is_framing r
heard_framing (read.Got n) piece (shaking s) = refl
heard_framing (read.Got n) piece (framing rest granted) = refl
heard_framing read.NotYet piece r = refl
heard_framing read.Ended piece r = refl
heard_framing read.Failed piece r = refl
heard_framing read.NoMemory piece r = refl

read_piece : (p : Phase) (a : EndRead) (v w : FeedNow) → IsAskedIfSigned p (Some v) → ReadsPiece a v w → IsAskedIfSigned p (Some w)
read_piece p a v w m h = moved p v w (λ e. sym (heard_framing a h.hears.piece v.reading) ∙ sym (ap is_framing h.hears.heard) ∙ e) m

read_feed : (p : Phase) (a : EndRead) (x y : Option FeedNow) → IsAskedIfSigned p x → ReadsFeed a x y → IsAskedIfSigned p y
read_feed p (read.Got n) (Some v) (Some w) m h = read_piece p (read.Got n) v w m h
read_feed p read.NotYet (Some v) (Some w) m h = read_piece p read.NotYet v w m h
read_feed p read.Ended (Some v) (Some w) m h = read_piece p read.Ended v w m h
read_feed p read.Failed (Some v) (Some w) m h = read_piece p read.Failed v w m h
read_feed p read.NoMemory (Some v) (Some w) m h = moved p v w (λ e. sym (ap (λ (z : FeedNow). is_framing z.reading) h) ∙ e) m
read_feed p a (Some v) None m h = absurd h
read_feed p a None y m h = absurd h

passed_signed : (len : ℕ) (i : Item) (r s : Reading) → IsFront r i len → s ≡ passed len r → is_framing s ≡ true
passed_signed len i (framing rest granted) s f e = ap is_framing e
passed_signed len i (shaking h) s f e = absurd f

passes_feed : (x y : Option FeedNow) → PassesFeed x y → HasSigned y
passes_feed (Some v) (Some w) ((f, (len, front, is)), only) = passed_signed len (whole f) v.reading w.reading front is
passes_feed (Some v) None h = absurd h
passes_feed None y h = absurd h

passes_item : (i : Item) (x y : Option FeedNow) → PassesItem i x y → HasSigned y
passes_item i (Some v) (Some w) (p, only) = passed_signed p.passes.0 p.other v.reading w.reading p.passes.1 p.passes.2
passes_item i (Some v) None h = absurd h
passes_item i None y h = absurd h

stamps : (h : Hearer) (k : Keepalive) (x y : Option FeedNow) → StampsFeed h k x y → HasSigned y
stamps h k (Some v) (Some w) (says, ((f, (len, front, is)), only)) = passed_signed len (whole f) v.reading w.reading front is
stamps h k (Some v) None g = absurd g
stamps h k None y g = absurd g

heeded : (h : Option Heard) (old new : LiveNow) → IsAsked old → hearing.Heeds h old new → IsAsked new
heeded None old new m h = subst IsAsked (sym h) m
heeded (Some (answer.Reset full)) old new m h = subst IsAsked (sym h) m
heeded (Some (answer.Refused e)) old new m h = subst IsAsked (sym h) m
heeded (Some h) old new m t =
    subst IsAsked (sym t.live) (signed_live (after_answer h t.passed old) (told_signed (event_of h) (record old { feed = t.passed; resumed = resumed_by_answer h old.resumed }) (passes_feed old.feed t.passed t.passes)))

-- ---- the front

greets : (a : HalfStep) (p : Phase) (x y : Option FeedNow) → IsAskedIfSigned p x → GreetsFeed a x y → IsAskedIfSigned p y
greets a p (Some v) (Some w) m g = moved p v w (λ e. ap is_framing g.stood) m
greets a p (Some v) None m g = absurd g
greets a p None y m g = absurd g

grants : (p : Phase) (x : Option FeedNow) → IsAskedIfSigned p x → IsAskedIfSigned p (granted_feed x)
grants p (Some v) m = moved p v (record v { reading = with_grant v.reading }) (by v.reading) m
  where
    by : (r : Reading) → is_framing (with_grant r) ≡ false → is_framing r ≡ false
    by (shaking s) e = e
    by (framing rest granted) e = absurd (cc e)
grants p None m = m

same_live : (c new : CoreNow) → new ≡ c → IsAsked c.live → IsAsked new.live
same_live c new e m = subst (λ (z : CoreNow). IsAsked z.live) (sym e) m

nexts : (t : Throttled) (a : CoreNext) (f : FrontHeard) (c new : CoreNow) → IsAsked c.live → IsNext t a f c new → IsAsked new.live
nexts t next.Rests front.rests c new m h = same_live c new h m
nexts t next.Granted (front.asks n) c new m h = subst (λ (z : CoreNow). IsAsked z.live) (sym h.only) (grants c.live.session.phase c.live.feed m)
nexts t (next.Full stage held) (front.asks n) c new m h = subst (λ (x : CoreNow). IsAsked x.live) (sym h.only) m
nexts t (next.Again stage seen now) (front.asks n) c new m h = subst (λ (x : CoreNow). IsAsked x.live) (sym h.only) m
nexts t next.Passed (front.tells heard.Nothing) c new m h = signed new.live.session.phase new.live.feed (passes_item h.passes.item c.live.feed new.live.feed h.passes.passes)
nexts t next.Passed (front.tells (heard.Stamp k)) c new m h = signed new.live.session.phase new.live.feed (stamps _ k c.live.feed new.live.feed h.stamps)
nexts t next.NoMemory (front.tells (heard.Stamp k)) c new m h = same_live c new h m
nexts t (next.Acked number) (front.tells (heard.Acknowledges n)) c new m h = subst (λ (z : CoreNow). IsAsked z.live) (sym h.1.only) m
nexts t (next.Accepted a) (front.tells (heard.Brings n)) c new m h = signed new.live.session.phase new.live.feed (passes_item (whole h.1.moves.frame) c.live.feed new.live.feed h.1.moves.passes)
nexts t next.NoMemory (front.tells (heard.Brings n)) c new m h = same_live c new h m
nexts t (next.Resets full) (front.tells (heard.Resets mark)) c new m h = same_live c new h.2 m
nexts t (next.Fault cause) (front.tells (heard.Fault why)) c new m h =
    subst (λ (z : CoreNow). IsAsked z.live) (sym h.1.only) (none (after_fault c.live) (closed (event.Faulted (is_waiting c.live)) c.live (fault_closes c.live.session (is_waiting c.live))))
nexts t a f c new m h = absurd h

at_front : (t : Throttled) (a : CoreNext) (c new : CoreNow) → IsAsked c.live → AnswersFront t a c new → IsAsked new.live
at_front t a c new m h = by c.live.feed h
  where
    by : (x : Option FeedNow) → OnFeedNow x (λ v. IsNext t a (heard_by c v.reading) c new) → IsAsked new.live
    by (Some v) h = nexts t a (heard_by c v.reading) c new m h
    by None h = absurd h

heeds : (t : Throttled) (f : Framed) (now : ℕ) (r new : RecordNow) → IsAsked r.core.live → Heeds t f now r new → IsAsked new.core.live
heeds t (framed.Half a) now r new m h = absurd h
heeds t framed.Passed now r new m h = at_front t next.Passed r.core new.core m h.0
heeds t framed.Granted now r new m h = at_front t next.Granted r.core new.core m h.0
heeds t (framed.Acked n) now r new m h = at_front t (next.Acked n) r.core new.core m h.0
heeds t (framed.Accepted n) now r new m (a, is, h, only) = at_front t (next.Accepted a) r.core new.core m h
heeds t (framed.Obeyed full) now r new m h = at_front t (next.Resets full) r.core new.core m h.0
heeds t (framed.Faulted cause) now r new m h = breaks now r new h.1
heeds t (framed.Full stage out) now r new m h = at_front t (next.Full stage out) r.core new.core m h.0
heeds t (framed.Again stage seen at) now r new m h = at_front t (next.Again stage seen at) r.core new.core m h.0
heeds t framed.NoMemory now r new m h = on r new _ h.1 m

shakes : (a : HalfStep) (r new : RecordNow) → IsAsked r.core.live → Shakes a r new → IsAsked new.core.live
shakes a r new m h = subst (λ (z : CoreNow). IsAsked z.live) (sym h.0.only) (greets a r.core.live.session.phase r.core.live.feed new.core.live.feed m h.0.greets)

greets_now : (a : HalfStep) (now : ℕ) (r new : RecordNow) → IsAsked r.core.live → Greets a now r new → IsAsked new.core.live
greets_now half.NotYet now r new m h = shakes half.NotYet r new m h
greets_now half.Wrote now r new m h = shakes half.Wrote r new m h
greets_now half.Authed now r new m h = shakes half.Authed r new m h
greets_now half.NoMemory now r new m h = shakes half.NoMemory r new m h
greets_now (half.Fault e) now r new m (mid, h, only) = breaks now mid new only

frames : (t : Throttled) (f : Framed) (now : ℕ) (r new : RecordNow) → IsAsked r.core.live → Frames t f now r new → IsAsked new.core.live
frames t (framed.Half a) now r new m h = greets_now a now r new m h
frames t (framed.Obeyed full) now r new m (mid, h, (o, only)) =
    subst IsAsked (sym o.obeys.live) (signed_live (tells (event.GotReset full) (live_with o.obeys.passed mid.core.live)) (told_signed (Some (event.GotReset full)) (live_with o.obeys.passed mid.core.live) (passes_feed mid.core.live.feed o.obeys.passed o.obeys.passes)))
frames t framed.Passed now r new m h = heeds t framed.Passed now r new m h
frames t framed.Granted now r new m h = heeds t framed.Granted now r new m h
frames t (framed.Acked n) now r new m h = heeds t (framed.Acked n) now r new m h
frames t (framed.Accepted n) now r new m h = heeds t (framed.Accepted n) now r new m h
frames t (framed.Faulted cause) now r new m h = heeds t (framed.Faulted cause) now r new m h
frames t (framed.Full stage out) now r new m h = heeds t (framed.Full stage out) now r new m h
frames t (framed.Again stage seen at) now r new m h = heeds t (framed.Again stage seen at) now r new m h
frames t framed.NoMemory now r new m h = heeds t framed.NoMemory now r new m h

-- ---- what is composed

signed_still : (x y : Option FeedNow) → leaving.IsLeft x y → HasSigned x → HasSigned y
signed_still (Some v) (Some w) h m = ap is_framing h.1 ∙ m
signed_still (Some v) None h m = absurd h
signed_still None y h m = absurd h

-- a text is composed only where both sides have signed
text_signed : (c : CoreNow) → is_some (to_compose c) ≡ true → HasSigned c.live.feed
text_signed c h = by c.live.feed h
  where
    first : (a b : Bool) (o : Option CoreText) → is_some (if a && b then o else None) ≡ true → a ≡ true
    first true b o h = refl
    first false b o h = absurd (cc h)

    by : (x : Option FeedNow) → is_some (text_on x c) ≡ true → HasSigned x
    by (Some v) h = first (is_framing v.reading) (is_empty v.composed) (first_that_holds (text_rows v c) None) h
    by None h = tt

-- ---- a step

by_due : (d : Due) (w : Worked) (r new : RecordNow) → w.answer ≢ stepped.NoMemory → (d ≡ due.Compose → is_some (to_compose r.core) ≡ true) → IsAsked r.core.live → StepsBy d w r new → IsAsked new.core.live
by_due due.Nothing w r new k some m h = on r new _ h.only m
by_due due.Plan w r new k some m h = plans (next_step r) h.taken w.now r new m h.plans
by_due due.Hand w r new k some m h = hands w.answer r new m h.hands
by_due (due.Connect at) w r new k some m h = on r new _ h.only m
by_due due.Write w r new k some m h =
    closes_for (fault_put h.put) w.now h.writes.mid new
    (subst (λ (z : CoreNow). IsAsked z.live) (sym h.writes.once.core.only) (written r.core.live.session.phase h.put r.core.live.feed h.writes.mid.core.live.feed m h.writes.once.core.writes)) h.writes.closes
by_due due.Frame w r new k some m h = frames w.bytes h.framed w.now r new m h.frames
by_due due.Read w r new k some m h =
    let once = h.reads.once.core in
    ends_read (fault_read h.read) h.read.heard w.now h.reads.mid new
    (heeded h.read.heard (live_with once.feed r.core.live) h.reads.mid.core.live (read_feed r.core.live.session.phase h.read.answer r.core.live.feed once.feed m once.reads) once.heeds) h.reads.ends
by_due due.Compose w r new k some m h =
    signed new.core.live.session.phase new.core.live.feed (signed_still r.core.live.feed new.core.live.feed (leaving.composed_so w r new k (some refl) h) (text_signed r.core (some refl)))

pub stays : (w : Worked) (r new : RecordNow) → IsAskedIfSigned r.core.live.session.phase r.core.live.feed → Took w r new → IsAskedIfSigned new.core.live.session.phase new.core.live.feed
stays w r new m h =
    let (mid, room, step) = steps.takes w.answer w r new h.memory h.steps in
    by_due (due_step w.now mid) w mid new h.memory (steps.compose_is_due w.now mid) (on r mid _ room m) step
