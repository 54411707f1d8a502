-- What is read and written over ends in memory stays over ends in memory.
use Rattle.std.proofs.Common.{◌≡◌, ℕ, Bool, true, false, List, Option, None, Some, refl, sym, subst, ap}
use Rattle.std.specs.Prelude.{IsSome}
use Rattle.std.specs.Option.{option_map}
use Rattle.m2_fabric.specs.End.{Inflow, Reads, SeenEnd, Writes, unread}
use Rattle.m2_fabric.specs.Kinds.{IsInMemory}
use Rattle.m2_fabric.specs.declared.end.EndRead.{EndRead}
use Rattle.m2_fabric.specs.declared.end.EndRead.TheVariants as read
use Rattle.m2_fabric.specs.declared.end.EndWrite.{EndWrite}
use Rattle.m2_fabric.specs.declared.end.EndWrite.TheVariants as write
use Rattle.m2_script.specs.m2_center.m2_feed.Calls.{ReadsOn, WritesOn}
use Rattle.m2_script.specs.m2_center.m2_feed.FeedNow.{FeedNow}
use Rattle.m2_script.specs.m2_center.m2_feed.Heard.{event_of}
use Rattle.m2_script.specs.m2_center.m2_feed.declared.answers.FeedWrite.{FeedWrite}
use Rattle.m2_script.specs.m2_center.m2_feed.declared.answers.FeedWrite.TheVariants as put
use Rattle.m2_script.specs.m2_center.m2_feed.declared.heard.Heard.{Heard}
use Rattle.m2_script.specs.m2_center.m2_feed.declared.heard.Heard.TheVariants as heard
use Rattle.m2_script.specs.m2_center.m2_feed.m2_session.Steps.{step_of}
use Rattle.m2_script.specs.m2_center.m2_feed.m2_session.declared.event.Effects.{Effects}
use Rattle.m2_script.specs.m2_center.m2_feed.m2_session.declared.event.Event.{Event}
use Rattle.m2_trail.specs.Incoming.{IncomingNow, StepsOn}
use Rattle.m2_trail.specs.TurnMoves.{Makes, Move, answers, reads, writes}
use Rattle.m2_trail.specs.declared.step.IncomingStep.{IncomingStep}
use Rattle.m2_trail.specs.declared.step.IncomingStep.TheVariants as step
use Rattle.m2_script.specs.m2_center.m2_core.CoreNow.{CoreNow}
use Rattle.m2_script.specs.m2_center.m2_core.Effects.{closes, discards, has_effects, requeues, sets_back, where_true}
use Rattle.m2_script.specs.m2_center.m2_core.Hearing.{HasRead, Heeds, ReadNow}
use Rattle.m2_script.specs.m2_center.m2_core.LiveCalls.{live_with, tells_if}
use Rattle.m2_script.specs.m2_center.m2_core.LiveHearing.{TakesAnswer, resumed_by_answer}
use Rattle.m2_script.specs.m2_center.m2_core.LiveNow.{LiveNow}
use Rattle.m2_script.specs.m2_center.m2_core.Moves.{HasWritten}
use Rattle.m2_script.specs.m2_center.m2_core.OnFeed.{PassesFeed, ReadsFeed, WritesFeed}
use Rattle.m2_exact.specs.Cores.{FeedIsInMemory, OnMemory}

-- ---- ends

unread_there : (n : ℕ) (o : Option Inflow) → IsSome o → IsSome (option_map (unread n) o)
unread_there n (Some i) h = refl
unread_there n None h = absurd (cc h)

read_end : (answer : EndRead) (piece : List ℕ) (e new : SeenEnd) → IsInMemory e → Reads answer piece e new → IsInMemory new
read_end (read.Got n) piece e new m r = subst IsInMemory (sym r.2) (unread_there n e.inflow m)
read_end read.NotYet piece e new m r = subst IsInMemory (sym r.1) m
read_end read.Ended piece e new m r = subst IsInMemory (sym r.1) m
read_end read.Failed piece e new m r = subst IsInMemory (sym r.1) m
read_end read.NoMemory piece e new m r = subst IsInMemory (sym r) m

written_end : (answer : EndWrite) (piece : List ℕ) (e new : SeenEnd) → IsInMemory e → Writes answer piece e new → IsInMemory new
written_end (write.Put n) piece e new m w = subst IsInMemory (sym w.2) m
written_end write.NotYet piece e new m w = subst IsInMemory (sym w.1) m
written_end write.Failed piece e new m w = subst IsInMemory (sym w.1) m
written_end write.NoMemory piece e new m w = subst IsInMemory (sym w) m

-- ---- halves

-- an answer changes neither the end nor the room
pub step_leaves : (a : IncomingStep) (v new : IncomingNow) → StepsOn a v new → (new.end ≡ v.end) × (new.room ≡ v.room)
step_leaves step.Wrote v new (can, h, only) = (ap (λ (x : IncomingNow). x.end) only, ap (λ (x : IncomingNow). x.room) only)
step_leaves step.Signed v new (can, h, only) = (ap (λ (x : IncomingNow). x.end) only, ap (λ (x : IncomingNow). x.room) only)
step_leaves step.Rests v new (h, only) = (ap (λ (x : IncomingNow). x.end) only, ap (λ (x : IncomingNow). x.room) only)
step_leaves step.Asked v new (ask, can, h, only) = (ap (λ (x : IncomingNow). x.end) only, ap (λ (x : IncomingNow). x.room) only)
step_leaves (step.Fault f) v new (h, only) = (ap (λ (x : IncomingNow). x.end) only, ap (λ (x : IncomingNow). x.room) only)
step_leaves step.NoMemory v new (h, only) = (ap (λ (x : IncomingNow). x.end) only, ap (λ (x : IncomingNow). x.room) only)

pub moved : (move : Move) (v new : IncomingNow) → IsInMemory v.end → Makes move v new → IsInMemory new.end
moved (writes a) v new m (some, h) = written_end a v.left v.end new.end m h.0
moved (answers a) v new m (none, busy, h) = subst IsInMemory (sym (step_leaves a v new h).0) m
moved (reads a piece) v new m (none, rests, h) = read_end a piece v.end new.end m h.0

-- ---- feeds

read_feed : (answer : EndRead) (v new : FeedNow) → IsInMemory v.end → ReadsOn answer v new → IsInMemory new.end
read_feed (read.Got n) v new m r = read_end (read.Got n) r.hears.piece v.end new.end m r.hears.reads
read_feed read.NotYet v new m r = read_end read.NotYet r.hears.piece v.end new.end m r.hears.reads
read_feed read.Ended v new m r = read_end read.Ended r.hears.piece v.end new.end m r.hears.reads
read_feed read.Failed v new m r = read_end read.Failed r.hears.piece v.end new.end m r.hears.reads
read_feed read.NoMemory v new m r = subst (λ (x : FeedNow). IsInMemory x.end) (sym r) m

written_feed : (answer : FeedWrite) (v new : FeedNow) → IsInMemory v.end → WritesOn answer v new → IsInMemory new.end
written_feed (put.Put n acknowledged) v new m (w, owes, only) = written_end (write.Put n) v.composed v.end new.end m w
written_feed put.NotYet v new m (w, only) = written_end write.NotYet v.composed v.end new.end m w
written_feed put.Failed v new m (w, only) = written_end write.Failed v.composed v.end new.end m w
written_feed put.NoMemory v new m w = subst (λ (x : FeedNow). IsInMemory x.end) (sym w) m

reads_feed : (answer : EndRead) (x y : Option FeedNow) → OnMemory x → ReadsFeed answer x y → OnMemory y
reads_feed answer (Some v) (Some w) m r = read_feed answer v w m r
reads_feed answer (Some v) None m r = absurd r
reads_feed answer None y m r = absurd r

writes_feed : (answer : FeedWrite) (x y : Option FeedNow) → OnMemory x → WritesFeed answer x y → OnMemory y
writes_feed answer (Some v) (Some w) m r = written_feed answer v w m r
writes_feed answer (Some v) None m r = absurd r
writes_feed answer None y m r = absurd r

pub passes_feed : (x y : Option FeedNow) → OnMemory x → PassesFeed x y → OnMemory y
passes_feed (Some v) (Some w) m (h, only) = subst (λ (z : FeedNow). IsInMemory z.end) (sym only) m
passes_feed (Some v) None m h = absurd h
passes_feed None y m h = absurd h

-- ---- cores

pub written : (answer : FeedWrite) (c new : CoreNow) → FeedIsInMemory c → HasWritten answer c new → FeedIsInMemory new
written answer c new m h = writes_feed answer c.live.feed new.live.feed m h.writes

where_kept : (b : Bool) (change : LiveNow → LiveNow) (l : LiveNow) → OnMemory l.feed → OnMemory (change l).feed → OnMemory (where_true b change l).feed
where_kept true change l m k = k
where_kept false change l m k = m

pub told : (e : Option Event) (l : LiveNow) → OnMemory l.feed → OnMemory (tells_if e l).feed
told None l m = m
told (Some e) l m = by (step_of l.session e).effects (record l { session = (step_of l.session e).session }) m
  where
    by : (e : Effects) (l : LiveNow) → OnMemory l.feed → OnMemory (has_effects e l).feed
    by e l m =
        let closed = where_true e.close closes l in
        let requeued = where_true e.requeue requeues closed in
        let back = where_true e.set_back sets_back requeued in
        let first : OnMemory closed.feed = where_kept e.close closes l m tt in
        let second : OnMemory requeued.feed = where_kept e.requeue requeues closed first first in
        let third : OnMemory back.feed = where_kept e.set_back sets_back requeued second second in
        where_kept e.discard discards back third third

taken : (h : Heard) (old new : LiveNow) → OnMemory old.feed → TakesAnswer h old new → OnMemory new.feed
taken h old new m t =
    subst (λ (l : LiveNow). OnMemory l.feed) (sym t.live)
    (told (event_of h) (record old { feed = t.passed; resumed = resumed_by_answer h old.resumed }) (passes_feed old.feed t.passed m t.passes))

heeded : (h : Option Heard) (old new : LiveNow) → OnMemory old.feed → Heeds h old new → OnMemory new.feed
heeded None old new m h = subst (λ (l : LiveNow). OnMemory l.feed) (sym h) m
heeded (Some (heard.Reset full)) old new m h = subst (λ (l : LiveNow). OnMemory l.feed) (sym h) m
heeded (Some (heard.Refused e)) old new m h = subst (λ (l : LiveNow). OnMemory l.feed) (sym h) m
heeded (Some h) old new m t = taken h old new m t

pub has_read : (r : ReadNow) (c new : CoreNow) → FeedIsInMemory c → HasRead r c new → FeedIsInMemory new
has_read r c new m h = heeded r.heard (live_with h.feed c.live) new.live (reads_feed r.answer c.live.feed h.feed m h.reads) h.heeds

-- ---- what an end in memory was told

pub told_of : (e : SeenEnd) → IsInMemory e → (i : Inflow) × (e.inflow ≡ Some i)
told_of e m = by e.inflow m
  where
    by : (o : Option Inflow) → IsSome o → (i : Inflow) × (o ≡ Some i)
    by (Some i) h = (i, refl)
    by None h = absurd (cc h)

pub fed_by : (x : Option FeedNow) → IsSome x → OnMemory x → (v : FeedNow) × ((i : Inflow) × (x ≡ Some v) × (v.end.inflow ≡ Some i))
fed_by (Some v) h m = let (i, is) = told_of v.end m in (v, (i, refl, is))
fed_by None h m = absurd (cc h)

pub is_read : (answer : EndRead) (x y : Option FeedNow) → ReadsFeed answer x y → IsSome x
is_read answer (Some v) y r = refl
is_read answer None y r = absurd r

pub is_written : (answer : FeedWrite) (x y : Option FeedNow) → WritesFeed answer x y → IsSome x
is_written answer (Some v) y r = refl
is_written answer None y r = absurd r
