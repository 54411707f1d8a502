-- The first step that is due: what makes it due, what it leaves, and that for want of memory nothing is done.
use Rattle.std.specs.Option.{is_some, option_to_list}
use Rattle.std.specs.List.{AllByRecursion}
use Rattle.std.proofs.Common.{◌≡◌, ℕ, ◌≤◌, ◌&&◌, ◌||◌, not, if◌then◌else◌, Bool, true, false, List, [], ◌++◌, Option, Some, None, Result, Ok, Err, refl, sym, ap, subst, ◌∙◌, arith, IfSome}
use Rattle.std.proofs.lemmas.List.{append-nil}
use Rattle.m2_bytes.specs.declared.memory.NoMemory as memory
use Rattle.m2_core.specs.LiveNow.{LiveNow, OnFeedNow}
use Rattle.m2_shared.specs.Gates.{AreHeld, Places}
use Rattle.m2_core.specs.OnFeed.{AnswersStamp, ChangesRoom, ComposesFeed, GreetsFeed, ReadsFeed, WritesFeed}
use Rattle.m2_core.specs.LiveCalls.{live_with}
use Rattle.m2_core.specs.LiveHearing.{raised_by}
use Rattle.m2_core.specs.Calls.{is_exhausted}
use Rattle.m2_handshake.specs.m2_control.declared.fields.TheConstants.{GREATEST_NUMBER}
use Rattle.m2_core.specs.Asking.{LeavesPass}
use Rattle.m2_core.specs.CoreNow.{CoreNow}
use Rattle.m2_core.specs.Front.{FrontHeard, asks, heard_by, rests, tells}
use Rattle.m2_core.specs.Next.{IsNext}
use Rattle.m2_core.specs.declared.asking.CoreAsk.{CoreAsk}
use Rattle.m2_core.specs.declared.asking.CoreAsk.TheVariants as ask
use Rattle.m2_core.specs.declared.next.CoreNext.{CoreNext}
use Rattle.m2_core.specs.declared.next.CoreNext.TheVariants as next
use Rattle.m2_dispatch.specs.Parcel.{IsOwned}
use Rattle.m2_feed.specs.declared.frame_heard.FrameHeard.TheVariants as frame
use Rattle.m2_shared.specs.Place.{Place}
use Rattle.m2_core.specs.Hearing.{HasRead, ReadNow, heard_after}
use Rattle.m2_core.specs.ToCompose.{to_compose}
use Rattle.m2_core.specs.declared.to_compose.CoreText.{CoreText}
use Rattle.m2_core.specs.declared.to_compose.CoreText.TheVariants as text
use Rattle.m2_fabric.specs.declared.end.EndRead.{EndRead}
use Rattle.m2_fabric.specs.declared.end.EndRead.TheVariants as read
use Rattle.m2_feed.specs.Calls.{GreetsOn, is_empty}
use Rattle.m2_feed.specs.FeedNow.{FeedNow, Reading, shaking}
use Rattle.m2_feed.specs.declared.answers.FeedWrite.{FeedWrite}
use Rattle.m2_feed.specs.declared.answers.FeedWrite.TheVariants as put
use Rattle.m2_feed.specs.declared.writing.Writing.{Writing}
use Rattle.m2_feed.specs.declared.writing.Writing.TheVariants as writing
use Rattle.m2_handshake.specs.Half.{Writer}
use Rattle.m2_handshake.specs.declared.answer.HalfStep.{HalfStep}
use Rattle.m2_handshake.specs.declared.answer.HalfStep.TheVariants as half
use Rattle.m2_feed.specs.declared.wire_fault.WireFault.{WireFault}
use Rattle.m2_feed.specs.declared.answer_fault.AnswerFault.TheVariants as refusal
use Rattle.m2_feed.specs.declared.heard.Heard.{Heard}
use Rattle.m2_feed.specs.declared.heard.Heard.TheVariants as heard
use Rattle.m2_journal.specs.declared.entry.Entry.{Entry}
use Rattle.m2_journal.specs.declared.facts.PlanStep.{PlanStep}
use Rattle.m2_journal.specs.declared.facts.PlanStep.TheVariants as step
use Rattle.m2_journal.specs.OutFrames as out
use Rattle.m2_dispatch.specs.m2_queues.OutQueues.{Outgoing}
use Rattle.m2_shared.specs.Numbers.{SeenNumberPass}
use Rattle.m2_record.specs.declared.composing.Composed.{Composed}
use Rattle.m2_record.specs.declared.composing.Composed.TheVariants as composed
use Rattle.m2_record.specs.declared.due.Due.{Due}
use Rattle.m2_record.specs.declared.due.Due.TheVariants as due
use Rattle.m2_record.specs.declared.framing.Framed.{Framed}
use Rattle.m2_record.specs.declared.framing.Framed.TheVariants as framed
use Rattle.m2_record.specs.declared.reading.RecordRead.{RecordRead}
use Rattle.m2_record.specs.declared.stepped.Stepped.{Stepped}
use Rattle.m2_record.specs.declared.stepped.Stepped.TheVariants as stepped
use Rattle.m2_record.specs.Calls.{Asks, ClosesFor, ComposesAs, DrawsAs, GetsEntries, GoesDown, IsSameButRoom, MayGoDown, Owns, Shakes, TakesNext, Writes, closed_entries, fault_put, is_down_next}
use Rattle.m2_record.specs.Due.{due_step, has_frame, has_parcel, has_plan, may_compose, may_connect, may_read, may_write, next_step, on_feed}
use Rattle.m2_core.specs.Granting.{Throttled}
use Rattle.m2_record.specs.Framing.{AnswersFront, Frames, Greets}
use Rattle.m2_record.specs.Reading.{CountsAnswer, EndsRead, Reads, answer_by, answer_read, fault_by, fault_read, faulted_or, held_read, moment_read, read_entries, waits_read}
use Rattle.m2_record.specs.RecordNow.{RecordNow}
use Rattle.m2_record.specs.Stepping.{FeedStays, IfMemory, NothingDone, PlansAs, StepsBy, TakesDue, Worked, answer_composed, answer_framed, answer_planned, answer_put}
use Rattle.m2_record.proofs.HasGot.{none-closed, none-heard}
use Rattle.m2_record.proofs.Resumed.{counted-top}
use Rattle.m2_bytes.proofs.m2_lemmas.Booleans.{both_of_and, false_isnt_true}

-- ---- what makes it due

abbrev RowHolds : (plan hand connect write frame read compose : Bool) → Due → Type 0
RowHolds plan hand connect write frame read compose due.Nothing = Unit {0}
RowHolds plan hand connect write frame read compose due.Plan = plan ≡ true
RowHolds plan hand connect write frame read compose due.Hand = hand ≡ true
RowHolds plan hand connect write frame read compose (due.Connect at) = connect ≡ true
RowHolds plan hand connect write frame read compose due.Write = write ≡ true
RowHolds plan hand connect write frame read compose due.Frame = frame ≡ true
RowHolds plan hand connect write frame read compose due.Read = read ≡ true
RowHolds plan hand connect write frame read compose due.Compose = compose ≡ true

row-holds : (a b c d e f g : Bool) (at : ℕ) → RowHolds a b c d e f g
    (if a then due.Plan else (if b then due.Hand else (if c then due.Connect at else (if d then due.Write else (if e then due.Frame else (if f then due.Read else (if g then due.Compose else due.Nothing)))))))
row-holds true b c d e f g at = refl
row-holds false true c d e f g at = refl
row-holds false false true d e f g at = refl
row-holds false false false true e f g at = refl
row-holds false false false false true f g at = refl
row-holds false false false false false true g at = refl
row-holds false false false false false false true at = refl
row-holds false false false false false false false at = tt

-- the row of the step that is due holds
abbrev pub HoldsOf : (now : ℕ) → RecordNow → Due → Type 0
HoldsOf now r d = RowHolds (has_plan r) (has_parcel r.parcels) (may_connect now r) (may_write r) (has_frame r) (may_read r) (may_compose r) d

pub due-holds : (now : ℕ) (r : RecordNow) (d : Due) → due_step now r ≡ d → HoldsOf now r d
due-holds now r d e = subst (HoldsOf now r) e
    (row-holds (has_plan r) (has_parcel r.parcels) (may_connect now r) (may_write r) (has_frame r) (may_read r) (may_compose r) r.waits.next_dial)

writes-at : (held : Bool) (o : Option FeedNow) → on_feed (λ v. not (is_empty v.composed) && not held) o ≡ true → OnFeedNow o (λ v. is_empty v.composed ≡ false)
writes-at held (Some v) h = unset (is_empty v.composed) (both_of_and (not (is_empty v.composed)) (not held) h).0
  where
    unset : (b : Bool) → not b ≡ true → b ≡ false
    unset true e = absurd (false_isnt_true e)
    unset false e = refl
writes-at held None h = absurd (false_isnt_true h)

pub writes-due : (now : ℕ) (r : RecordNow) → due_step now r ≡ due.Write → OnFeedNow r.core.live.feed (λ v. is_empty v.composed ≡ false)
writes-due now r e = writes-at r.held r.core.live.feed (due-holds now r due.Write e)

fed-at : (P : FeedNow → Bool) (o : Option FeedNow) → on_feed P o ≡ true → is_some o ≡ true
fed-at P (Some v) h = refl
fed-at P None h = absurd (false_isnt_true h)

pub reads-due : (now : ℕ) (r : RecordNow) → due_step now r ≡ due.Read → is_some r.core.live.feed ≡ true
reads-due now r e = fed-at _ r.core.live.feed (due-holds now r due.Read e)

-- ---- the plan

none-left : (o : Option PlanStep) → is_some o ≡ false → o ≡ None
none-left None h = refl
none-left (Some x) h = absurd (false_isnt_true (sym h))

pub may-go : (r : RecordNow) → is_some (next_step r) ≡ false → has_plan r ≡ true → MayGoDown (is_down_next (next_step r)) r
may-go r none h = subst (λ (o : Option PlanStep). MayGoDown (is_down_next o) r) (sym (none-left (next_step r) none))
    (subst (λ b. (b || is_exhausted r.core) ≡ true) none h)

pub went-down : (r new : RecordNow) (now : ℕ) → is_some (next_step r) ≡ false → GoesDown (is_down_next (next_step r)) r new → PlansAs (next_step r) (Ok tt) now r new
went-down r new now none h = at (next_step r) none h
  where
    at : (o : Option PlanStep) → is_some o ≡ false → GoesDown (is_down_next o) r new → PlansAs o (Ok tt) now r new
    at None e g = (refl, g)
    at (Some x) e g = absurd (false_isnt_true (sym e))

pub took-step : (r new : RecordNow) (now : ℕ) (answer : Result (Unit {0}) memory.NoMemory) → is_some (next_step r) ≡ true → TakesNext (next_step r) answer now r new → PlansAs (next_step r) answer now r new
took-step r new now answer some h = at (next_step r) some h
  where
    at : (o : Option PlanStep) → is_some o ≡ true → TakesNext o answer now r new → PlansAs o answer now r new
    at (Some x) e g = g
    at None e g = absurd (false_isnt_true e)

-- ---- for want of memory nothing is done

pub feed-itself : (o : Option FeedNow) → FeedStays o o
feed-itself (Some v) = refl
feed-itself None = tt

feed-same : (x y : Option FeedNow) → y ≡ x → FeedStays x y
feed-same x y e = subst (FeedStays x) (sym e) (feed-itself x)

-- a feed of which the room alone changes
roomed : (v w : FeedNow) → w ≡ record v { room = w.room } → w ≡ record v { reading = w.reading; room = w.room }
roomed v w e = e ∙ ap (λ (z : Reading). record v { reading = z; room = w.room }) (sym (ap (λ (z : FeedNow). z.reading) e))

feed-roomed : (x y : Option FeedNow) → ChangesRoom x y → FeedStays x y
feed-roomed (Some v) (Some w) e = roomed v w e
feed-roomed (Some v) None e = absurd e
feed-roomed None y e = absurd e

pub nothing-behind : (old mid new : RecordNow) → IsSameButRoom old mid → NothingDone mid new → NothingDone old new
nothing-behind old mid new e n = subst (λ (z : RecordNow). NothingDone z new → NothingDone old new) (sym e) (λ m. record { feed = m.feed; only = m.only }) n

pub same-nothing : (old new : RecordNow) → IsSameButRoom old new → NothingDone old new
same-nothing old new e = record {
  feed = feed-same old.core.live.feed new.core.live.feed (ap (λ (z : RecordNow). z.core.live.feed) e);
  only = e ∙ ap (λ (f : Option FeedNow). record old { core = record old.core { live = record old.core.live { feed = f } }; room = new.room }) (sym (ap (λ (z : RecordNow). z.core.live.feed) e));
}

-- the core's feed alone changes
core-nothing : (old new : RecordNow) → FeedStays old.core.live.feed new.core.live.feed → new.core ≡ record old.core { live = record old.core.live { feed = new.core.live.feed } } →
    new ≡ record old { core = new.core; room = new.room } → NothingDone old new
core-nothing old new feed core only = record { feed = feed; only = only ∙ ap (λ (c : CoreNow). record old { core = c; room = new.room }) core }

no-entries : (old new : RecordNow) → GetsEntries [] old new → new ≡ record old { core = new.core; room = new.room }
no-entries old new e = e ∙ ap (λ (l : List Entry). record old { core = new.core; journal = l; room = new.room }) (append-nil old.journal)

-- ---- each call

abbrev is-memory : Stepped → Bool
is-memory stepped.NoMemory = true
is-memory _ = false

abbrev is-err : Result (Unit {0}) memory.NoMemory → Bool
is-err (Ok u) = false
is-err (Err e) = true

pub planned-nothing : (o : Option PlanStep) (answer : Result (Unit {0}) memory.NoMemory) (now : ℕ) (old new : RecordNow) → PlansAs o answer now old new → answer_planned answer ≡ stepped.NoMemory → NothingDone old new
planned-nothing (Some (step.Post m)) (Err e) now old new p a = same-nothing old new (subst (λ (z : RecordNow). IsSameButRoom old z) (sym p) refl)
planned-nothing (Some step.Dial) (Err e) now old new p a = absurd p
planned-nothing (Some step.Down) (Err e) now old new p a = absurd p
planned-nothing None (Err e) now old new p a = absurd (false_isnt_true (sym (ap is-err p.0)))
planned-nothing o (Ok u) now old new p a = absurd (false_isnt_true (ap is-memory a))

wrote-feed : (x y : Option FeedNow) → WritesFeed put.NoMemory x y → FeedStays x y
wrote-feed (Some v) (Some w) e = feed-same (Some v) (Some w) (ap (λ (z : FeedNow). Some z) e)
wrote-feed (Some v) None e = absurd e
wrote-feed None y e = absurd e

pub wrote-nothing : (answer : FeedWrite) (now : ℕ) (old new : RecordNow) → Writes answer now old new → answer_put answer ≡ stepped.NoMemory → NothingDone old new
wrote-nothing put.NoMemory now old new w a = subst (NothingDone old) (sym w.closes)
    (core-nothing old w.mid (wrote-feed old.core.live.feed w.mid.core.live.feed w.once.core.writes) w.once.core.only (no-entries old w.mid w.once.only))
wrote-nothing (put.Put n acknowledged) now old new w a = absurd (false_isnt_true (ap is-memory a))
wrote-nothing put.NotYet now old new w a = absurd (false_isnt_true (ap is-memory a))
wrote-nothing put.Failed now old new w a = absurd (false_isnt_true (ap is-memory a))

-- a read that found no memory
pub memory-read : (answer : EndRead) (o : Option Heard) → faulted_or (fault_by answer o) (answer_by answer o) ≡ stepped.NoMemory → answer ≡ read.NoMemory
memory-read read.NoMemory o a = refl
memory-read read.NotYet o a = absurd (false_isnt_true (ap is-memory a))
memory-read read.Ended o a = absurd (false_isnt_true (ap is-memory a))
memory-read read.Failed o a = absurd (false_isnt_true (ap is-memory a))
memory-read (read.Got n) None a = absurd (false_isnt_true (ap is-memory a))
memory-read (read.Got n) (Some heard.Wait) a = absurd (false_isnt_true (ap is-memory a))
memory-read (read.Got n) (Some (heard.ServerIdent cookie global)) a = absurd (false_isnt_true (ap is-memory a))
memory-read (read.Got n) (Some (heard.ReconnectOk seen)) a = absurd (false_isnt_true (ap is-memory a))
memory-read (read.Got n) (Some (heard.Retry number)) a = absurd (false_isnt_true (ap is-memory a))
memory-read (read.Got n) (Some (heard.RetryGlobal number)) a = absurd (false_isnt_true (ap is-memory a))
memory-read (read.Got n) (Some (heard.Reset full)) a = absurd (false_isnt_true (ap is-memory a))
memory-read (read.Got n) (Some (heard.Refused (refusal.Unexpected tag))) a = absurd (false_isnt_true (ap is-memory a))
memory-read (read.Got n) (Some (heard.Refused (refusal.Control e))) a = absurd (false_isnt_true (ap is-memory a))
memory-read (read.Got n) (Some (heard.Refused (refusal.Half e))) a = absurd (false_isnt_true (ap is-memory a))
memory-read (read.Got n) (Some (heard.Refused (refusal.MissingFeatures bits))) a = absurd (false_isnt_true (ap is-memory a))

read-feed-same : (x y : Option FeedNow) → ReadsFeed read.NoMemory x y → y ≡ x
read-feed-same (Some v) (Some w) e = ap (λ (z : FeedNow). Some z) e
read-feed-same (Some v) None e = absurd e
read-feed-same None y e = absurd e

-- nothing is heard then, and nothing is closed
quiet-read : (x : ReadNow) (b c : CoreNow) → HasRead x b c → x.answer ≡ read.NoMemory → (c.live ≡ b.live) × (x.closed ≡ None)
quiet-read x b c w e =
    let reads : ReadsFeed read.NoMemory b.live.feed w.feed = subst (λ (a : EndRead). ReadsFeed a b.live.feed w.feed) e w.reads in
    let same : w.feed ≡ b.live.feed = read-feed-same b.live.feed w.feed reads in
    let none : x.heard ≡ None = w.hears ∙ ap (λ (a : EndRead). heard_after a b.facts (live_with w.feed b.live)) e in (
      none-heard x.heard (live_with w.feed b.live) c.live none w.heeds ∙ ap (λ (o : Option FeedNow). live_with o b.live) same,
      none-closed x.heard b.live.session x.closed w.feed none w.closes,
    )

-- and heard nothing
pub unheard : (x : RecordRead) (now : ℕ) (old new : RecordNow) → Reads x now old new → x.answer ≡ read.NoMemory → x.heard ≡ None
unheard x now old new w e = w.once.core.hears ∙ ap (λ (a : EndRead). heard_after a old.core.facts (live_with w.once.core.feed old.core.live)) e

pub read-nothing : (x : RecordRead) (now : ℕ) (old new : RecordNow) → Reads x now old new → answer_read x ≡ stepped.NoMemory → NothingDone old new
read-nothing x now old new w a =
    let none : x.answer ≡ read.NoMemory = memory-read x.answer x.heard a in
    let quiet = quiet-read (record { answer = x.answer; heard = x.heard; closed = w.once.closed }) old.core w.mid.core w.once.core none in
    let silent : x.heard ≡ None = unheard x now old new w none in
    let unfaulted : EndsRead None x.heard now w.mid new = subst (λ (f : Option WireFault). EndsRead f x.heard now w.mid new) (ap (λ (z : EndRead). fault_by z x.heard) none) w.ends in
    let ends : new ≡ w.mid = subst (λ (h : Option Heard). EndsRead None h now w.mid new) silent unfaulted in
    subst (NothingDone old) (sym ends)
    (core-nothing old w.mid (feed-same old.core.live.feed w.mid.core.live.feed (ap (λ (z : LiveNow). z.feed) quiet.0))
    (w.once.core.only ∙ ap (λ (l : LiveNow). record old.core { live = l }) (quiet.0 ∙ ap (λ (o : Option FeedNow). record old.core.live { feed = o }) (sym (ap (λ (z : LiveNow). z.feed) quiet.0))))
    (w.once.only ∙ unread quiet.1 none))
  where
    unread : w.once.closed ≡ None → x.answer ≡ read.NoMemory → record old {
      core = w.mid.core;
      journal = (old.journal ++ read_entries x.answer old.core.live.feed) ++ closed_entries w.once.closed;
      spent = old.spent ++ option_to_list w.once.closed;
      waits = waits_read x.answer old.core.facts.node now old.core.live.session.phase w.mid.core.live.session.phase old.waits;
      held = held_read x.answer (is_some w.once.closed) old.held;
      last = moment_read x.answer now old.last;
      room = w.mid.room;
    } ≡ record old { core = w.mid.core; room = w.mid.room }
    unread c e = rw (c, e, append-nil (old.journal ++ []), append-nil old.journal, append-nil old.spent) refl

-- ---- a text

pub memory-composed : (c : Composed) → answer_composed c ≡ stepped.NoMemory → c ≡ composed.NoMemory
memory-composed composed.NoMemory a = refl
memory-composed (composed.Asked by_ident number) a = absurd (false_isnt_true (ap is-memory a))
memory-composed (composed.Numbered number) a = absurd (false_isnt_true (ap is-memory a))
memory-composed composed.Answered a = absurd (false_isnt_true (ap is-memory a))
memory-composed composed.Acknowledged a = absurd (false_isnt_true (ap is-memory a))
memory-composed composed.Spent a = absurd (false_isnt_true (ap is-memory a))
memory-composed (composed.Again seen now) a = absurd (false_isnt_true (ap is-memory a))

answered-room : (x y : Option FeedNow) → AnswersStamp (Err (record {})) x y → FeedStays x y
answered-room (Some v) (Some w) e = roomed v w e
answered-room (Some v) None e = absurd e
answered-room None y e = absurd e

composed-room : (w : Writing) (bytes : List ℕ) (x y : Option FeedNow) → ComposesFeed (Err (record {})) w bytes x y → FeedStays x y
composed-room w bytes (Some v) (Some z) e = roomed v z e
composed-room w bytes (Some v) None e = absurd e
composed-room w bytes None y e = absurd e

text-nothing : (t : CoreText) (old new : RecordNow) → ComposesAs t composed.NoMemory old new → NothingDone old new
text-nothing text.Ask old new c = core-nothing old new (feed-roomed old.core.live.feed new.core.live.feed c.1.0) c.1.1 (no-entries old new c.2)
text-nothing text.KeepaliveAnswer old new c = core-nothing old new (answered-room old.core.live.feed new.core.live.feed c.0.composes) c.0.only c.1
text-nothing text.Message old new c = core-nothing old new (feed-roomed old.core.live.feed new.core.live.feed c.0.numbers.1)
    (c.0.only ∙ ap (λ (o : Outgoing). record old.core { live = record old.core.live { out = o; feed = new.core.live.feed } }) c.0.numbers.0) (no-entries old new c.1)
text-nothing text.Acknowledgement old new c = core-nothing old new (composed-room (writing.Acknowledgement old.core.live.last false) (out.text_of old.core.facts (out.acknowledgement old.core.live.last)) old.core.live.feed new.core.live.feed c.0.composes) c.0.only c.1

-- what is to be composed, whatever it is
composed-at : (o : Option CoreText) (old new : RecordNow) → is_some o ≡ true → IfSome o (λ t. ComposesAs t composed.NoMemory old new) → NothingDone old new
composed-at (Some t) old new e c = text-nothing t old new c
composed-at None old new e c = absurd (false_isnt_true e)

pub composed-nothing : (c : Composed) (old new : RecordNow) → is_some (to_compose old.core) ≡ true → IfSome (to_compose old.core) (λ t. ComposesAs t c old new) → answer_composed c ≡ stepped.NoMemory → NothingDone old new
composed-nothing c old new e x a = composed-at (to_compose old.core) old new e
    (subst (λ (z : Composed). IfSome (to_compose old.core) (λ t. ComposesAs t z old new)) (memory-composed c a) x)

-- ---- what was read

greeted-feed : (x y : Option FeedNow) → GreetsFeed half.NoMemory x y → FeedStays x y
greeted-feed (Some v) (Some w) g = greeted v w g
  where
    greeted : (v w : FeedNow) → GreetsOn half.NoMemory v w → w ≡ record v { reading = w.reading; room = w.room }
    greeted v w g =
        let words : g.writes.0 ≡ [] = ap (λ (z : Writer). z.out) g.writes.2.ends.1 in
        let composed : w.composed ≡ v.composed = g.writes.1 ∙ ap (λ (l : List ℕ). v.composed ++ l) words ∙ append-nil v.composed in
        g.leaves ∙ ap (λ (l : List ℕ). record v { reading = shaking g.after; composed = l; room = w.room }) composed
        ∙ ap (λ (z : Reading). record v { reading = z; room = w.room }) (sym (ap (λ (z : FeedNow). z.reading) g.leaves))
greeted-feed (Some v) None g = absurd g
greeted-feed None y g = absurd g

half-nothing : (answer : HalfStep) (now : ℕ) (old new : RecordNow) → Greets answer now old new → answer_framed (framed.Half answer) ≡ stepped.NoMemory → NothingDone old new
half-nothing half.NoMemory now old new g a = core-nothing old new (greeted-feed old.core.live.feed new.core.live.feed g.0.greets) g.0.only g.1
half-nothing half.NotYet now old new g a = absurd (false_isnt_true (ap is-memory a))
half-nothing half.Wrote now old new g a = absurd (false_isnt_true (ap is-memory a))
half-nothing half.Authed now old new g a = absurd (false_isnt_true (ap is-memory a))
half-nothing (half.Fault e) now old new g a = absurd (false_isnt_true (ap is-memory a))

pub framed-nothing : (t : Throttled) (f : Framed) (now : ℕ) (old new : RecordNow) → Frames t f now old new → answer_framed f ≡ stepped.NoMemory → NothingDone old new
framed-nothing t (framed.Half answer) now old new g a = half-nothing answer now old new g a
framed-nothing t framed.NoMemory now old new g a = same-nothing old new g.1
framed-nothing t framed.Passed now old new g a = absurd (false_isnt_true (ap is-memory a))
framed-nothing t framed.Granted now old new g a = absurd (false_isnt_true (ap is-memory a))
framed-nothing t (framed.Acked number) now old new g a = absurd (false_isnt_true (ap is-memory a))
framed-nothing t (framed.Accepted number) now old new g a = absurd (false_isnt_true (ap is-memory a))
framed-nothing t (framed.Obeyed full) now old new g a = absurd (false_isnt_true (ap is-memory a))
framed-nothing t (framed.Faulted cause) now old new g a = absurd (false_isnt_true (ap is-memory a))
framed-nothing t (framed.Full stage held) now old new g a = absurd (false_isnt_true (ap is-memory a))
framed-nothing t (framed.Again stage seen at) now old new g a = absurd (false_isnt_true (ap is-memory a))

-- ---- the step

pub for-memory : (a : Stepped) (P : Type 0) → (a ≡ stepped.NoMemory → P) → IfMemory a P
for-memory stepped.NoMemory P h = h refl
for-memory stepped.Moved P h = tt
for-memory (stepped.Hand x) P h = tt
for-memory stepped.Dry P h = tt
for-memory (stepped.Full stage held) P h = tt
for-memory (stepped.Again stage seen now) P h = tt
for-memory stepped.Spent P h = tt
for-memory (stepped.Faulted cause) P h = tt

pub by-due : (d : Due) (w : Worked) (old new : RecordNow) → due_step w.now old ≡ d → StepsBy d w old new → TakesDue w old new
by-due d w old new e h = subst (λ (z : Due). StepsBy z w old new) (sym e) h

-- ---- the greatest global number used

down-top : (planned : Bool) (old new : RecordNow) → GoesDown planned old new → new.core.top ≡ old.core.top
down-top planned old new e = ap (λ (z : RecordNow). z.core.top) e

pub planned-top : (o : Option PlanStep) (answer : Result (Unit {0}) memory.NoMemory) (now : ℕ) (old new : RecordNow) → PlansAs o answer now old new → new.core.top ≡ old.core.top
planned-top (Some (step.Post m)) (Ok u) now old new p = ap (λ (z : RecordNow). z.core.top) p
planned-top (Some (step.Post m)) (Err e) now old new p = ap (λ (z : RecordNow). z.core.top) p
planned-top (Some step.Dial) (Ok u) now old new p = ap (λ (z : RecordNow). z.core.top) p
planned-top (Some step.Dial) (Err e) now old new p = absurd p
planned-top (Some step.Down) (Ok u) now old new p = down-top true old new p
planned-top (Some step.Down) (Err e) now old new p = absurd p
planned-top None answer now old new p = down-top false old new p.1

closed-top : (o : Option WireFault) (now : ℕ) (mid new : RecordNow) → ClosesFor o now mid new → new.core.top ≡ mid.core.top
closed-top (Some f) now mid new e = ap (λ (z : RecordNow). z.core.top) e
closed-top None now mid new e = ap (λ (z : RecordNow). z.core.top) e

pub wrote-top : (answer : FeedWrite) (now : ℕ) (old new : RecordNow) → Writes answer now old new → new.core.top ≡ old.core.top
wrote-top answer now old new w = closed-top (fault_put answer) now w.mid new w.closes ∙ ap (λ (z : CoreNow). z.top) w.once.core.only

answer-top : (h : Option Heard) (mid new : RecordNow) → CountsAnswer h mid new → new.core.top ≡ mid.core.top
answer-top (Some (heard.ReconnectOk seen)) mid new e = counted-top mid new e
answer-top (Some (heard.ServerIdent cookie global)) mid new e = ap (λ (z : RecordNow). z.core.top) e
answer-top (Some (heard.Retry number)) mid new e = ap (λ (z : RecordNow). z.core.top) e
answer-top (Some (heard.RetryGlobal number)) mid new e = ap (λ (z : RecordNow). z.core.top) e
answer-top (Some (heard.Reset full)) mid new e = ap (λ (z : RecordNow). z.core.top) e
answer-top (Some (heard.Refused f)) mid new e = ap (λ (z : RecordNow). z.core.top) e
answer-top (Some heard.Wait) mid new e = ap (λ (z : RecordNow). z.core.top) e
answer-top None mid new e = ap (λ (z : RecordNow). z.core.top) e

ended-top : (o : Option WireFault) (h : Option Heard) (now : ℕ) (mid new : RecordNow) → EndsRead o h now mid new → new.core.top ≡ mid.core.top
ended-top (Some f) h now mid new e = ap (λ (z : RecordNow). z.core.top) e
ended-top None h now mid new e = answer-top h mid new e

pub read-top : (x : RecordRead) (now : ℕ) (old new : RecordNow) → Reads x now old new → new.core.top ≡ old.core.top
read-top x now old new w = ended-top (fault_read x) x.heard now w.mid new w.ends ∙ ap (λ (z : CoreNow). z.top) w.once.core.only

pub raised-least : (o : Option Heard) (p : SeenNumberPass) → p.least ≤ (raised_by o p).least
raised-least (Some (heard.RetryGlobal number)) p = omega arith
raised-least None p = omega arith
raised-least (Some (heard.Reset full)) p = omega arith
raised-least (Some (heard.Refused e)) p = omega arith
raised-least (Some (heard.ServerIdent cookie global)) p = omega arith
raised-least (Some (heard.ReconnectOk seen)) p = omega arith
raised-least (Some (heard.Retry number)) p = omega arith
raised-least (Some heard.Wait) p = omega arith

pub raised-place : (o : Option Heard) (p : SeenNumberPass) → (raised_by o p).place ≡ p.place
raised-place (Some (heard.RetryGlobal number)) p = refl
raised-place None p = refl
raised-place (Some (heard.Reset full)) p = refl
raised-place (Some (heard.Refused e)) p = refl
raised-place (Some (heard.ServerIdent cookie global)) p = refl
raised-place (Some (heard.ReconnectOk seen)) p = refl
raised-place (Some (heard.Retry number)) p = refl
raised-place (Some heard.Wait) p = refl

pub top-below : (old new : RecordNow) (least later : ℕ) → new.core.top ≡ old.core.top → old.core.top ≤ least → least ≤ later → new.core.top ≤ later
top-below old new least later e h g = omega (arith, e, h, g)

-- ---- what a text leaves of the greatest number and of what is held

module _ (old new : RecordNow) where
  asked-top : (answer : CoreAsk) (place : Place) (before behind : SeenNumberPass) → Asks answer old new → LeavesPass answer place before behind → old.core.top ≤ before.least → old.core.top ≤ GREATEST_NUMBER → new.core.top ≤ behind.least
  asked-top (ask.Asked by_ident number) place before behind a p h g = let t = ap (λ (c : CoreNow). c.top) a.1.only in let l = p.least in omega (arith, t, l)
  asked-top ask.Spent place before behind a p h g = let t = ap (λ (c : CoreNow). c.top) a.1.1 in let l = p.least in omega (arith, t, l, g)
  asked-top (ask.Again seen now) place before behind a p h g = let t = ap (λ (c : CoreNow). c.top) a.1.1 in let l = p.least in let m = p.again in omega (arith, t, l, m.0, m.1, h)
  asked-top ask.NoMemory place before behind a p h g = let t = ap (λ (c : CoreNow). c.top) a.1.1 in let l = ap (λ (z : SeenNumberPass). z.least) p in omega (arith, t, l, h)

  -- the core's top stays, and nothing is drawn
  stays-top : (before behind : SeenNumberPass) → new.core.top ≡ old.core.top → behind ≡ before → old.core.top ≤ before.least → new.core.top ≤ behind.least
  stays-top before behind t p h = let l = ap (λ (z : SeenNumberPass). z.least) p in omega (arith, t, l, h)

  text-top : (t : CoreText) (c : Composed) (place : Place) (before behind : SeenNumberPass) → ComposesAs t c old new → DrawsAs c place before behind → old.core.top ≤ before.least → old.core.top ≤ GREATEST_NUMBER → new.core.top ≤ behind.least
  text-top text.Ask (composed.Asked by_ident number) place before behind x p h g = asked-top (ask.Asked by_ident number) place before behind x p h g
  text-top text.Ask composed.Spent place before behind x p h g = asked-top ask.Spent place before behind x p h g
  text-top text.Ask (composed.Again seen now) place before behind x p h g = asked-top (ask.Again seen now) place before behind x p h g
  text-top text.Ask composed.NoMemory place before behind x p h g = asked-top ask.NoMemory place before behind x p h g
  text-top text.KeepaliveAnswer composed.Answered place before behind x p h g = stays-top before behind (ap (λ (c : CoreNow). c.top) x.0.only) p h
  text-top text.KeepaliveAnswer composed.NoMemory place before behind x p h g = stays-top before behind (ap (λ (c : CoreNow). c.top) x.0.only) p h
  text-top text.Message (composed.Numbered number) place before behind x p h g = stays-top before behind (ap (λ (c : CoreNow). c.top) x.0.only) p h
  text-top text.Message composed.NoMemory place before behind x p h g = stays-top before behind (ap (λ (c : CoreNow). c.top) x.0.only) p h
  text-top text.Acknowledgement composed.Acknowledged place before behind x p h g = stays-top before behind (ap (λ (c : CoreNow). c.top) x.0.only) p h
  text-top text.Acknowledgement composed.NoMemory place before behind x p h g = stays-top before behind (ap (λ (c : CoreNow). c.top) x.0.only) p h
  text-top t c place before behind x p h g = absurd x

  -- the same is held for the feed, and the same is ready
  text-holds : (t : CoreText) (c : Composed) → ComposesAs t c old new → (new.core.live.granted ≡ old.core.live.granted) × (new.parcels ≡ old.parcels)
  text-holds text.Ask (composed.Asked by_ident number) x = (ap (λ (z : CoreNow). z.live.granted) x.1.only, ap (λ (z : RecordNow). z.parcels) x.2)
  text-holds text.Ask composed.Spent x = (ap (λ (z : CoreNow). z.live.granted) x.1.1, ap (λ (z : RecordNow). z.parcels) x.2)
  text-holds text.Ask (composed.Again seen now) x = (ap (λ (z : CoreNow). z.live.granted) x.1.1, ap (λ (z : RecordNow). z.parcels) x.2)
  text-holds text.Ask composed.NoMemory x = (ap (λ (z : CoreNow). z.live.granted) x.1.1, ap (λ (z : RecordNow). z.parcels) x.2)
  text-holds text.KeepaliveAnswer composed.Answered x = (ap (λ (z : CoreNow). z.live.granted) x.0.only, ap (λ (z : RecordNow). z.parcels) x.1)
  text-holds text.KeepaliveAnswer composed.NoMemory x = (ap (λ (z : CoreNow). z.live.granted) x.0.only, ap (λ (z : RecordNow). z.parcels) x.1)
  text-holds text.Message (composed.Numbered number) x = (ap (λ (z : CoreNow). z.live.granted) x.0.only, ap (λ (z : RecordNow). z.parcels) x.1)
  text-holds text.Message composed.NoMemory x = (ap (λ (z : CoreNow). z.live.granted) x.0.only, ap (λ (z : RecordNow). z.parcels) x.1)
  text-holds text.Acknowledgement composed.Acknowledged x = (ap (λ (z : CoreNow). z.live.granted) x.0.only, ap (λ (z : RecordNow). z.parcels) x.1)
  text-holds text.Acknowledgement composed.NoMemory x = (ap (λ (z : CoreNow). z.live.granted) x.0.only, ap (λ (z : RecordNow). z.parcels) x.1)
  text-holds t c x = absurd x

  of-text : (o : Option CoreText) (c : Composed) (A : Type 0) → is_some o ≡ true → IfSome o (λ t. ComposesAs t c old new) → ((t : CoreText) → ComposesAs t c old new → A) → A
  of-text (Some t) c A some x f = f t x
  of-text None c A some x f = absurd (false_isnt_true some)

  pub composed-top : (c : Composed) (place : Place) (before behind : SeenNumberPass) → is_some (to_compose old.core) ≡ true → IfSome (to_compose old.core) (λ t. ComposesAs t c old new) → DrawsAs c place before behind → old.core.top ≤ before.least → old.core.top ≤ GREATEST_NUMBER → new.core.top ≤ behind.least
  composed-top c place before behind some x p h g = of-text (to_compose old.core) c (new.core.top ≤ behind.least) some x (λ t y. text-top t c place before behind y p h g)

  pub composed-owned : (place : Places) (c : Composed) → is_some (to_compose old.core) ≡ true → IfSome (to_compose old.core) (λ t. ComposesAs t c old new) → Owns place old → Owns place new
  composed-owned place c some x h = of-text (to_compose old.core) c (Owns place new) some x (λ t y. let z = text-holds t c y in record {
    feed = subst (AreHeld place) (sym z.0) h.feed;
    parcels = subst (AllByRecursion (IsOwned place)) (sym z.1) h.parcels;
  })

-- ---- what the front of the feed leaves of the greatest number

front-top : (t : Throttled) (a : CoreNext) (h : FrontHeard) (b c : CoreNow) → IsNext t a h b c → c.top ≡ b.top
front-top t next.Rests rests b c x = ap (λ (z : CoreNow). z.top) x
front-top t next.Granted (asks n) b c x = ap (λ (z : CoreNow). z.top) x.only
front-top t (next.Full stage held) (asks n) b c x = ap (λ (z : CoreNow). z.top) x.only
front-top t (next.Again stage seen now) (asks n) b c x = ap (λ (z : CoreNow). z.top) x.only
front-top t next.Passed (tells frame.Nothing) b c x = ap (λ (z : CoreNow). z.top) x.only
front-top t next.Passed (tells (frame.Stamp k)) b c x = ap (λ (z : CoreNow). z.top) x.only
front-top t next.NoMemory (tells (frame.Stamp k)) b c x = ap (λ (z : CoreNow). z.top) x
front-top t (next.Acked number) (tells (frame.Acknowledges n)) b c x = ap (λ (z : CoreNow). z.top) x.1.only
front-top t (next.Accepted a) (tells (frame.Brings n)) b c x = ap (λ (z : CoreNow). z.top) x.1.only
front-top t next.NoMemory (tells (frame.Brings n)) b c x = ap (λ (z : CoreNow). z.top) x
front-top t (next.Resets full) (tells (frame.Resets mark)) b c x = ap (λ (z : CoreNow). z.top) x.2
front-top t (next.Fault cause) (tells (frame.Fault why)) b c x = ap (λ (z : CoreNow). z.top) x.1.only
front-top t a h b c x = absurd x

on-front : (t : Throttled) (a : CoreNext) (o : Option FeedNow) (b c : CoreNow) → OnFeedNow o (λ v. IsNext t a (heard_by b v.reading) b c) → c.top ≡ b.top
on-front t a (Some v) b c x = front-top t a (heard_by b v.reading) b c x
on-front t a None b c x = absurd x

answers-top : (t : Throttled) (a : CoreNext) (b c : CoreNow) → AnswersFront t a b c → c.top ≡ b.top
answers-top t a b c x = on-front t a b.live.feed b c x

shaken-top : (answer : HalfStep) (old new : RecordNow) → Shakes answer old new → new.core.top ≡ old.core.top
shaken-top answer old new x = ap (λ (z : CoreNow). z.top) x.0.only

greeted-top : (answer : HalfStep) (now : ℕ) (old new : RecordNow) → Greets answer now old new → new.core.top ≡ old.core.top
greeted-top (half.Fault e) now old new x = ap (λ (z : RecordNow). z.core.top) x.2 ∙ shaken-top (half.Fault e) old x.0 x.1
greeted-top half.NotYet now old new x = shaken-top half.NotYet old new x
greeted-top half.Wrote now old new x = shaken-top half.Wrote old new x
greeted-top half.Authed now old new x = shaken-top half.Authed old new x
greeted-top half.NoMemory now old new x = shaken-top half.NoMemory old new x

pub framed-top : (t : Throttled) (f : Framed) (now : ℕ) (old new : RecordNow) → Frames t f now old new → new.core.top ≡ old.core.top
framed-top t (framed.Half answer) now old new x = greeted-top answer now old new x
framed-top t framed.Passed now old new x = answers-top t next.Passed old.core new.core x.0
framed-top t framed.Granted now old new x = answers-top t next.Granted old.core new.core x.0
framed-top t (framed.Acked number) now old new x = answers-top t (next.Acked number) old.core new.core x.0
framed-top t (framed.Accepted number) now old new x = answers-top t (next.Accepted x.0) old.core new.core x.2
framed-top t (framed.Obeyed full) now old new x = ap (λ (z : CoreNow). z.top) x.2.0.only ∙ answers-top t (next.Resets full) old.core x.0.core x.1.0
framed-top t (framed.Faulted cause) now old new x = answers-top t (next.Fault cause) old.core new.core x.0
framed-top t (framed.Full stage out) now old new x = answers-top t (next.Full stage out) old.core new.core x.0
framed-top t (framed.Again stage seen at) now old new x = answers-top t (next.Again stage seen at) old.core new.core x.0
framed-top t framed.NoMemory now old new x = answers-top t next.NoMemory old.core new.core x.0
