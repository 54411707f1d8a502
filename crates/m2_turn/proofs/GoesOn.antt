-- No socket comes by a step.
use Rattle.std.proofs.Common.{◌≡◌, ℕ, Bool, true, false, List, [], ◌∷◌, ◌++◌, Option, Some, None, Result, Ok, Err, IfSome, IsSome, if◌then◌else◌, true≢false, refl, sym, ap, ◌∙◌, append-nil, append_assoc}
use Rattle.std.specs.List.{AllByRecursion}
use Rattle.m2_bytes.specs.declared.memory.NoMemory as memory
use Rattle.m2_record.specs.m2_core.declared.asking.CoreAsk.{CoreAsk}
use Rattle.m2_record.specs.m2_core.declared.asking.CoreAsk.TheVariants as ask
use Rattle.m2_record.specs.m2_core.declared.to_compose.CoreText.{CoreText}
use Rattle.m2_record.specs.m2_core.declared.to_compose.CoreText.TheVariants as text
use Rattle.m2_record.specs.m2_core.declared.next.CoreNext.{CoreNext}
use Rattle.m2_record.specs.m2_core.declared.next.CoreNext.TheVariants as next
use Rattle.m2_record.specs.m2_core.Asking.{LeavesAsk}
use Rattle.m2_record.specs.m2_core.CoreNow.{CoreNow}
use Rattle.m2_record.specs.m2_core.Counting.{CountsIf, to_count}
use Rattle.m2_record.specs.m2_core.Front.{FrontHeard, asks, heard_by, rests, tells}
use Rattle.m2_record.specs.m2_core.Granting.{Throttled}
use Rattle.m2_record.specs.m2_core.Next.{IsNext}
use Rattle.m2_record.specs.m2_core.ToCompose.{to_compose}
use Rattle.m2_fabric.specs.declared.end.EndRead.{EndRead}
use Rattle.m2_fabric.specs.declared.end.EndRead.TheVariants as read
use Rattle.m2_fabric.specs.End.{SeenEnd}
use Rattle.m2_feed.specs.declared.answers.FeedWrite.{FeedWrite}
use Rattle.m2_feed.specs.declared.answers.FeedWrite.TheVariants as put
use Rattle.m2_feed.specs.FeedNow.{FeedNow}
use Rattle.m2_handshake.specs.declared.answer.HalfStep.{HalfStep}
use Rattle.m2_handshake.specs.declared.answer.HalfStep.TheVariants as half
use Rattle.m2_feed.specs.declared.wire_fault.WireFault.{WireFault}
use Rattle.m2_feed.specs.declared.frame_heard.FrameHeard.TheVariants as heard
use Rattle.m2_feed.specs.declared.heard.Heard.{Heard}
use Rattle.m2_feed.specs.declared.heard.Heard.TheVariants as answer
use Rattle.m2_record.specs.m2_core.LiveNow.{OnFeedNow}
use Rattle.m2_feed.specs.m2_journal.declared.entry.Entry.{Entry}
use Rattle.m2_feed.specs.m2_journal.declared.entry.Entry.TheVariants as entry
use Rattle.m2_feed.specs.m2_journal.declared.facts.PlanStep.{PlanStep}
use Rattle.m2_feed.specs.m2_journal.declared.facts.PlanStep.TheVariants as step
use Rattle.m2_record.specs.declared.composing.Composed.{Composed}
use Rattle.m2_record.specs.declared.composing.Composed.TheVariants as composed
use Rattle.m2_record.specs.declared.due.Due.{Due}
use Rattle.m2_record.specs.declared.due.Due.TheVariants as due
use Rattle.m2_record.specs.declared.framing.Framed.{Framed}
use Rattle.m2_record.specs.declared.framing.Framed.TheVariants as framed
use Rattle.m2_record.specs.declared.stepped.Stepped.{Stepped}
use Rattle.m2_record.specs.declared.stepped.Stepped.TheVariants as stepped
use Rattle.m2_record.specs.Calls.{Breaks, ChangesCore, ClosesFor, ComposesAs, CountsResumption, GetsEntries, GoesDown, IsSameButRoom, Writes, acked_entries, asked_entries, closed_entries, fault_put, wrote_entries}
use Rattle.m2_record.specs.Due.{due_step, has_frame, has_parcel, has_plan, may_compose, may_connect, may_read, may_write, next_step}
use Rattle.m2_record.specs.Framing.{AnswersFront, Frames, Greets}
use Rattle.m2_record.specs.Reading.{CountsAnswer, EndsRead, Reads, fault_read, read_entries}
use Rattle.m2_record.specs.RecordNow.{RecordNow}
use Rattle.m2_record.specs.Stepping.{HandsAs, PlansAs, StepsAs, StepsBy, TakesDue, Worked}
use Rattle.m2_turn.specs.Steps.{BringsNoSocket, GoesOn}

-- ---- journals that grow

pub same : (old new : RecordNow) → new.journal ≡ old.journal → new.core.facts ≡ old.core.facts → GoesOn old new
same old new e f = record { more = []; journal = e ∙ sym (append-nil old.journal); facts = f; no_socket = tt }

by_these : (old new : RecordNow) (more : List Entry) → new.journal ≡ old.journal ++ more → new.core.facts ≡ old.core.facts → AllByRecursion BringsNoSocket more → GoesOn old new
by_these old new more e f none = record { more = more; journal = e; facts = f; no_socket = none }

pub both : (xs ys : List Entry) → AllByRecursion BringsNoSocket xs → AllByRecursion BringsNoSocket ys → AllByRecursion BringsNoSocket (xs ++ ys)
both [] ys _ none = none
both (x ∷ xs) ys (first, rest) none = (first, both xs ys rest none)

pub chain : (a b c : RecordNow) → GoesOn a b → GoesOn b c → GoesOn a c
chain a b c first second = record {
  more = first.more ++ second.more;
  journal = second.journal ∙ ap (λ j. j ++ second.more) first.journal ∙ append_assoc a.journal first.more second.more;
  facts = second.facts ∙ first.facts;
  no_socket = both first.more second.more first.no_socket second.no_socket;
}

-- ---- entries that bring no socket

pub closed : (end : Option SeenEnd) → AllByRecursion BringsNoSocket (closed_entries end)
closed (Some e) = (tt, tt)
closed None = tt

wrote : (answer : FeedWrite) (feed : Option FeedNow) → AllByRecursion BringsNoSocket (wrote_entries answer feed)
wrote (put.Put n acknowledged) (Some v) = (tt, tt)
wrote (put.Put n acknowledged) None = tt
wrote put.NotYet feed = tt
wrote put.Failed feed = tt
wrote put.NoMemory feed = tt

was_read : (answer : EndRead) (feed : Option FeedNow) → AllByRecursion BringsNoSocket (read_entries answer feed)
was_read (read.Got n) (Some v) = (tt, tt)
was_read (read.Got n) None = tt
was_read read.NotYet feed = tt
was_read read.Ended feed = tt
was_read read.Failed feed = tt
was_read read.NoMemory feed = tt

asked : (answer : CoreAsk) → AllByRecursion BringsNoSocket (asked_entries answer)
asked (ask.Asked by_ident number) = (tt, tt)
asked ask.Spent = tt
asked (ask.Again seen now) = tt
asked ask.NoMemory = tt

counted : (n : Option ℕ) → AllByRecursion BringsNoSocket (acked_entries n)
counted (Some number) = (tt, tt)
counted None = tt

-- ---- what never changes

next_facts : (t : Throttled) (answer : CoreNext) (front : FrontHeard) (before after : CoreNow) → IsNext t answer front before after → after.facts ≡ before.facts
next_facts t next.Rests rests before after e = ap (λ c. c.facts) e
next_facts t next.Granted (asks n) before after g = ap (λ c. c.facts) g.only
next_facts t (next.Full stage held) (asks n) before after g = ap (λ c. c.facts) g.only
next_facts t (next.Again stage seen now) (asks n) before after g = ap (λ c. c.facts) g.only
next_facts t next.Passed (tells heard.Nothing) before after h = ap (λ c. c.facts) h.only
next_facts t next.Passed (tells (heard.Stamp k)) before after h = ap (λ c. c.facts) h.only
next_facts t next.NoMemory (tells (heard.Stamp k)) before after e = ap (λ c. c.facts) e
next_facts t (next.Acked number) (tells (heard.Acknowledges n)) before after (_, h) = ap (λ c. c.facts) h.only
next_facts t (next.Accepted a) (tells (heard.Brings n)) before after (_, h) = ap (λ c. c.facts) h.only
next_facts t next.NoMemory (tells (heard.Brings n)) before after e = ap (λ c. c.facts) e
next_facts t (next.Resets full) (tells (heard.Resets mark)) before after (_, _, e) = ap (λ c. c.facts) e
next_facts t (next.Fault cause) (tells (heard.Fault why)) before after (_, h) = ap (λ c. c.facts) h.only
next_facts t _ _ before after e = elim e [ ]

front_facts : (t : Throttled) (answer : CoreNext) (before after : CoreNow) → AnswersFront t answer before after → after.facts ≡ before.facts
front_facts t answer before after h = at before.live.feed h
  where
    at : (o : Option FeedNow) → OnFeedNow o (λ v. IsNext t answer (heard_by before v.reading) before after) → after.facts ≡ before.facts
    at (Some v) n = next_facts t answer (heard_by before v.reading) before after n
    at None n = absurd n

counted_facts : (n : Option ℕ) (before after : CoreNow) → CountsIf n before after → after.facts ≡ before.facts
counted_facts (Some number) before after h = ap (λ c. c.facts) h.only
counted_facts None before after e = ap (λ c. c.facts) e

ask_facts : (answer : CoreAsk) (before after : CoreNow) → LeavesAsk answer before after → after.facts ≡ before.facts
ask_facts (ask.Asked by_ident number) before after h = ap (λ c. c.facts) h.only
ask_facts ask.Spent before after (_, e) = ap (λ c. c.facts) e
ask_facts (ask.Again seen now) before after (_, e) = ap (λ c. c.facts) e
ask_facts ask.NoMemory before after (_, e) = ap (λ c. c.facts) e

-- ---- the rows of the table

breaks : (now : ℕ) (old new : RecordNow) → Breaks now old new → GoesOn old new
breaks now old new e = by_these old new _ (ap (λ r. r.journal) e) (ap (λ r. r.core.facts) e) (closed _)

closes : (cause : Option WireFault) (now : ℕ) (old new : RecordNow) → ClosesFor cause now old new → GoesOn old new
closes (Some f) now old new e = breaks now old new e
closes None now old new e = same old new (ap (λ r. r.journal) e) (ap (λ r. r.core.facts) e)

goes_down : (planned : Bool) (old new : RecordNow) → GoesDown planned old new → GoesOn old new
goes_down planned old new e =
    by_these old new (entry.Down planned ∷ closed_entries _) (ap (λ r. r.journal) e ∙ append_assoc old.journal (entry.Down planned ∷ []) (closed_entries _)) (ap (λ r. r.core.facts) e) (tt, closed _)

pub room_alone : (old new : RecordNow) → IsSameButRoom old new → GoesOn old new
room_alone old new e = same old new (ap (λ r. r.journal) e) (ap (λ r. r.core.facts) e)

core_alone : (old new : RecordNow) → ChangesCore old new → new.core.facts ≡ old.core.facts → GoesOn old new
core_alone old new e f = same old new (ap (λ r. r.journal) e) f

gets : (entries : List Entry) (old new : RecordNow) → AllByRecursion BringsNoSocket entries → GetsEntries entries old new → new.core.facts ≡ old.core.facts → GoesOn old new
gets entries old new none e f = by_these old new entries (ap (λ r. r.journal) e) f none

pub plans : (next : Option PlanStep) (answer : Result (Unit {0}) memory.NoMemory) (now : ℕ) (old new : RecordNow) → PlansAs next answer now old new → GoesOn old new
plans (Some (step.Post m)) (Ok _) now old new e = by_these old new _ (ap (λ r. r.journal) e) (ap (λ r. r.core.facts) e) (tt, tt)
plans (Some (step.Post m)) (Err _) now old new e = same old new (ap (λ r. r.journal) e) (ap (λ r. r.core.facts) e)
plans (Some step.Dial) (Ok _) now old new e = by_these old new _ (ap (λ r. r.journal) e) (ap (λ r. r.core.facts) e) (tt, tt)
plans (Some step.Dial) (Err _) now old new e = elim e [ ]
plans (Some step.Down) (Ok _) now old new e = goes_down true old new e
plans (Some step.Down) (Err _) now old new e = elim e [ ]
plans None answer now old new (_, e) = goes_down false old new e

hands : (answer : Stepped) (old new : RecordNow) → HandsAs answer old new → GoesOn old new
hands (stepped.Hand x) old new (_, e) = same old new (ap (λ r. r.journal) e) (ap (λ r. r.core.facts) e)
hands stepped.Moved old new e = elim e [ ]
hands stepped.Dry old new e = elim e [ ]
hands (stepped.Full stage held) old new e = elim e [ ]
hands (stepped.Again stage seen now) old new e = elim e [ ]
hands stepped.Spent old new e = elim e [ ]
hands (stepped.Faulted f) old new e = elim e [ ]
hands stepped.NoMemory old new e = elim e [ ]

writes : (answer : FeedWrite) (now : ℕ) (old new : RecordNow) → Writes answer now old new → GoesOn old new
writes answer now old new w =
    chain old w.mid new
    (by_these old w.mid (wrote_entries answer old.core.live.feed) (ap (λ r. r.journal) w.once.only) (ap (λ c. c.facts) w.once.core.only) (wrote answer old.core.live.feed))
    (closes (fault_put answer) now w.mid new w.closes)

greets : (answer : HalfStep) (now : ℕ) (old new : RecordNow) → Greets answer now old new → GoesOn old new
greets (half.Fault f) now old new (mid, (h, e), b) = chain old mid new (core_alone old mid e (ap (λ c. c.facts) h.only)) (breaks now mid new b)
greets half.NotYet now old new (h, e) = core_alone old new e (ap (λ c. c.facts) h.only)
greets half.Wrote now old new (h, e) = core_alone old new e (ap (λ c. c.facts) h.only)
greets half.Authed now old new (h, e) = core_alone old new e (ap (λ c. c.facts) h.only)
greets half.NoMemory now old new (h, e) = core_alone old new e (ap (λ c. c.facts) h.only)

frames : (t : Throttled) (answer : Framed) (now : ℕ) (old new : RecordNow) → Frames t answer now old new → GoesOn old new
frames t (framed.Half answer) now old new g = greets answer now old new g
frames t framed.Passed now old new (h, e) = core_alone old new e (front_facts t next.Passed old.core new.core h)
frames t framed.Granted now old new (h, e) = core_alone old new e (front_facts t next.Granted old.core new.core h)
frames t (framed.Acked number) now old new (h, e) = gets _ old new (tt, tt) e (front_facts t (next.Acked number) old.core new.core h)
frames t (framed.Accepted number) now old new (a, _, h, e) = by_these old new _ (ap (λ r. r.journal) e) (front_facts t (next.Accepted a) old.core new.core h) (tt, tt)
frames t (framed.Obeyed full) now old new (mid, (_, first), (h, second)) =
    chain old mid new (room_alone old mid first) (by_these mid new _ (ap (λ r. r.journal) second) (ap (λ c. c.facts) h.only) (tt, tt))
frames t (framed.Faulted cause) now old new (_, e) = breaks now old new e
frames t (framed.Full stage out) now old new (h, e) = core_alone old new e (front_facts t (next.Full stage out) old.core new.core h)
frames t (framed.Again stage seen at) now old new (h, e) = core_alone old new e (front_facts t (next.Again stage seen at) old.core new.core h)
frames t framed.NoMemory now old new (_, e) = room_alone old new e

pub counts_on : (old new : RecordNow) → CountsResumption old new → GoesOn old new
counts_on old new (h, e) = gets _ old new (counted (to_count old.core.live)) e (counted_facts (to_count old.core.live) old.core new.core h)

counts_answer : (h : Option Heard) (old new : RecordNow) → CountsAnswer h old new → GoesOn old new
counts_answer (Some (answer.ReconnectOk seen)) old new c = counts_on old new c
counts_answer (Some (answer.ServerIdent cookie global)) old new e = same old new (ap (λ r. r.journal) e) (ap (λ r. r.core.facts) e)
counts_answer (Some (answer.Retry number)) old new e = same old new (ap (λ r. r.journal) e) (ap (λ r. r.core.facts) e)
counts_answer (Some (answer.RetryGlobal number)) old new e = same old new (ap (λ r. r.journal) e) (ap (λ r. r.core.facts) e)
counts_answer (Some (answer.Reset full)) old new e = same old new (ap (λ r. r.journal) e) (ap (λ r. r.core.facts) e)
counts_answer (Some (answer.Refused f)) old new e = same old new (ap (λ r. r.journal) e) (ap (λ r. r.core.facts) e)
counts_answer (Some answer.Wait) old new e = same old new (ap (λ r. r.journal) e) (ap (λ r. r.core.facts) e)
counts_answer None old new e = same old new (ap (λ r. r.journal) e) (ap (λ r. r.core.facts) e)

ends_read : (cause : Option WireFault) (h : Option Heard) (now : ℕ) (old new : RecordNow) → EndsRead cause h now old new → GoesOn old new
ends_read (Some f) h now old new e = breaks now old new e
ends_read None h now old new c = counts_answer h old new c

reads_on : (x : _) (now : ℕ) (old new : RecordNow) → Reads x now old new → GoesOn old new
reads_on x now old new r =
    chain old r.mid new
    (by_these old r.mid (read_entries x.answer old.core.live.feed ++ closed_entries r.once.closed)
    (ap (λ r. r.journal) r.once.only ∙ append_assoc old.journal (read_entries x.answer old.core.live.feed) (closed_entries r.once.closed))
    (ap (λ c. c.facts) r.once.core.only)
    (both (read_entries x.answer old.core.live.feed) (closed_entries r.once.closed) (was_read x.answer old.core.live.feed) (closed r.once.closed)))
    (ends_read (fault_read x) x.heard now r.mid new r.ends)

asks_on : (answer : CoreAsk) (old new : RecordNow) → LeavesAsk answer old.core new.core → GetsEntries (asked_entries answer) old new → GoesOn old new
asks_on answer old new left e = gets (asked_entries answer) old new (asked answer) e (ask_facts answer old.core new.core left)

composes : (t : CoreText) (answer : Composed) (old new : RecordNow) → ComposesAs t answer old new → GoesOn old new
composes text.Ask (composed.Asked by_ident number) old new (_, left, e) = asks_on (ask.Asked by_ident number) old new left e
composes text.Ask composed.Spent old new (_, left, e) = asks_on ask.Spent old new left e
composes text.Ask (composed.Again seen now) old new (_, left, e) = asks_on (ask.Again seen now) old new left e
composes text.Ask composed.NoMemory old new (_, left, e) = asks_on ask.NoMemory old new left e
composes text.KeepaliveAnswer composed.Answered old new (h, e) = core_alone old new e (ap (λ c. c.facts) h.only)
composes text.KeepaliveAnswer composed.NoMemory old new (h, e) = core_alone old new e (ap (λ c. c.facts) h.only)
composes text.Message (composed.Numbered number) old new (h, e) = gets _ old new (tt, tt) e (ap (λ c. c.facts) h.only)
composes text.Message composed.NoMemory old new (h, e) = gets _ old new tt e (ap (λ c. c.facts) h.only)
composes text.Acknowledgement composed.Acknowledged old new (h, e) = core_alone old new e (ap (λ c. c.facts) h.only)
composes text.Acknowledgement composed.NoMemory old new (h, e) = core_alone old new e (ap (λ c. c.facts) h.only)
composes _ _ old new e = elim e [ ]

composes_next : (t : Option CoreText) (answer : Composed) (old new : RecordNow) → IfSome t (λ c. ComposesAs c answer old new) → IsSome t → GoesOn old new
composes_next (Some c) answer old new e _ = composes c answer old new e
composes_next None c old new e some = absurd (true≢false (sym some))

by_due : (d : Due) (w : Worked) (old new : RecordNow) → (d ≡ due.Compose → IsSome (to_compose old.core)) → StepsBy d w old new → GoesOn old new
by_due due.Nothing w old new _ r = same old new (ap (λ r. r.journal) r.only) (ap (λ r. r.core.facts) r.only)
by_due (due.Connect at) w old new _ r = same old new (ap (λ r. r.journal) r.only) (ap (λ r. r.core.facts) r.only)
by_due due.Plan w old new _ r = plans (next_step old) r.taken w.now old new r.plans
by_due due.Hand w old new _ r = hands w.answer old new r.hands
by_due due.Write w old new _ r = writes r.put w.now old new r.writes
by_due due.Frame w old new _ r = frames w.bytes r.framed w.now old new r.frames
by_due due.Read w old new _ r = reads_on r.read w.now old new r.reads
by_due due.Compose w old new some r = composes_next (to_compose old.core) r.composed old new r.composes (some refl)

-- ---- a step

abbrev is_compose : Due → Bool
is_compose due.Compose = true
is_compose _ = false

composes_last : (a b c d e f g : Bool) (at : ℕ) → is_compose (if a then due.Plan else (if b then due.Hand else (if c then due.Connect at else (if d then due.Write else (if e then due.Frame else (if f then due.Read else (if g then due.Compose else due.Nothing))))))) ≡ true → g ≡ true
composes_last true b c d e f g at h = absurd (true≢false (sym h))
composes_last false true c d e f g at h = absurd (true≢false (sym h))
composes_last false false true d e f g at h = absurd (true≢false (sym h))
composes_last false false false true e f g at h = absurd (true≢false (sym h))
composes_last false false false false true f g at h = absurd (true≢false (sym h))
composes_last false false false false false true g at h = absurd (true≢false (sym h))
composes_last false false false false false false true at h = refl
composes_last false false false false false false false at h = absurd (true≢false (sym h))

pub to_be_composed : (now : ℕ) (r : RecordNow) → due_step now r ≡ due.Compose → IsSome (to_compose r.core)
to_be_composed now r e =
    composes_last (has_plan r) (has_parcel r.parcels) (may_connect now r) (may_write r) (has_frame r) (may_read r) (may_compose r) r.waits.next_dial (ap is_compose e)

takes_due : (w : Worked) (old mid new : RecordNow) → IsSameButRoom old mid → TakesDue w mid new → GoesOn old new
takes_due w old mid new room due = chain old mid new (room_alone old mid room) (by_due (due_step w.now mid) w mid new (to_be_composed w.now mid) due)

pub steps : (answer : Stepped) (w : Worked) (old new : RecordNow) → StepsAs answer w old new → GoesOn old new
steps stepped.NoMemory w old new n = same old new (ap (λ r. r.journal) n.nothing.only) (ap (λ r. r.core.facts) n.nothing.only)
steps stepped.Moved w old new (mid, room, due) = takes_due w old mid new room due
steps (stepped.Hand x) w old new (mid, room, due) = takes_due w old mid new room due
steps stepped.Dry w old new (mid, room, due) = takes_due w old mid new room due
steps (stepped.Full stage held) w old new (mid, room, due) = takes_due w old mid new room due
steps (stepped.Again stage seen now) w old new (mid, room, due) = takes_due w old mid new room due
steps stepped.Spent w old new (mid, room, due) = takes_due w old mid new room due
steps (stepped.Faulted f) w old new (mid, room, due) = takes_due w old mid new room due
