-- How many parcels a record has handed out: one more where a step hands one out, and else as many.
use Rattle.std.proofs.Common.{◌≡◌, ℕ, ◌+◌, ◌∷◌, Option, Some, None, Result, Ok, Err, IfSome, IsSome, true≢false, refl, sym, ap, subst, ◌∙◌}
use Rattle.m2_bytes.specs.declared.memory.NoMemory as memory
use Rattle.m2_record.specs.m2_core.declared.to_compose.CoreText.{CoreText}
use Rattle.m2_record.specs.m2_core.declared.to_compose.CoreText.TheVariants as text
use Rattle.m2_record.specs.m2_core.Granting.{Throttled}
use Rattle.m2_record.specs.m2_core.ToCompose.{to_compose}
use Rattle.m2_dispatch.specs.declared.parcel.Parcel.{Parcel}
use Rattle.m2_fabric.specs.declared.end.EndRead.{EndRead}
use Rattle.m2_fabric.specs.declared.end.EndRead.TheVariants as read
use Rattle.m2_feed.specs.declared.answers.FeedWrite.{FeedWrite}
use Rattle.m2_feed.specs.declared.answers.FeedWrite.TheVariants as put
use Rattle.m2_handshake.specs.declared.answer.HalfStep.{HalfStep}
use Rattle.m2_handshake.specs.declared.answer.HalfStep.TheVariants as half
use Rattle.m2_feed.specs.declared.wire_fault.WireFault.{WireFault}
use Rattle.m2_feed.specs.declared.heard.Heard.{Heard}
use Rattle.m2_feed.specs.declared.heard.Heard.TheVariants as heard
use Rattle.m2_feed.specs.m2_journal.declared.facts.PlanStep.{PlanStep}
use Rattle.m2_feed.specs.m2_journal.declared.facts.PlanStep.TheVariants as step
use Rattle.m2_record.specs.declared.composing.Composed.{Composed}
use Rattle.m2_record.specs.declared.composing.Composed.TheVariants as composed
use Rattle.m2_record.specs.declared.due.Due.{Due}
use Rattle.m2_record.specs.declared.due.Due.TheVariants as due
use Rattle.m2_record.specs.declared.framing.Framed.{Framed}
use Rattle.m2_record.specs.declared.framing.Framed.TheVariants as framed
use Rattle.m2_record.specs.declared.stepped.Stepped.{Stepped}
use Rattle.m2_record.specs.declared.stepped.Stepped.TheVariants as stepped
use Rattle.m2_record.specs.Calls.{ClosesFor, ComposesAs, HandsOut, IsSameButRoom, Writes, fault_put}
use Rattle.m2_record.specs.Due.{due_step, next_step}
use Rattle.m2_record.specs.Framing.{Frames, Greets}
use Rattle.m2_record.specs.Reading.{Reads, answer_by, answer_heard, answer_read, fault_read, faulted_or, CountsAnswer, EndsRead}
use Rattle.m2_record.specs.RecordNow.{RecordNow}
use Rattle.m2_record.specs.Stepping.{HandsAs, PlansAs, StepsAs, StepsBy, TakesDue, Worked, answer_composed, answer_framed, answer_planned, answer_put}
use Rattle.m2_turn.proofs.GoesOn.{to_be_composed}

-- it has handed out as many
abbrev pub HandsNone : RecordNow → RecordNow → Type 0
HandsNone old new = new.handed ≡ old.handed

-- ---- answers that hand nothing out

abbrev pub IsHandless : Stepped → Type 0
IsHandless (stepped.Hand x) = ⊥
IsHandless _ = Unit {0}

planned_none : (answer : Result (Unit {0}) memory.NoMemory) → IsHandless (answer_planned answer)
planned_none (Ok u) = tt
planned_none (Err u) = tt

put_none : (answer : FeedWrite) → IsHandless (answer_put answer)
put_none (put.Put n acknowledged) = tt
put_none put.NotYet = tt
put_none put.Failed = tt
put_none put.NoMemory = tt

half_none : (answer : HalfStep) → IsHandless (answer_framed (framed.Half answer))
half_none (half.Fault e) = tt
half_none half.NoMemory = tt
half_none half.NotYet = tt
half_none half.Wrote = tt
half_none half.Authed = tt

framed_none : (answer : Framed) → IsHandless (answer_framed answer)
framed_none (framed.Half answer) = half_none answer
framed_none framed.Passed = tt
framed_none framed.Granted = tt
framed_none (framed.Acked number) = tt
framed_none (framed.Accepted number) = tt
framed_none (framed.Obeyed full) = tt
framed_none (framed.Faulted cause) = tt
framed_none (framed.Full stage held) = tt
framed_none (framed.Again stage seen now) = tt
framed_none framed.NoMemory = tt

heard_none : (h : Option Heard) → IsHandless (answer_heard h)
heard_none (Some heard.Wait) = tt
heard_none (Some _) = tt
heard_none None = tt

faulted_none : (o : Option WireFault) (answer : Stepped) → IsHandless answer → IsHandless (faulted_or o answer)
faulted_none (Some f) answer none = tt
faulted_none None answer none = none

by_none : (answer : EndRead) (h : Option Heard) → IsHandless (answer_by answer h)
by_none (read.Got n) h = heard_none h
by_none read.NotYet h = tt
by_none read.Ended h = tt
by_none read.Failed h = tt
by_none read.NoMemory h = tt

read_none : (x : _) → IsHandless (answer_read x)
read_none x = faulted_none (fault_read x) (answer_by x.answer x.heard) (by_none x.answer x.heard)

composed_none : (answer : Composed) → IsHandless (answer_composed answer)
composed_none (composed.Asked by_ident number) = tt
composed_none composed.Spent = tt
composed_none (composed.Again seen now) = tt
composed_none composed.NoMemory = tt
composed_none composed.Answered = tt
composed_none (composed.Numbered number) = tt
composed_none composed.Acknowledged = tt

-- ---- the rows of the table

closes : (cause : Option WireFault) (now : ℕ) (old new : RecordNow) → ClosesFor cause now old new → HandsNone old new
closes (Some f) now old new e = ap (λ r. r.handed) e
closes None now old new e = ap (λ r. r.handed) e

pub plans : (next : Option PlanStep) (answer : Result (Unit {0}) memory.NoMemory) (now : ℕ) (old new : RecordNow) → PlansAs next answer now old new → HandsNone old new
plans (Some (step.Post m)) (Ok _) now old new e = ap (λ r. r.handed) e
plans (Some (step.Post m)) (Err _) now old new e = ap (λ r. r.handed) e
plans (Some step.Dial) (Ok _) now old new e = ap (λ r. r.handed) e
plans (Some step.Dial) (Err _) now old new e = elim e [ ]
plans (Some step.Down) (Ok _) now old new e = ap (λ r. r.handed) e
plans (Some step.Down) (Err _) now old new e = elim e [ ]
plans None answer now old new (_, e) = ap (λ r. r.handed) e

writes : (answer : FeedWrite) (now : ℕ) (old new : RecordNow) → Writes answer now old new → HandsNone old new
writes answer now old new w = closes (fault_put answer) now w.mid new w.closes ∙ ap (λ r. r.handed) w.once.only

greets : (answer : HalfStep) (now : ℕ) (old new : RecordNow) → Greets answer now old new → HandsNone old new
greets (half.Fault f) now old new (mid, (h, e), b) = ap (λ r. r.handed) b ∙ ap (λ r. r.handed) e
greets half.NotYet now old new (h, e) = ap (λ r. r.handed) e
greets half.Wrote now old new (h, e) = ap (λ r. r.handed) e
greets half.Authed now old new (h, e) = ap (λ r. r.handed) e
greets half.NoMemory now old new (h, e) = ap (λ r. r.handed) e

frames : (t : Throttled) (answer : Framed) (now : ℕ) (old new : RecordNow) → Frames t answer now old new → HandsNone old new
frames t (framed.Half answer) now old new g = greets answer now old new g
frames t framed.Passed now old new (h, e) = ap (λ r. r.handed) e
frames t framed.Granted now old new (h, e) = ap (λ r. r.handed) e
frames t (framed.Acked number) now old new (h, e) = ap (λ r. r.handed) e
frames t (framed.Accepted number) now old new (a, _, h, e) = ap (λ r. r.handed) e
frames t (framed.Obeyed full) now old new (mid, (_, first), (h, second)) = ap (λ r. r.handed) second ∙ ap (λ r. r.handed) first
frames t (framed.Faulted cause) now old new (_, e) = ap (λ r. r.handed) e
frames t (framed.Full stage out) now old new (_, e) = ap (λ r. r.handed) e
frames t (framed.Again stage seen at) now old new (_, e) = ap (λ r. r.handed) e
frames t framed.NoMemory now old new (_, e) = ap (λ r. r.handed) e

counts_answer : (h : Option Heard) (old new : RecordNow) → CountsAnswer h old new → HandsNone old new
counts_answer (Some (heard.ReconnectOk seen)) old new c = ap (λ r. r.handed) c.1
counts_answer (Some (heard.ServerIdent cookie global)) old new e = ap (λ r. r.handed) e
counts_answer (Some (heard.Retry number)) old new e = ap (λ r. r.handed) e
counts_answer (Some (heard.RetryGlobal number)) old new e = ap (λ r. r.handed) e
counts_answer (Some (heard.Reset full)) old new e = ap (λ r. r.handed) e
counts_answer (Some (heard.Refused f)) old new e = ap (λ r. r.handed) e
counts_answer (Some heard.Wait) old new e = ap (λ r. r.handed) e
counts_answer None old new e = ap (λ r. r.handed) e

ends_read : (cause : Option WireFault) (h : Option Heard) (now : ℕ) (old new : RecordNow) → EndsRead cause h now old new → HandsNone old new
ends_read (Some f) h now old new e = ap (λ r. r.handed) e
ends_read None h now old new c = counts_answer h old new c

reads_on : (x : _) (now : ℕ) (old new : RecordNow) → Reads x now old new → HandsNone old new
reads_on x now old new r = ends_read (fault_read x) x.heard now r.mid new r.ends ∙ ap (λ r. r.handed) r.once.only

composes : (t : CoreText) (answer : Composed) (old new : RecordNow) → ComposesAs t answer old new → HandsNone old new
composes text.Ask (composed.Asked by_ident number) old new (_, left, e) = ap (λ r. r.handed) e
composes text.Ask composed.Spent old new (_, left, e) = ap (λ r. r.handed) e
composes text.Ask (composed.Again seen now) old new (_, left, e) = ap (λ r. r.handed) e
composes text.Ask composed.NoMemory old new (_, left, e) = ap (λ r. r.handed) e
composes text.KeepaliveAnswer composed.Answered old new (h, e) = ap (λ r. r.handed) e
composes text.KeepaliveAnswer composed.NoMemory old new (h, e) = ap (λ r. r.handed) e
composes text.Message (composed.Numbered number) old new (h, e) = ap (λ r. r.handed) e
composes text.Message composed.NoMemory old new (h, e) = ap (λ r. r.handed) e
composes text.Acknowledgement composed.Acknowledged old new (h, e) = ap (λ r. r.handed) e
composes text.Acknowledgement composed.NoMemory old new (h, e) = ap (λ r. r.handed) e
composes _ _ old new e = elim e [ ]

composes_next : (t : Option CoreText) (answer : Composed) (old new : RecordNow) → IfSome t (λ c. ComposesAs c answer old new) → IsSome t → HandsNone old new
composes_next (Some c) answer old new e _ = composes c answer old new e
composes_next None c old new e some = absurd (true≢false (sym some))

-- ---- a step, by its answer

abbrev pub HandsBy : Stepped → RecordNow → RecordNow → Type 0
HandsBy (stepped.Hand x) old new = HandsOut (Some x) old new
HandsBy _ old new = HandsNone old new

none_by : (answer : Stepped) (old new : RecordNow) → IsHandless answer → HandsNone old new → HandsBy answer old new
none_by (stepped.Hand x) old new none e = absurd none
none_by stepped.Moved old new none e = e
none_by stepped.Dry old new none e = e
none_by (stepped.Full stage held) old new none e = e
none_by (stepped.Again stage seen now) old new none e = e
none_by stepped.Spent old new none e = e
none_by (stepped.Faulted f) old new none e = e
none_by stepped.NoMemory old new none e = e

hands : (answer : Stepped) (old new : RecordNow) → HandsAs answer old new → HandsBy answer old new
hands (stepped.Hand x) old new h = h
hands stepped.Moved old new e = elim e [ ]
hands stepped.Dry old new e = elim e [ ]
hands (stepped.Full stage held) old new e = elim e [ ]
hands (stepped.Again stage seen now) old new e = elim e [ ]
hands stepped.Spent old new e = elim e [ ]
hands (stepped.Faulted f) old new e = elim e [ ]
hands stepped.NoMemory old new e = elim e [ ]

so : (answer is : Stepped) (old new : RecordNow) → answer ≡ is → IsHandless is → HandsNone old new → HandsBy answer old new
so answer is old new e none h = none_by answer old new (subst IsHandless (sym e) none) h

by_due : (d : Due) (w : Worked) (old new : RecordNow) → (d ≡ due.Compose → IsSome (to_compose old.core)) → StepsBy d w old new → HandsBy w.answer old new
by_due due.Nothing w old new _ r = so w.answer stepped.Dry old new r.answers tt (ap (λ r. r.handed) r.only)
by_due (due.Connect at) w old new _ r = so w.answer stepped.Dry old new r.answers tt (ap (λ r. r.handed) r.only)
by_due due.Plan w old new _ r = so w.answer (answer_planned r.taken) old new r.answers (planned_none r.taken) (plans (next_step old) r.taken w.now old new r.plans)
by_due due.Hand w old new _ r = hands w.answer old new r.hands
by_due due.Write w old new _ r = so w.answer (answer_put r.put) old new r.answers (put_none r.put) (writes r.put w.now old new r.writes)
by_due due.Frame w old new _ r = so w.answer (answer_framed r.framed) old new r.answers (framed_none r.framed) (frames w.bytes r.framed w.now old new r.frames)
by_due due.Read w old new _ r = so w.answer (answer_read r.read) old new r.answers (read_none r.read) (reads_on r.read w.now old new r.reads)
by_due due.Compose w old new some r = so w.answer (answer_composed r.composed) old new r.answers (composed_none r.composed) (composes_next (to_compose old.core) r.composed old new r.composes (some refl))

-- what a step hands out is the first parcel that was ready, and nothing else changes
pub record HandsFirst (x : Parcel) (old new : RecordNow) : Type 0 where
  pub first : old.parcels ≡ x ∷ new.parcels
  pub only : new ≡ record old { parcels = new.parcels; handed = old.handed + 1; room = new.room }

abbrev pub StepHands : Stepped → RecordNow → RecordNow → Type 0
StepHands (stepped.Hand x) old new = HandsFirst x old new
StepHands _ old new = HandsNone old new

-- behind room that was made
takes_due : (answer : Stepped) (w : Worked) (old mid new : RecordNow) → w.answer ≡ answer → IsSameButRoom old mid → TakesDue w mid new → HandsBy answer mid new
takes_due answer w old mid new e room due = subst (λ a. HandsBy a mid new) e (by_due (due_step w.now mid) w mid new (to_be_composed w.now mid) due)

pub steps : (answer : Stepped) (w : Worked) (old new : RecordNow) → w.answer ≡ answer → StepsAs answer w old new → StepHands answer old new
steps stepped.NoMemory w old new e n = ap (λ r. r.handed) n.nothing.only
steps (stepped.Hand x) w old new e (mid, room, due) =
    let h = takes_due (stepped.Hand x) w old mid new e room due in
    record {
      first = sym (ap (λ r. r.parcels) room) ∙ h.0;
      only = h.1 ∙ ap (λ (m : RecordNow). record m { parcels = new.parcels; handed = m.handed + 1; room = new.room }) room;
    }
steps stepped.Moved w old new e (mid, room, due) = takes_due stepped.Moved w old mid new e room due ∙ ap (λ r. r.handed) room
steps stepped.Dry w old new e (mid, room, due) = takes_due stepped.Dry w old mid new e room due ∙ ap (λ r. r.handed) room
steps (stepped.Full stage held) w old new e (mid, room, due) = takes_due (stepped.Full stage held) w old mid new e room due ∙ ap (λ r. r.handed) room
steps (stepped.Again stage seen now) w old new e (mid, room, due) = takes_due (stepped.Again stage seen now) w old mid new e room due ∙ ap (λ r. r.handed) room
steps stepped.Spent w old new e (mid, room, due) = takes_due stepped.Spent w old mid new e room due ∙ ap (λ r. r.handed) room
steps (stepped.Faulted f) w old new e (mid, room, due) = takes_due (stepped.Faulted f) w old mid new e room due ∙ ap (λ r. r.handed) room
