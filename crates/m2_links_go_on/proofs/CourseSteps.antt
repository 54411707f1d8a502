-- A step of a record: what becomes of its last moment and its waits; its peer, its plan and what it missed stay.
use Rattle.std.proofs.Common.{◌≡◌, inl, ℕ, Bool, true, false, List, [], ◌∷◌, ◌++◌, Option, Some, None, Result, Ok, Err, IfSome, IsSome, true≢false, refl, sym, ap, subst, ◌∙◌, append_assoc}
use Rattle.m2_fabric.specs.m2_bytes.declared.memory.NoMemory as memory
use Rattle.m2_fabric.specs.declared.end.EndRead.{EndRead}
use Rattle.m2_fabric.specs.declared.end.EndRead.TheVariants as read
use Rattle.m2_fabric.specs.End.{SeenEnd}
use Rattle.m2_cluster.specs.m2_center.m2_core.declared.asking.CoreAsk.{CoreAsk}
use Rattle.m2_cluster.specs.m2_center.m2_core.declared.asking.CoreAsk.TheVariants as ask
use Rattle.m2_cluster.specs.m2_center.m2_core.declared.to_compose.CoreText.{CoreText}
use Rattle.m2_cluster.specs.m2_center.m2_core.declared.to_compose.CoreText.TheVariants as text
use Rattle.m2_cluster.specs.m2_center.m2_core.Counting.{to_count}
use Rattle.m2_cluster.specs.m2_center.m2_core.Granting.{Throttled}
use Rattle.m2_cluster.specs.m2_center.m2_core.LiveCalls.{after_fault}
use Rattle.m2_cluster.specs.m2_center.m2_core.ToCompose.{to_compose}
use Rattle.m2_cluster.specs.m2_center.m2_core.declared.waits.Waits.{Waits}
use Rattle.m2_cluster.specs.m2_center.m2_feed.declared.answers.FeedWrite.{FeedWrite}
use Rattle.m2_cluster.specs.m2_center.m2_feed.declared.answers.FeedWrite.TheVariants as put
use Rattle.m2_cluster.specs.m2_center.m2_feed.FeedNow.{FeedNow}
use Rattle.m2_cluster.specs.m2_center.m2_feed.declared.wire_fault.WireFault.{WireFault}
use Rattle.m2_cluster.specs.m2_center.m2_feed.declared.heard.Heard.{Heard}
use Rattle.m2_cluster.specs.m2_center.m2_feed.declared.heard.Heard.TheVariants as answer
use Rattle.m2_cluster.specs.m2_center.m2_feed.m2_handshake.declared.answer.HalfStep.{HalfStep}
use Rattle.m2_cluster.specs.m2_center.m2_feed.m2_handshake.declared.answer.HalfStep.TheVariants as half
use Rattle.m2_cluster.specs.m2_center.m2_feed.m2_journal.declared.entry.Entry.{Entry}
use Rattle.m2_cluster.specs.m2_center.m2_feed.m2_journal.declared.entry.Entry.TheVariants as entry
use Rattle.m2_cluster.specs.m2_center.m2_feed.m2_journal.declared.facts.NodeFacts.{NodeFacts}
use Rattle.m2_cluster.specs.m2_center.m2_feed.m2_journal.declared.facts.PlanStep.{PlanStep}
use Rattle.m2_cluster.specs.m2_center.m2_feed.m2_journal.declared.facts.PlanStep.TheVariants as step
use Rattle.m2_cluster.specs.m2_center.m2_feed.m2_session.declared.session.Phase.{Phase}
use Rattle.m2_cluster.specs.m2_center.m2_record.declared.composing.Composed.{Composed}
use Rattle.m2_cluster.specs.m2_center.m2_record.declared.composing.Composed.TheVariants as composed
use Rattle.m2_cluster.specs.m2_center.m2_record.declared.due.Due.{Due}
use Rattle.m2_cluster.specs.m2_center.m2_record.declared.due.Due.TheVariants as due
use Rattle.m2_cluster.specs.m2_center.m2_record.declared.framing.Framed.{Framed}
use Rattle.m2_cluster.specs.m2_center.m2_record.declared.framing.Framed.TheVariants as framed
use Rattle.m2_cluster.specs.m2_center.m2_record.declared.stepped.Stepped.{Stepped}
use Rattle.m2_cluster.specs.m2_center.m2_record.declared.stepped.Stepped.TheVariants as stepped
use Rattle.m2_cluster.specs.m2_center.m2_record.Calls.{Breaks, ChangesCore, ClosesFor, ComposesAs, CountsResumption, GetsEntries, GoesDown, IsSameButRoom, Writes, WritesFeedOnce, acked_entries, asked_entries, closed_entries, fault_put}
use Rattle.m2_cluster.specs.m2_center.m2_record.Due.{due_step, next_step}
use Rattle.m2_cluster.specs.m2_center.m2_record.Framing.{Frames, Greets}
use Rattle.m2_cluster.specs.m2_center.m2_record.Reading.{CountsAnswer, EndsRead, Reads, fault_read, moment_read, read_entries, waits_read}
use Rattle.m2_cluster.specs.m2_center.m2_record.RecordNow.{RecordNow}
use Rattle.m2_cluster.specs.m2_center.m2_record.Stepping.{HandsAs, PlansAs, StepsAs, StepsBy, TakesDue, Worked}
use Rattle.m2_cluster.proofs.m2_center.m2_turn.GoesOn as journals
use Rattle.m2_cluster.proofs.m2_center.m2_turn.GoesOn.{to_be_composed}
use Rattle.m2_links_go_on.proofs.CourseMoving.{Beats, LastGoes, SideGoes, WaitsGo, WaitsInTime, beats_calm, beats_chain, beats_same, calm_of, goes_by, goes_stepped, is_moved, last_still, steady_of}

-- ---- entries that aren't productive

pub closed : (end : Option SeenEnd) → is_moved (closed_entries end) ≡ false
closed (Some e) = refl
closed None = refl

asked : (answer : CoreAsk) → is_moved (asked_entries answer) ≡ false
asked (ask.Asked by_ident number) = refl
asked ask.Spent = refl
asked (ask.Again seen now) = refl
asked ask.NoMemory = refl

counted : (n : Option ℕ) → is_moved (acked_entries n) ≡ false
counted (Some number) = refl
counted None = refl

-- ---- the rows of the table

breaks : (now : ℕ) (old new : RecordNow) → Breaks now old new → Beats now old new
breaks now old new e = record {
  steady = ap steady_of e;
  last = last_still now old new _ (ap (λ r. r.last) e) (ap (λ r. r.journal) e) (closed _);
  waits = λ h. subst (WaitsInTime now old.core.facts.node) (sym (ap (λ r. r.waits) e))
      (goes_stepped now old.core.facts.node old.core.live.session.phase (after_fault old.core.live).session.phase old.waits h);
}

closes : (cause : Option WireFault) (now : ℕ) (old new : RecordNow) → ClosesFor cause now old new → Beats now old new
closes (Some f) now old new e = breaks now old new e
closes None now old new e = beats_same now old new (ap calm_of e) (ap (λ r. r.journal) e)

goes_down : (planned : Bool) (now : ℕ) (old new : RecordNow) → GoesDown planned old new → Beats now old new
goes_down planned now old new e =
    beats_calm now old new (entry.Down planned ∷ closed_entries _) (ap calm_of e) (ap (λ r. r.journal) e ∙ append_assoc old.journal (entry.Down planned ∷ []) (closed_entries _)) (closed _)

pub room_alone : (now : ℕ) (old new : RecordNow) → IsSameButRoom old new → Beats now old new
room_alone now old new e = beats_same now old new (ap calm_of e) (ap (λ r. r.journal) e)

core_alone : (now : ℕ) (old new : RecordNow) → ChangesCore old new → Beats now old new
core_alone now old new e = beats_same now old new (ap calm_of e) (ap (λ r. r.journal) e)

gets : (entries : List Entry) (now : ℕ) (old new : RecordNow) → is_moved entries ≡ false → GetsEntries entries old new → Beats now old new
gets entries now old new none e = beats_calm now old new entries (ap calm_of e) (ap (λ r. r.journal) e) none

plans : (next : Option PlanStep) (taken : Result (Unit {0}) memory.NoMemory) (now : ℕ) (old new : RecordNow) → PlansAs next taken now old new → Beats now old new
plans (Some (step.Post m)) (Ok _) now old new e = record {
  steady = ap steady_of e;
  last = inl (ap (λ r. r.last) e);
  waits = λ h. subst (WaitsInTime now old.core.facts.node) (sym (ap (λ r. r.waits) e)) h;
}
plans (Some (step.Post m)) (Err _) now old new e = beats_same now old new (ap calm_of e) (ap (λ r. r.journal) e)
plans (Some step.Dial) (Ok _) now old new e = beats_calm now old new (entry.Dial ∷ []) (ap calm_of e) (ap (λ r. r.journal) e) refl
plans (Some step.Dial) (Err _) now old new e = elim e [ ]
plans (Some step.Down) (Ok _) now old new e = goes_down true now old new e
plans (Some step.Down) (Err _) now old new e = elim e [ ]
plans None taken now old new (_, e) = goes_down false now old new e

hands : (answer : Stepped) (now : ℕ) (old new : RecordNow) → HandsAs answer old new → Beats now old new
hands (stepped.Hand x) now old new (_, e) = beats_same now old new (ap calm_of e) (ap (λ r. r.journal) e)
hands stepped.Moved now old new e = elim e [ ]
hands stepped.Dry now old new e = elim e [ ]
hands (stepped.Full stage held) now old new e = elim e [ ]
hands (stepped.Again stage seen at) now old new e = elim e [ ]
hands stepped.Spent now old new e = elim e [ ]
hands (stepped.Faulted f) now old new e = elim e [ ]
hands stepped.NoMemory now old new e = elim e [ ]

-- where bytes were put the moment is this one, and else there is no entry
wrote_last : (answer : FeedWrite) (now : ℕ) (old new : RecordNow) → WritesFeedOnce answer now old new → LastGoes now old new
wrote_last (put.Put n acknowledged) now old new w = inl (ap (λ r. r.last) w.only)
wrote_last put.NotYet now old new w = last_still now old new [] (ap (λ r. r.last) w.only) (ap (λ r. r.journal) w.only) refl
wrote_last put.Failed now old new w = last_still now old new [] (ap (λ r. r.last) w.only) (ap (λ r. r.journal) w.only) refl
wrote_last put.NoMemory now old new w = last_still now old new [] (ap (λ r. r.last) w.only) (ap (λ r. r.journal) w.only) refl

writes : (answer : FeedWrite) (now : ℕ) (old new : RecordNow) → Writes answer now old new → Beats now old new
writes answer now old new w =
    beats_chain now old w.mid new (ap (λ c. c.facts) w.once.core.only)
    (record {
      steady = ap steady_of w.once.only;
      last = wrote_last answer now old w.mid w.once;
      waits = λ h. subst (WaitsInTime now old.core.facts.node) (sym (ap (λ r. r.waits) w.once.only)) h;
    })
    (closes (fault_put answer) now w.mid new w.closes)

greets : (answer : HalfStep) (now : ℕ) (old new : RecordNow) → Greets answer now old new → Beats now old new
greets (half.Fault f) now old new (mid, (h, e), b) = beats_chain now old mid new (ap (λ c. c.facts) h.only) (core_alone now old mid e) (breaks now mid new b)
greets half.NotYet now old new (h, e) = core_alone now old new e
greets half.Wrote now old new (h, e) = core_alone now old new e
greets half.Authed now old new (h, e) = core_alone now old new e
greets half.NoMemory now old new (h, e) = core_alone now old new e

frames : (t : Throttled) (answer : Framed) (now : ℕ) (old new : RecordNow) → Frames t answer now old new → Beats now old new
frames t (framed.Half answer) now old new g = greets answer now old new g
frames t framed.Passed now old new (h, e) = core_alone now old new e
frames t framed.Granted now old new (h, e) = core_alone now old new e
frames t (framed.Acked number) now old new (h, e) = gets (entry.Acked number ∷ []) now old new refl e
frames t (framed.Accepted number) now old new (a, _, h, e) = record {
  steady = ap steady_of e;
  last = inl (ap (λ r. r.last) e);
  waits = λ h. subst (WaitsInTime now old.core.facts.node) (sym (ap (λ r. r.waits) e)) h;
}
frames t (framed.Obeyed full) now old new (mid, (_, first), (h, second)) =
    beats_chain now old mid new (ap (λ r. r.core.facts) first) (room_alone now old mid first)
    (beats_calm now mid new (entry.Obeyed full ∷ []) (ap calm_of second) (ap (λ r. r.journal) second) refl)
frames t (framed.Faulted cause) now old new (_, e) = breaks now old new e
frames t (framed.Full stage out) now old new (h, e) = core_alone now old new e
frames t (framed.Again stage seen at) now old new (h, e) = core_alone now old new e
frames t framed.NoMemory now old new (_, e) = room_alone now old new e

pub counts_on : (now : ℕ) (old new : RecordNow) → CountsResumption old new → Beats now old new
counts_on now old new (h, e) = gets (acked_entries (to_count old.core.live)) now old new (counted (to_count old.core.live)) e

counts_answer : (h : Option Heard) (now : ℕ) (old new : RecordNow) → CountsAnswer h old new → Beats now old new
counts_answer (Some (answer.ReconnectOk seen)) now old new c = counts_on now old new c
counts_answer (Some (answer.ServerIdent cookie global)) now old new e = beats_same now old new (ap calm_of e) (ap (λ r. r.journal) e)
counts_answer (Some (answer.Retry number)) now old new e = beats_same now old new (ap calm_of e) (ap (λ r. r.journal) e)
counts_answer (Some (answer.RetryGlobal number)) now old new e = beats_same now old new (ap calm_of e) (ap (λ r. r.journal) e)
counts_answer (Some (answer.Reset full)) now old new e = beats_same now old new (ap calm_of e) (ap (λ r. r.journal) e)
counts_answer (Some (answer.Refused f)) now old new e = beats_same now old new (ap calm_of e) (ap (λ r. r.journal) e)
counts_answer (Some answer.Wait) now old new e = beats_same now old new (ap calm_of e) (ap (λ r. r.journal) e)
counts_answer None now old new e = beats_same now old new (ap calm_of e) (ap (λ r. r.journal) e)

ends_read : (cause : Option WireFault) (h : Option Heard) (now : ℕ) (old new : RecordNow) → EndsRead cause h now old new → Beats now old new
ends_read (Some f) h now old new e = breaks now old new e
ends_read None h now old new c = counts_answer h now old new c

-- where bytes came the moment is this one, and else there is no entry but of a feed that was closed
read_last : (a : EndRead) (feed : Option FeedNow) (end : Option SeenEnd) (now : ℕ) (old new : RecordNow) → new.last ≡ moment_read a now old.last →
    new.journal ≡ (old.journal ++ read_entries a feed) ++ closed_entries end → LastGoes now old new
read_last a feed end now old new last journal = at a last (journal ∙ append_assoc old.journal (read_entries a feed) (closed_entries end))
  where
    still : new.last ≡ old.last → new.journal ≡ old.journal ++ closed_entries end → LastGoes now old new
    still same j = last_still now old new (closed_entries end) same j (closed end)

    at : (b : EndRead) → new.last ≡ moment_read b now old.last → new.journal ≡ old.journal ++ (read_entries b feed ++ closed_entries end) → LastGoes now old new
    at (read.Got n) l j = inl l
    at read.NotYet l j = still l j
    at read.Ended l j = still l j
    at read.Failed l j = still l j
    at read.NoMemory l j = still l j

read_waits : (a : EndRead) (node : NodeFacts) (now : ℕ) (p q : Phase) (w : Waits) → WaitsGo now node w (waits_read a node now p q w)
read_waits (read.Got n) node now p q w = goes_stepped now node p q w
read_waits read.NotYet node now p q w = λ h. h
read_waits read.Ended node now p q w = λ h. h
read_waits read.Failed node now p q w = λ h. h
read_waits read.NoMemory node now p q w = λ h. h

reads_on : (x : _) (now : ℕ) (old new : RecordNow) → Reads x now old new → Beats now old new
reads_on x now old new r =
    beats_chain now old r.mid new (ap (λ c. c.facts) r.once.core.only)
    (record {
      steady = ap steady_of r.once.only;
      last = read_last x.answer old.core.live.feed r.once.closed now old r.mid (ap (λ r. r.last) r.once.only) (ap (λ r. r.journal) r.once.only);
      waits = λ h. subst (WaitsInTime now old.core.facts.node) (sym (ap (λ r. r.waits) r.once.only))
          (read_waits x.answer old.core.facts.node now old.core.live.session.phase r.mid.core.live.session.phase old.waits h);
    })
    (ends_read (fault_read x) x.heard now r.mid new r.ends)

asks_on : (answer : CoreAsk) (now : ℕ) (old new : RecordNow) → GetsEntries (asked_entries answer) old new → Beats now old new
asks_on answer now old new e = gets (asked_entries answer) now old new (asked answer) e

composes : (t : CoreText) (answer : Composed) (now : ℕ) (old new : RecordNow) → ComposesAs t answer old new → Beats now old new
composes text.Ask (composed.Asked by_ident number) now old new (_, left, e) = asks_on (ask.Asked by_ident number) now old new e
composes text.Ask composed.Spent now old new (_, left, e) = asks_on ask.Spent now old new e
composes text.Ask (composed.Again seen at) now old new (_, left, e) = asks_on (ask.Again seen at) now old new e
composes text.Ask composed.NoMemory now old new (_, left, e) = asks_on ask.NoMemory now old new e
composes text.KeepaliveAnswer composed.Answered now old new (h, e) = core_alone now old new e
composes text.KeepaliveAnswer composed.NoMemory now old new (h, e) = core_alone now old new e
composes text.Message (composed.Numbered number) now old new (h, e) = gets (entry.Numbered number ∷ []) now old new refl e
composes text.Message composed.NoMemory now old new (h, e) = gets [] now old new refl e
composes text.Acknowledgement composed.Acknowledged now old new (h, e) = core_alone now old new e
composes text.Acknowledgement composed.NoMemory now old new (h, e) = core_alone now old new e
composes _ _ now old new e = elim e [ ]

composes_next : (t : Option CoreText) (answer : Composed) (now : ℕ) (old new : RecordNow) → IfSome t (λ c. ComposesAs c answer old new) → IsSome t → Beats now old new
composes_next (Some c) answer now old new e _ = composes c answer now old new e
composes_next None c now old new e some = absurd (true≢false (sym some))

by_due : (d : Due) (w : Worked) (old new : RecordNow) → (d ≡ due.Compose → IsSome (to_compose old.core)) → StepsBy d w old new → Beats w.now old new
by_due due.Nothing w old new _ r = beats_same w.now old new (ap calm_of r.only) (ap (λ r. r.journal) r.only)
by_due (due.Connect at) w old new _ r = beats_same w.now old new (ap calm_of r.only) (ap (λ r. r.journal) r.only)
by_due due.Plan w old new _ r = plans (next_step old) r.taken w.now old new r.plans
by_due due.Hand w old new _ r = hands w.answer w.now old new r.hands
by_due due.Write w old new _ r = writes r.put w.now old new r.writes
by_due due.Frame w old new _ r = frames w.bytes r.framed w.now old new r.frames
by_due due.Read w old new _ r = reads_on r.read w.now old new r.reads
by_due due.Compose w old new some r = composes_next (to_compose old.core) r.composed w.now old new r.composes (some refl)

-- ---- a step

takes_due : (w : Worked) (old mid new : RecordNow) → IsSameButRoom old mid → TakesDue w mid new → Beats w.now old new
takes_due w old mid new room due =
    beats_chain w.now old mid new (ap (λ r. r.core.facts) room) (room_alone w.now old mid room) (by_due (due_step w.now mid) w mid new (to_be_composed w.now mid) due)

beats : (answer : Stepped) (w : Worked) (old new : RecordNow) → StepsAs answer w old new → Beats w.now old new
beats stepped.NoMemory w old new n = beats_same w.now old new (ap calm_of n.nothing.only) (ap (λ r. r.journal) n.nothing.only)
beats stepped.Moved w old new (mid, room, due) = takes_due w old mid new room due
beats (stepped.Hand x) w old new (mid, room, due) = takes_due w old mid new room due
beats stepped.Dry w old new (mid, room, due) = takes_due w old mid new room due
beats (stepped.Full stage held) w old new (mid, room, due) = takes_due w old mid new room due
beats (stepped.Again stage seen at) w old new (mid, room, due) = takes_due w old mid new room due
beats stepped.Spent w old new (mid, room, due) = takes_due w old mid new room due
beats (stepped.Faulted f) w old new (mid, room, due) = takes_due w old mid new room due

pub steps : (answer : Stepped) (w : Worked) (old new : RecordNow) → StepsAs answer w old new → SideGoes w.now old new
steps answer w old new s = goes_by w.now old new (journals.steps answer w old new s).facts (beats answer w old new s)
