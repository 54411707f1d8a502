-- A parcel that a step of a record hands out was granted by the throttle that owns what the record holds.
use Rattle.std.proofs.Common.{◌≡◌, Bool, true, false, List, ◌∷◌, Option, Some, None, Ok, Err, refl, sym, ap, subst, ◌∙◌}
use Rattle.std.specs.Prelude.{Result}
use Rattle.std.specs.List.{AllByRecursion}
use Rattle.m2_bytes.specs.declared.memory.NoMemory as memory
use Rattle.m2_dispatch.specs.declared.parcel.Parcel.{Parcel}
use Rattle.m2_dispatch.specs.Parcel.{IsOwned}
use Rattle.m2_fabric.specs.declared.end.EndRead.{EndRead}
use Rattle.m2_fabric.specs.declared.end.EndRead.TheVariants as read
use Rattle.m2_feed.specs.declared.answers.FeedWrite.{FeedWrite}
use Rattle.m2_feed.specs.declared.answers.FeedWrite.TheVariants as put
use Rattle.m2_handshake.specs.declared.answer.HalfStep.{HalfStep}
use Rattle.m2_handshake.specs.declared.answer.HalfStep.TheVariants as half
use Rattle.m2_feed.specs.declared.wire_fault.WireFault.{WireFault}
use Rattle.m2_feed.specs.declared.heard.Heard.{Heard}
use Rattle.m2_feed.specs.declared.heard.Heard.TheVariants as heard
use Rattle.m2_shared.specs.Gates.{Places}
use Rattle.m2_record.specs.declared.composing.Composed.{Composed}
use Rattle.m2_record.specs.declared.composing.Composed.TheVariants as composed
use Rattle.m2_record.specs.declared.due.Due.{Due}
use Rattle.m2_record.specs.declared.due.Due.TheVariants as due
use Rattle.m2_record.specs.declared.framing.Framed.{Framed}
use Rattle.m2_record.specs.declared.framing.Framed.TheVariants as framed
use Rattle.m2_record.specs.declared.stepped.Stepped.{Stepped}
use Rattle.m2_record.specs.declared.stepped.Stepped.TheVariants as stepped
use Rattle.m2_record.specs.Calls.{IsSameButRoom, Owns}
use Rattle.m2_record.specs.Due.{due_step}
use Rattle.m2_record.specs.Reading.{answer_by, answer_heard, answer_read, fault_read, faulted_or}
use Rattle.m2_record.specs.RecordNow.{RecordNow}
use Rattle.m2_record.specs.Stepping.{HandsAs, IsHandedOwned, StepsBy, TakesDue, Worked, answer_composed, answer_framed, answer_planned, answer_put}
use Rattle.m2_bytes.proofs.m2_lemmas.Booleans.{false_isnt_true}

-- ---- which answers hand out a parcel

is_hand : Stepped → Bool
is_hand (stepped.Hand x) = true
is_hand _ = false

planned : (taken : Result (Unit {0}) memory.NoMemory) → is_hand (answer_planned taken) ≡ false
unfolding is_hand
planned (Ok _) = refl
planned (Err _) = refl

putting : (answer : FeedWrite) → is_hand (answer_put answer) ≡ false
unfolding is_hand
putting (put.Put n acknowledged) = refl
putting put.NotYet = refl
putting put.Failed = refl
putting put.NoMemory = refl

framing_half : (answer : HalfStep) → is_hand (answer_framed (framed.Half answer)) ≡ false
unfolding is_hand
framing_half (half.Fault e) = refl
framing_half half.NoMemory = refl
framing_half half.NotYet = refl
framing_half half.Wrote = refl
framing_half half.Authed = refl

framing : (answer : Framed) → is_hand (answer_framed answer) ≡ false
unfolding is_hand
framing (framed.Half answer) = framing_half answer
framing framed.Passed = refl
framing framed.Granted = refl
framing (framed.Acked number) = refl
framing (framed.Accepted number) = refl
framing (framed.Obeyed full) = refl
framing (framed.Faulted cause) = refl
framing (framed.Full stage held) = refl
framing (framed.Again stage seen now) = refl
framing framed.NoMemory = refl

composing : (answer : Composed) → is_hand (answer_composed answer) ≡ false
unfolding is_hand
composing (composed.Asked by_ident number) = refl
composing (composed.Numbered number) = refl
composing composed.Answered = refl
composing composed.Acknowledged = refl
composing composed.Spent = refl
composing (composed.Again seen now) = refl
composing composed.NoMemory = refl

hearing : (h : Option Heard) → is_hand (answer_heard h) ≡ false
unfolding is_hand
hearing (Some heard.Wait) = refl
hearing _ = refl

reading : (answer : EndRead) (h : Option Heard) → is_hand (answer_by answer h) ≡ false
unfolding is_hand
reading (read.Got n) h = hearing h
reading read.NoMemory h = refl
reading read.NotYet h = refl
reading read.Ended h = refl
reading read.Failed h = refl

faulting : (f : Option WireFault) (answer : Stepped) → is_hand answer ≡ false → is_hand (faulted_or f answer) ≡ false
unfolding is_hand
faulting (Some f) answer h = refl
faulting None answer h = h

-- ---- what is handed out is owned

not_hand : (place : Places) (answer other : Stepped) → answer ≡ other → is_hand other ≡ false → IsHandedOwned place answer
unfolding is_hand
not_hand place (stepped.Hand x) other e h = absurd (false_isnt_true (sym h ∙ ap is_hand (sym e)))
not_hand place stepped.Moved other e h = tt
not_hand place stepped.Dry other e h = tt
not_hand place (stepped.Full stage held) other e h = tt
not_hand place (stepped.Again stage seen now) other e h = tt
not_hand place stepped.Spent other e h = tt
not_hand place (stepped.Faulted cause) other e h = tt
not_hand place stepped.NoMemory other e h = tt

first_owned : (place : Places) (x : Parcel) (old rest : List Parcel) → old ≡ x ∷ rest → AllByRecursion (IsOwned place) old → IsOwned place x
first_owned place x old rest e h = (subst (AllByRecursion (IsOwned place)) e h).0

handing : (place : Places) (answer : Stepped) (mid new : RecordNow) → Owns place mid → HandsAs answer mid new → IsHandedOwned place answer
handing place (stepped.Hand x) mid new h k = first_owned place x mid.parcels new.parcels k.0 h.parcels
handing place stepped.Moved mid new h k = tt
handing place stepped.Dry mid new h k = tt
handing place (stepped.Full stage held) mid new h k = tt
handing place (stepped.Again stage seen now) mid new h k = tt
handing place stepped.Spent mid new h k = tt
handing place (stepped.Faulted cause) mid new h k = tt
handing place stepped.NoMemory mid new h k = tt

by_due : (d : Due) (place : Places) (w : Worked) (mid new : RecordNow) → Owns place mid → StepsBy d w mid new → IsHandedOwned place w.answer
unfolding is_hand
by_due due.Nothing place w mid new h k = not_hand place w.answer stepped.Dry k.answers refl
by_due due.Plan place w mid new h k = not_hand place w.answer (answer_planned k.taken) k.answers (planned k.taken)
by_due due.Hand place w mid new h k = handing place w.answer mid new h k.hands
by_due (due.Connect at) place w mid new h k = not_hand place w.answer stepped.Dry k.answers refl
by_due due.Write place w mid new h k = not_hand place w.answer (answer_put k.put) k.answers (putting k.put)
by_due due.Frame place w mid new h k = not_hand place w.answer (answer_framed k.framed) k.answers (framing k.framed)
by_due due.Read place w mid new h k = not_hand place w.answer (answer_read k.read) k.answers (faulting (fault_read k.read) _ (reading k.read.answer k.read.heard))
by_due due.Compose place w mid new h k = not_hand place w.answer (answer_composed k.composed) k.answers (composing k.composed)

owned_room : (place : Places) (old mid : RecordNow) → IsSameButRoom old mid → Owns place old → Owns place mid
owned_room place old mid e h = subst (Owns place) (sym e) (record { feed = h.feed; parcels = h.parcels })

-- what the step that is due hands out is owned by the place that owns what the record holds
pub handed_owned : (place : Places) (w : Worked) (old mid new : RecordNow) → IsSameButRoom old mid → Owns place old → TakesDue w mid new → IsHandedOwned place w.answer
handed_owned place w old mid new e h k = by_due (due_step w.now mid) place w mid new (owned_room place old mid e h) k
