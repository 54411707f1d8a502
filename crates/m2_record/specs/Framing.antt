-- What the step Frame leaves of a record: one answer of the opener's half, or what stands at the front of the feed. This
-- project's own.
use Rattle.std.specs.Prelude.{◌≡◌, ℕ, ◌+◌, Bool, true, false, List, [], ◌∷◌, ◌++◌, Option, Some, None}
use Rattle.m2_core.specs.LiveNow.{OnFeedNow}
use Rattle.m2_core.specs.declared.accepting.CoreAccepted.{CoreAccepted}
use Rattle.m2_core.specs.declared.next.CoreNext.{CoreNext}
use Rattle.m2_core.specs.declared.next.CoreNext.TheVariants as next
use Rattle.m2_core.specs.CoreNow.{CoreNow}
use Rattle.m2_core.specs.Front.{heard_by}
use Rattle.m2_core.specs.Granting.{Throttled}
use Rattle.m2_shared.specs.Gates.{Gate, Keep, Return, Stay}
use Rattle.m2_core.specs.Hearing.{HasObeyed}
use Rattle.m2_core.specs.Next.{IsNext, IsResetHeard}
use Rattle.m2_dispatch.specs.declared.parcel.Parcel.{Parcel}
use Rattle.m2_dispatch.specs.declared.parcel.Parcel.TheVariants as parcel
use Rattle.m2_feed.specs.FeedNow.{is_framing}
use Rattle.m2_handshake.specs.declared.answer.HalfStep.{HalfStep}
use Rattle.m2_handshake.specs.declared.answer.HalfStep.TheVariants as half
use Rattle.m2_journal.specs.declared.entry.Entry.{Entry}
use Rattle.m2_journal.specs.declared.entry.Entry.TheVariants as entry
use Rattle.m2_record.specs.declared.framing.Framed.{Framed}
use Rattle.m2_record.specs.declared.framing.Framed.TheVariants as framed
use Rattle.m2_record.specs.Calls.{Breaks, ChangesCore, GetsEntries, HasRoomFor, IsSameButRoom, Shakes, told_parcels}
use Rattle.m2_record.specs.Due.{on_feed}
use Rattle.m2_record.specs.RecordNow.{RecordNow}

-- ---- words

-- both sides have signed on the feed
abbrev pub is_signed : RecordNow → Bool
is_signed r = on_feed (λ v. is_framing v.reading) r.core.live.feed

-- the core answers so of the front of its feed
abbrev pub AnswersFront : Throttled → CoreNext → (before after : CoreNow) → Type 0
AnswersFront t answer before after = OnFeedNow before.live.feed (λ v. IsNext t answer (heard_by before v.reading) before after)

-- the feed is closed for it
abbrev pub is_faulted : Framed → Bool
is_faulted (framed.Faulted cause) = true
is_faulted _ = false

-- something is at the front
abbrev pub IsDone : CoreNext → Type 0
IsDone next.Rests = ⊥
IsDone _ = Unit {0}

-- the mark of a reset that is to be obeyed
abbrev pub reset_in : Framed → Option Bool
reset_in (framed.Obeyed full) = Some full
reset_in _ = None

-- where a reset is to be obeyed, it is heard
abbrev pub IsResetIf : Framed → RecordNow → Type 0
IsResetIf (framed.Obeyed full) r = IsResetHeard full r.core × HasRoomFor 2 r.room
IsResetIf _ r = Unit {0}

-- ---- what an answer of the core becomes

abbrev pub framed_next : CoreNext → Framed
framed_next next.Rests = framed.Passed
framed_next next.Passed = framed.Passed
framed_next next.Granted = framed.Granted
framed_next (next.Acked number) = framed.Acked number
framed_next (next.Accepted a) = framed.Accepted a.number
framed_next (next.Resets full) = framed.Obeyed full
framed_next (next.Full stage out) = framed.Full stage out
framed_next (next.Again stage seen now) = framed.Again stage seen now
framed_next (next.Fault cause) = framed.Faulted cause
framed_next next.NoMemory = framed.NoMemory

-- its entry, where it has one that closes nothing
abbrev pub entries_next : CoreNext → List Entry
entries_next (next.Acked number) = entry.Acked number ∷ []
entries_next (next.Accepted a) = entry.Accepted a.number a.key ∷ []
entries_next _ = []

-- a message is a letter of the peer, with what was granted for it
abbrev pub letter_of : (place : ℕ) → CoreAccepted → Parcel
letter_of place a = parcel.Letter (record { peer = place; key = a.key; number = a.number; life = a.life; message = a.message; grants = a.grants })

abbrev pub parcels_next : (place : ℕ) → CoreNext → List Parcel
parcels_next place (next.Accepted a) = letter_of place a ∷ []
parcels_next place _ = []

-- the moment of the last productive entry
abbrev pub moment_next : CoreNext → (now last : ℕ) → ℕ
moment_next (next.Accepted a) now last = now
moment_next _ now last = last

-- ---- what is done

-- an answer of the half; for a fault that it finds the feed is closed
abbrev pub Greets : HalfStep → (now : ℕ) → RecordNow → RecordNow → Type 0
Greets (half.Fault e) now old new = (mid : RecordNow) × Shakes (half.Fault e) old mid × Breaks now mid new
Greets answer now old new = Shakes answer old new

abbrev pub after_accepting : CoreAccepted → (now : ℕ) → RecordNow → RecordNow
after_accepting a now r = record r {
  journal = r.journal ++ entry.Accepted a.number a.key ∷ [];
  parcels = r.parcels ++ letter_of r.place a ∷ [];
  last = now;
}

abbrev pub AcceptsOne : Throttled → (number now : ℕ) → RecordNow → RecordNow → Type 0
AcceptsOne t number now old new =
    (a : CoreAccepted) × (a.number ≡ number) × AnswersFront t (next.Accepted a) old.core new.core
    × (new ≡ record (after_accepting a now old) { core = new.core; room = new.room })

-- the front is answered, and a reset there is still to be obeyed
abbrev pub Heeds : Throttled → Framed → (now : ℕ) → RecordNow → RecordNow → Type 0
Heeds t (framed.Half answer) now old new = ⊥
Heeds t framed.Passed now old new = AnswersFront t next.Passed old.core new.core × ChangesCore old new
Heeds t framed.Granted now old new = AnswersFront t next.Granted old.core new.core × ChangesCore old new
Heeds t (framed.Acked number) now old new = AnswersFront t (next.Acked number) old.core new.core × GetsEntries (entry.Acked number ∷ []) old new
Heeds t (framed.Accepted number) now old new = AcceptsOne t number now old new
Heeds t (framed.Obeyed full) now old new = AnswersFront t (next.Resets full) old.core new.core × IsSameButRoom old new
Heeds t (framed.Faulted cause) now old new = AnswersFront t (next.Fault cause) old.core new.core × Breaks now old new
Heeds t (framed.Full stage out) now old new = AnswersFront t (next.Full stage out) old.core new.core × ChangesCore old new
Heeds t (framed.Again stage seen at) now old new = AnswersFront t (next.Again stage seen at) old.core new.core × ChangesCore old new
Heeds t framed.NoMemory now old new = AnswersFront t next.NoMemory old.core new.core × IsSameButRoom old new

-- the reset is obeyed; a full one is told: a discard, and behind it a remote reset
abbrev pub after_obeying : (full : Bool) → RecordNow → RecordNow
after_obeying full r = record r {
  journal = r.journal ++ entry.Obeyed full ∷ [];
  parcels = r.parcels ++ told_parcels r.place full full;
}

abbrev pub Obeys : (full : Bool) → RecordNow → RecordNow → Type 0
Obeys full old new = HasObeyed full old.core new.core × (new ≡ record (after_obeying full old) { core = new.core; room = new.room })

-- all of it, by the answer
abbrev pub Frames : Throttled → Framed → (now : ℕ) → RecordNow → RecordNow → Type 0
Frames t (framed.Half answer) now old new = Greets answer now old new
Frames t (framed.Obeyed full) now old new = (mid : RecordNow) × Heeds t (framed.Obeyed full) now old mid × Obeys full mid new
Frames t answer now old new = Heeds t answer now old new

-- ---- what is held

-- The words of throttles that are alone, by what is held for the feed before and behind: what a stage grants is drawn when it
-- grants, and what is held is given back where its text is passed, or the feed closed. What is held for a letter stays drawn.
abbrev pub WordsFramed : Framed → Throttled → (before behind : Gate → ℕ) → Type 0
WordsFramed framed.Granted t before behind = Keep before behind t.throttles t.before t.behind
WordsFramed (framed.Full stage out) t before behind = Keep before behind t.throttles t.before t.behind
WordsFramed (framed.Again stage seen now) t before behind = Keep before behind t.throttles t.before t.behind
WordsFramed framed.Passed t before behind = Return before t.throttles t.before t.behind
WordsFramed (framed.Faulted cause) t before behind = Return before t.throttles t.before t.behind
WordsFramed (framed.Half (half.Fault e)) t before behind = Return before t.throttles t.before t.behind
WordsFramed _ t before behind = Stay t.throttles t.before t.behind
