-- What a center's turn does: the sockets that wait are accepted, the halves take their turns, then the records take theirs, and
-- then the mail is emptied. That order is a rule of the runtime; the rest is this project's own.
use Rattle.std.specs.Prelude.{◌≡◌, ◌⊎◌, ℕ, List, Result, Ok, Err}
use Rattle.m2_bytes.specs.declared.memory.NoMemory as memory
use Rattle.m2_dispatch.specs.Heard.{Heard}
use Rattle.m2_dispatch.specs.declared.parcel.Parcel.{Parcel}
use Rattle.m2_shared.specs.Numbers.{SeenNumbers}
use Rattle.m2_shared.specs.Gates.{places}
use Rattle.m2_shared.specs.declared.throttles.Throttles.{Throttles}
use Rattle.m2_turn.specs.declared.accepting.Accepted.{Accepted}
use Rattle.m2_turn.specs.declared.accepting.Accepted.TheVariants as accepted
use Rattle.m2_turn.specs.declared.halves_turn.HalvesTurn.{HalvesTurn}
use Rattle.m2_turn.specs.declared.halves_turn.HalvesTurn.TheVariants as halves
use Rattle.m2_turn.specs.declared.mailing.Mailed.{Mailed}
use Rattle.m2_turn.specs.declared.mailing.Mailed.TheVariants as mailed
use Rattle.m2_turn.specs.declared.records_turn.RecordsTurn.{RecordsTurn}
use Rattle.m2_turn.specs.declared.records_turn.RecordsTurn.TheVariants as records
use Rattle.m2_turn.specs.Accepting.{Accepting, AcceptsAll}
use Rattle.m2_turn.specs.HalfTurn.{Homes}
use Rattle.m2_turn.specs.HalvesTurn as turns
use Rattle.m2_turn.specs.HandingOn.{HandsLetters}
use Rattle.m2_turn.specs.HalvesTurn.{Callers}
use Rattle.m2_turn.specs.Mailing.{Mailing, Mails, mailing}
use Rattle.m2_turn.specs.RecordTurn.{Means}
use Rattle.m2_turn.specs.RecordsTurn.{AllAmid, Around, TurnsEach}
use Rattle.m2_center.specs.declared.turning.CenterTurn.{CenterTurn}
use Rattle.m2_center.specs.declared.turning.CenterTurn.TheVariants as turn
use Rattle.m2_center.specs.Center.{CenterNow}

-- ---- the parts of a turn

abbrev pub Answer : Type 0
Answer = Result (Unit {0}) memory.NoMemory

abbrev pub accepting_in : {D : Type 0} → CenterNow D → Accepting
accepting_in c = record { port = c.port; halves = c.halves }

abbrev pub homes_in : {D : Type 0} → CenterNow D → Homes
homes_in c = record { records = c.records; bytes = c.bytes; numbers = c.numbers }

abbrev pub callers_of : {D : Type 0} → CenterNow D → Callers
callers_of c = turns.callers c.halves.pending c.halves.loose (homes_in c)

abbrev pub around_in : {D : Type 0} → CenterNow D → Around D
around_in c = record { port = c.port; out = c.out; bytes = c.bytes; numbers = c.numbers }

abbrev pub all_amid_in : {D : Type 0} → CenterNow D → AllAmid D
all_amid_in c = record { records = c.records; around = around_in c }

abbrev pub mailing_in : {D : Type 0} → CenterNow D → Mailing D
mailing_in c = mailing c.out c.queued c.bytes

-- the sockets that wait are accepted
pub record Accepts {D : Type 0} (result : Accepted) (old new : CenterNow D) : Type 0 where
  pub accepts : AcceptsAll old.entity result (accepting_in old) (accepting_in new)
  pub only : new ≡ record old { port = new.port; halves = new.halves }

-- the halves take their turns
pub record TurnsHalves {D : Type 0} (E : Type 0) (m : Means) (result : HalvesTurn) (old new : CenterNow D) : Type 0 where
  pub turns : turns.TurnsHalves E result m (callers_of old) (callers_of new)
  pub only : new ≡ record old { halves = new.halves; records = new.records; bytes = new.bytes; numbers = new.numbers }

-- the records take theirs
pub record TurnsRecords {D : Type 0} (heard : D → List Heard) (m : Means) (result : RecordsTurn) (old new : CenterNow D) : Type 0 where
  pub turns : TurnsEach heard m result (all_amid_in old) (all_amid_in new)
  pub only : new ≡ record old { records = new.records; port = new.port; out = new.out; bytes = new.bytes; numbers = new.numbers }

-- the mail is emptied
pub record EmptiesMail {D : Type 0} (heard : D → List Heard) (m : Means) (result : Mailed) (old new : CenterNow D) : Type 0 where
  pub mails : Mails heard (places m.throttles) result (mailing_in old) (mailing_in new)
  pub only : new ≡ record old { out = new.out; queued = new.queued; bytes = new.bytes }

-- what a turn says of memory
abbrev pub memory_in : CenterTurn → Answer
memory_in turn.NoMemory = Err (record {})
memory_in _ = Ok tt

-- what each answers: Ok, or that memory ran out
abbrev pub accepted_so : Accepted → Answer
accepted_so accepted.NoMemory = Err (record {})
accepted_so _ = Ok tt

abbrev pub answered_so : HalvesTurn → Answer
answered_so halves.Done = Ok tt
answered_so halves.NoMemory = Err (record {})

abbrev pub stepped_so : RecordsTurn → Answer
stepped_so records.Done = Ok tt
stepped_so records.NoMemory = Err (record {})

abbrev pub delivered_so : Mailed → Answer
delivered_so mailed.NoMemory = Err (record {})
delivered_so _ = Ok tt

abbrev pub AcceptsSo : {D : Type 0} → Answer → CenterNow D → CenterNow D → Type 0
AcceptsSo answer old new = (result : Accepted) × (answer ≡ accepted_so result) × Accepts result old new

abbrev pub AnswersSo : {D : Type 0} → (E : Type 0) → Means → Answer → CenterNow D → CenterNow D → Type 0
AnswersSo E m answer old new = (result : HalvesTurn) × (answer ≡ answered_so result) × TurnsHalves E m result old new

abbrev pub StepsSo : {D : Type 0} → (heard : D → List Heard) → Means → Answer → CenterNow D → CenterNow D → Type 0
StepsSo heard m answer old new = (result : RecordsTurn) × (answer ≡ stepped_so result) × TurnsRecords heard m result old new

abbrev pub DeliversSo : {D : Type 0} → (heard : D → List Heard) → Means → Answer → CenterNow D → CenterNow D → Type 0
DeliversSo heard m answer old new = (result : Mailed) × (answer ≡ delivered_so result) × EmptiesMail heard m result old new

-- and the letters that are dispatched are among the parcels that are last now
abbrev pub HandsOnSo : {D : Type 0} → (heard : D → List Heard) → Means → (into behind : List Parcel) → Answer → CenterNow D → CenterNow D → Type 0
HandsOnSo heard m into behind answer old new = DeliversSo heard m answer old new × HandsLetters (mailing_in old) (mailing_in new) into behind

-- ---- a turn

-- a part of a turn, by its answer
abbrev pub Part : Type 0 → Type 1
Part D = Answer → CenterNow D → CenterNow D → Type 0

-- one part and then, where memory lasted, another
abbrev pub AndThen : {D : Type 0} → Part D → Part D → Part D
AndThen {D = D} first second (Ok _) old new = (mid : CenterNow D) × first (Ok tt) old mid × second (Ok tt) mid new
AndThen {D = D} first second (Err e) old new = first (Err e) old new ⊎ ((mid : CenterNow D) × first (Ok tt) old mid × second (Err e) mid new)

-- all four, one after the other
abbrev pub TakesTurn : {D : Type 0} → (E : Type 0) → (heard : D → List Heard) → Means → Part D
TakesTurn E heard m = AndThen AcceptsSo (AndThen (AnswersSo E m) (AndThen (StepsSo heard m) (DeliversSo heard m)))

-- the same, where what is dispatched is handed on
abbrev pub TakesTurnOn : {D : Type 0} → (E : Type 0) → (heard : D → List Heard) → Means → (into behind : List Parcel) → Part D
TakesTurnOn E heard m into behind = AndThen AcceptsSo (AndThen (AnswersSo E m) (AndThen (StepsSo heard m) (HandsOnSo heard m into behind)))

-- the moment, and what the threads of the node share
abbrev pub means_at : (now : ℕ) → SeenNumbers → Throttles → Means
means_at now numbers throttles = record { now = now; throttles = throttles; counter = numbers.place }
