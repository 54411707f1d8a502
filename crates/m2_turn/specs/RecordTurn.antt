-- What a record does in its turn: steps, one after another, until one says that it waits or has found a fault. A parcel that a
-- step hands out is put at once. That a record takes at most so many steps is a limit of the runtime; the rest is this
-- project's own.
use Rattle.std.specs.Prelude.{◌≡◌, ℕ, ◌<◌, true, false, List, [], ◌∷◌, length, Option, Some, None}
use Rattle.m2_dispatch.specs.Heard.{Heard}
use Rattle.m2_record.specs.declared.stepped.Stepped.{Stepped}
use Rattle.m2_record.specs.declared.stepped.Stepped.TheVariants as stepped
use Rattle.m2_record.specs.declared.work.Work.{Work}
use Rattle.m2_record.specs.IsRecord.{IsRecord}
use Rattle.m2_record.specs.RecordNow.{RecordNow}
use Rattle.m2_record.specs.Stepping.{StepsAs, Worked}
use Rattle.m2_shared.specs.Numbers.{SeenNumberPass}
use Rattle.m2_shared.specs.Place.{Place}
use Rattle.m2_shared.specs.Gates.{Return}
use Rattle.m2_shared.specs.declared.throttles.TakePasses.{TakePasses}
use Rattle.m2_shared.specs.declared.throttles.Throttles.{Throttles}
use Rattle.m2_turn.specs.declared.record_turn.RecordTurn.{RecordTurn}
use Rattle.m2_turn.specs.declared.record_turn.RecordTurn.TheVariants as turn
use Rattle.m2_turn.specs.declared.record_turn.TheConstants.{MOST_STEPS}
use Rattle.m2_turn.specs.Outbox.{OutboxNow, Puts, is_free, returned}

-- the moment, the node's throttles, and where its counter of global numbers lies
pub record Means : Type 0 where
  pub now : ℕ
  pub throttles : Throttles
  pub counter : Place

-- what a turn changes: the record, where its parcels go, and the passes of the thread
pub record Turning (D : Type 0) : Type 0 where
  pub side : RecordNow
  pub out : OutboxNow D
  pub bytes : TakePasses
  pub numbers : SeenNumberPass

abbrev pub means_of : (now : ℕ) → Work → Means
means_of now w = record { now = now; throttles = w.throttles.now; counter = w.numbers.now.place }

abbrev pub turning : {D : Type 0} → RecordNow → OutboxNow D → Work → Turning D
turning side out w = record { side = side; out = out; bytes = w.passes.now; numbers = w.number_pass.now }

-- ---- one step

-- a parcel that is handed out is put, and else nothing is
abbrev pub PutsHanded : {D : Type 0} → (heard : D → List Heard) → Stepped → OutboxNow D → OutboxNow D → Type 0
PutsHanded heard (stepped.Hand x) old new = Puts heard x old new
PutsHanded heard answer old new = new ≡ old

-- what is given back for it to the throttles that are alone
abbrev pub GivesHanded : {D : Type 0} → (throttles : Throttles) → Stepped → OutboxNow D → TakePasses → TakePasses → Type 0
GivesHanded throttles (stepped.Hand x) out before behind = Return (returned x out.held) throttles before behind
GivesHanded throttles answer out before behind = behind ≡ before

-- how it works: with the pass before the step and behind it
abbrev pub worked_by : {D : Type 0} → Means → Stepped → (behind : TakePasses) → Turning D → Turning D → Worked
worked_by m answer behind old new = record {
  now = m.now;
  answer = answer;
  bytes = record { throttles = m.throttles; before = old.bytes; behind = behind };
  numbers = record { place = m.counter; before = old.numbers; behind = new.numbers };
}

-- the record's step, and then what it hands out is put; before and behind it is a record
pub record TakesStep {D : Type 0} (heard : D → List Heard) (m : Means) (answer : Stepped) (old new : Turning D) : Type 0 where
  pub before : IsRecord old.side
  pub free : is_free old.out ≡ true
  pub behind : TakePasses
  pub steps : StepsAs answer (worked_by m answer behind old new) old.side new.side
  pub puts : PutsHanded heard answer old.out new.out
  pub gives : GivesHanded m.throttles answer new.out behind new.bytes
  pub stays : IsRecord new.side

-- ---- a turn

-- behind such an answer the record goes on
abbrev pub LeadsOn : Stepped → Type 0
LeadsOn stepped.Moved = Unit {0}
LeadsOn (stepped.Hand x) = Unit {0}
LeadsOn _ = ⊥

-- what it is said to have ended with
abbrev pub EndsWith : RecordTurn → Stepped → Type 0
EndsWith turn.Dry stepped.Dry = Unit {0}
EndsWith (turn.Full stage held) (stepped.Full full out) = (stage ≡ full) × (held ≡ out)
EndsWith (turn.Again stage seen at) (stepped.Again changed was now) = (stage ≡ changed) × (seen ≡ was) × (at ≡ now)
EndsWith turn.Spent stepped.Spent = Unit {0}
EndsWith (turn.Faulted cause) (stepped.Faulted f) = cause ≡ f
EndsWith turn.NoMemory stepped.NoMemory = Unit {0}
EndsWith turn.Busy answer = ⊥
EndsWith turn.Stuck answer = ⊥
EndsWith _ _ = ⊥

-- a step that leads on
pub record LedOn {D : Type 0} (heard : D → List Heard) (m : Means) (old new : Turning D) : Type 0 where
  pub answer : Stepped
  pub takes : TakesStep heard m answer old new
  pub leads : LeadsOn answer

-- none: the step led on; else this is what the turn ends with
abbrev pub StepsOnce : {D : Type 0} → (heard : D → List Heard) → Means → Option RecordTurn → Turning D → Turning D → Type 0
StepsOnce heard m None old new = LedOn heard m old new
StepsOnce heard m (Some result) old new = (answer : Stepped) × TakesStep heard m answer old new × EndsWith result answer

-- steps one after another; the list has how it stood behind each
abbrev pub Steps : {D : Type 0} → (heard : D → List Heard) → Means → List (Turning D) → Turning D → Turning D → Type 0
Steps heard m [] old new = old ≡ new
Steps heard m (t ∷ ts) old new = LedOn heard m old t × Steps heard m ts t new

-- fewer steps than all led on, and behind them
pub record LedWithin {D : Type 0} (heard : D → List Heard) (m : Means) (most : ℕ) (old mid : Turning D) : Type 0 where
  pub stood : List (Turning D)
  pub steps : Steps heard m stood old mid
  pub within : length stood < most

pub record EndsBy {D : Type 0} (heard : D → List Heard) (m : Means) (result : RecordTurn) (old new : Turning D) : Type 0 where
  pub mid : Turning D
  pub led : LedWithin heard m MOST_STEPS old mid
  pub answer : Stepped
  pub takes : TakesStep heard m answer mid new
  pub ends : EndsWith result answer

pub record IsBusy {D : Type 0} (heard : D → List Heard) (m : Means) (old new : Turning D) : Type 0 where
  pub stood : List (Turning D)
  pub steps : Steps heard m stood old new
  pub many : length stood ≡ MOST_STEPS

-- nothing may be put
pub record IsStuck {D : Type 0} (heard : D → List Heard) (m : Means) (old new : Turning D) : Type 0 where
  pub led : LedWithin heard m MOST_STEPS old new
  pub full : is_free new.out ≡ false

abbrev pub TurnsAs : {D : Type 0} → (heard : D → List Heard) → Means → RecordTurn → Turning D → Turning D → Type 0
TurnsAs heard m turn.Busy old new = IsBusy heard m old new
TurnsAs heard m turn.Stuck old new = IsStuck heard m old new
TurnsAs heard m result old new = EndsBy heard m result old new
