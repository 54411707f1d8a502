-- What is promised of the stages of a turn: of what was done nothing is undone.
use Rattle.std.specs.Prelude.{◌≡◌, ℕ, List, slice_get, slice_set, Some, Result}
use Rattle.m2_fabric.specs.m2_bytes.declared.memory.NoMemory as memory
use Rattle.m2_dispatch.specs.Heard.{Heard}
use Rattle.m2_fabric.specs.Port.{SeenPort}
use Rattle.m2_weave.specs.m2_journal.declared.facts.PlanStep.{PlanStep}
use Rattle.m2_turn.specs.m2_record.IsRecord.{IsRecord}
use Rattle.m2_turn.specs.m2_record.RecordNow.{RecordNow}
use Rattle.m2_turn.specs.declared.accepting.Accepted.{Accepted}
use Rattle.m2_turn.specs.declared.halves_turn.HalvesTurn.{HalvesTurn}
use Rattle.m2_turn.specs.declared.records_turn.RecordsTurn.{RecordsTurn}
use Rattle.m2_turn.specs.Accepting.{Accepting, AcceptsAll}
use Rattle.m2_turn.specs.Halves.{AllHalves, halves_of}
use Rattle.m2_turn.specs.HalvesTurn.{Callers, TurnsHalves}
use Rattle.m2_turn.specs.Planning.{PlansNow}
use Rattle.m2_turn.specs.RecordTurn.{Means}
use Rattle.m2_turn.specs.RecordsTurn.{AllAmid, TurnsEach}
use Rattle.m2_growth.specs.Holding.{AreOwn, Grows, Holding}
use Rattle.m2_growth.specs.Records.{IsFed}

-- ---- accepts

abbrev pub at_accepts : List RecordNow → Accepting → Holding
at_accepts records a = record { port = a.port; records = records; halves = a.halves }

abbrev pub AcceptsGrow : Type 0
AcceptsGrow = (entity : ℕ) (result : Accepted) (records : List RecordNow) (old new : Accepting) → AcceptsAll entity result old new →
    AreOwn (at_accepts records old) → Grows (at_accepts records old) (at_accepts records new)

-- ---- turns of halves

abbrev pub at_halves : SeenPort → Callers → Holding
at_halves port c = record { port = port; records = c.homes.records; halves = halves_of c.halves c.loose }

abbrev pub HalvesGrow : Type 0 → Type 0
HalvesGrow E = (result : HalvesTurn) (m : Means) (port : SeenPort) (old new : Callers) → TurnsHalves E result m old new →
    AreOwn (at_halves port old) → Grows (at_halves port old) (at_halves port new)

-- ---- turns of records

abbrev pub at_records : {D : Type 0} → AllHalves → AllAmid D → Holding
at_records halves a = record { port = a.around.port; records = a.records; halves = halves }

abbrev pub RecordTurnsGrow : Type 0 → Type 0
RecordTurnsGrow D = (heard : D → List Heard) (m : Means) (result : RecordsTurn) (halves : AllHalves) (old new : AllAmid D) → TurnsEach heard m result old new →
    AreOwn (at_records halves old) → Grows (at_records halves old) (at_records halves new)

-- ---- a step that is planned

-- the record at a place plans a step and takes it, and no other changes
pub record PlansAt (result : Result (Unit {0}) memory.NoMemory) (x : PlanStep) (now : ℕ) (old new : List RecordNow) : Type 0 where
  pub place : ℕ
  pub before : RecordNow
  pub behind : RecordNow
  pub side : slice_get old place ≡ Some before
  pub plans : PlansNow result x now before behind
  pub records : new ≡ slice_set old place behind

abbrev pub at_plans : SeenPort → AllHalves → List RecordNow → Holding
at_plans port halves records = record { port = port; records = records; halves = halves }

abbrev pub PlansGrow : Type 0
PlansGrow = (result : Result (Unit {0}) memory.NoMemory) (x : PlanStep) (now : ℕ) (port : SeenPort) (halves : AllHalves) (old new : List RecordNow) → PlansAt result x now old new →
    AreOwn (at_plans port halves old) → Grows (at_plans port halves old) (at_plans port halves new)

-- ---- one after another

abbrev pub GrowthGoesOn : Type 0
GrowthGoesOn = (a b c : Holding) → Grows a b → Grows b c → Grows a c

-- ---- records

abbrev pub RecordsAreFed : Type 0
RecordsAreFed = (r : RecordNow) → IsRecord r → IsFed r
