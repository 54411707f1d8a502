-- The turns of two centers' records that are alike: each makes the connect that is due, and takes its steps. This project's own.
use Rattle.std.specs.Prelude.{◌≡◌, ℕ, List, map, None, Ok, IsSome}
use Rattle.std.specs.List.{AllByRecursion}
use Rattle.m2_dispatch.specs.Heard.{Heard}
use Rattle.m2_dispatch.specs.m2_shared.Numbers.{SeenNumberPass}
use Rattle.m2_dispatch.specs.m2_shared.Gates.{Gate, words}
use Rattle.m2_fabric.specs.Port.{SeenPort}
use Rattle.m2_script.specs.m2_center.m2_turn.Connecting.{AtPort, DialsIfDue}
use Rattle.m2_script.specs.m2_center.m2_turn.Planning.{TakesNew}
use Rattle.m2_script.specs.m2_center.m2_turn.RecordTurn.{Means}
use Rattle.m2_script.specs.m2_center.m2_turn.RecordsTurn.{AllAmid, TurnsEach}
use Rattle.m2_script.specs.m2_center.m2_turn.declared.records_turn.RecordsTurn.TheVariants as turn
use Rattle.m2_script.specs.m2_center.m2_feed.m2_journal.declared.facts.PlanStep.{PlanStep}
use Rattle.m2_script.specs.m2_center.m2_record.RecordNow.{RecordNow}
use Rattle.m2_exact.specs.Records.{bare_numbers, plain}
use Rattle.m2_exact.specs.RecordTurns.{HasAlone, IsFit, PlainOut, plain_out}

-- ---- a connect, and a step that is planned

-- a port has no room that contracts see
pub record PlainAt : Type 0 where
  pub side : RecordNow
  pub port : SeenPort

abbrev pub plain_at : AtPort → PlainAt
plain_at a = record { side = plain a.side; port = a.port }

-- a record that is fit, at a port in memory
pub record IsFitAt (a : AtPort) : Type 0 where
  pub side : IsFit a.side
  pub port : IsSome a.port.waiting

-- But for want of memory a connect that is due, and a step that is planned, leave what is alike; so where none is due. What waits at the
-- port stays.
pub record LikeRecordsDialAndPlanAlike : Type 0 where
  pub dials : (now : ℕ) (old last new behind : AtPort) → IsFitAt old → plain_at old ≡ plain_at last → DialsIfDue (Ok tt) now old new → DialsIfDue (Ok tt) now last behind →
      plain_at new ≡ plain_at behind
  pub stays : (now : ℕ) (old new : AtPort) → IsFitAt old → DialsIfDue (Ok tt) now old new → IsFitAt new
  pub waits : (now : ℕ) (old new : AtPort) → IsFitAt old → DialsIfDue (Ok tt) now old new → new.port.waiting ≡ old.port.waiting
  pub plans : (x : PlanStep) (now : ℕ) (r s new behind : RecordNow) → plain r ≡ plain s → TakesNew x now r new → TakesNew x now s behind → plain new ≡ plain behind

-- ---- all records

pub record PlainAll : Type 0 where
  pub records : List RecordNow
  pub port : SeenPort
  pub out : PlainOut
  pub bytes : Gate → ℕ
  pub numbers : SeenNumberPass

abbrev pub plain_all : {D : Type 0} → (D → List Heard) → AllAmid D → PlainAll
plain_all heard a = record {
  records = map plain a.records;
  port = a.around.port;
  out = plain_out heard a.around.out;
  bytes = words a.around.bytes;
  numbers = bare_numbers a.around.numbers;
}

-- each record is fit, beside a port in memory
pub record AreFit {D : Type 0} (a : AllAmid D) : Type 0 where
  pub records : AllByRecursion IsFit a.records
  pub port : IsSome a.around.port.waiting

-- Turns of all records that begin alike, and found memory, leave what is alike; the records stay fit, and what waits at the port stays.
pub record LikeAllRecordsTurnAlike (D : Type 0) (heard : D → List Heard) : Type 0 where
  pub turns : (m : Means) (old last new behind : AllAmid D) → HasAlone m → AreFit old → plain_all heard old ≡ plain_all heard last →
      TurnsEach heard m turn.Done old new → TurnsEach heard m turn.Done last behind → new.around.out.held ≡ None → behind.around.out.held ≡ None →
      plain_all heard new ≡ plain_all heard behind
  pub stays : (m : Means) (old new : AllAmid D) → AreFit old → TurnsEach heard m turn.Done old new → new.around.out.held ≡ None → AreFit new
  pub waits : (m : Means) (old new : AllAmid D) → AreFit old → TurnsEach heard m turn.Done old new → new.around.out.held ≡ None → new.around.port.waiting ≡ old.around.port.waiting
