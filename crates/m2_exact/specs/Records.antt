-- One step of each of two records that are alike but for room, where the ends of their feeds are in memory, and the words of
-- their throttles and their counter are alone. This project's own.
use Rattle.std.specs.Prelude.{◌≡◌, ◌≢◌, ℕ, None}
use Rattle.m2_script.specs.m2_center.m2_core.CoreNow.{IsAskedIfSigned}
use Rattle.m2_dispatch.specs.m2_shared.Gates.{Gate, places, words}
use Rattle.m2_dispatch.specs.m2_shared.Numbers.{SeenNumberPass}
use Rattle.m2_dispatch.specs.m2_shared.Place.{IsAlone, Place}
use Rattle.m2_dispatch.specs.m2_shared.declared.throttles.Throttles.{Throttles}
use Rattle.m2_script.specs.m2_center.m2_record.IsRecord.{no_room}
use Rattle.m2_script.specs.m2_center.m2_record.RecordNow.{RecordNow}
use Rattle.m2_script.specs.m2_center.m2_record.Stepping.{StepsAs, Worked}
use Rattle.m2_script.specs.m2_center.m2_record.declared.stepped.Stepped.{Stepped}
use Rattle.m2_script.specs.m2_center.m2_record.declared.stepped.Stepped.TheVariants as stepped
use Rattle.m2_exact.specs.Cores.{FeedIsInMemory, roomless}
use Rattle.m2_exact.specs.Holding.{AreAlone}

-- ---- what is forgotten

-- How much room a record and its feed have. By room it is told whether memory is wanted, and nothing else.
abbrev pub plain : RecordNow → RecordNow
plain r = record r { core = roomless r.core; room = no_room }

-- of a pass to a counter, where its word lies, which the counter tells
abbrev pub bare_numbers : SeenNumberPass → SeenNumberPass
bare_numbers p = record p { place = None }

-- ---- a step

-- What it begins with: the moment, the throttles and where the counter's word lies, and both words. Of passes to throttles nothing is
-- told but the word at each gate: where it is alone a grant is decided by it.
pub record Begun : Type 0 where
  pub now : ℕ
  pub throttles : Throttles
  pub counter : Place
  pub bytes : Gate → ℕ
  pub numbers : SeenNumberPass

abbrev pub begun : Worked → Begun
begun w = record {
  now = w.now;
  throttles = w.bytes.throttles;
  counter = w.numbers.place;
  bytes = words w.bytes.before;
  numbers = bare_numbers w.numbers.before;
}

-- what it comes to: its answer, and both words
pub record Done : Type 0 where
  pub answer : Stepped
  pub bytes : Gate → ℕ
  pub numbers : SeenNumberPass

abbrev pub done : Worked → Done
done w = record { answer = w.answer; bytes = words w.bytes.behind; numbers = bare_numbers w.numbers.behind }

-- no thread shares the words
pub record WorkIsAlone (w : Worked) : Type 0 where
  pub throttles : AreAlone (places w.bytes.throttles)
  pub counter : IsAlone w.numbers.place

-- the step that was taken so, and found memory
pub record Took (w : Worked) (old new : RecordNow) : Type 0 where
  pub steps : StepsAs w.answer w old new
  pub memory : w.answer ≢ stepped.NoMemory

-- Where nothing was asked before both sides had signed, steps that begin alike, of records that are alike, come to the same, and the
-- records stay alike. They stay over ends in memory, and so it stays with what was asked.
pub record LikeRecordsStepAlike : Type 0 where
  pub steps : (w v : Worked) (r s new behind : RecordNow) → FeedIsInMemory r.core → IsAskedIfSigned r.core.live.session.phase r.core.live.feed → WorkIsAlone w →
      begun w ≡ begun v → plain r ≡ plain s → Took w r new → Took v s behind → (done w ≡ done v) × (plain new ≡ plain behind)
  pub stays : (w : Worked) (old new : RecordNow) → FeedIsInMemory old.core → Took w old new → FeedIsInMemory new.core
  pub signed : (w : Worked) (old new : RecordNow) → IsAskedIfSigned old.core.live.session.phase old.core.live.feed → Took w old new →
      IsAskedIfSigned new.core.live.session.phase new.core.live.feed
