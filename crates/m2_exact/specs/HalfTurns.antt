-- The turns of two halves that are alike, beside records that are alike: each moves on, is answered where it is asked, and moves on
-- again behind a reply. This project's own.
use Rattle.std.specs.Prelude.{◌≡◌, ℕ, Bool, true, false, List, map}
use Rattle.std.specs.List.{AllByRecursion}
use Rattle.m2_dispatch.specs.m2_shared.Gates.{Gate, words}
use Rattle.m2_dispatch.specs.m2_shared.Numbers.{SeenNumberPass}
use Rattle.m2_script.specs.m2_center.m2_turn.HalfTurn.{Homes, TurnsHalf}
use Rattle.m2_script.specs.m2_center.m2_turn.HalvesTurn.{stays_by}
use Rattle.m2_script.specs.m2_center.m2_turn.Hearing.{IsHalfInMemory}
use Rattle.m2_script.specs.m2_center.m2_turn.RecordTurn.{Means}
use Rattle.m2_script.specs.m2_center.m2_turn.Sessions.{PendingNow}
use Rattle.m2_script.specs.m2_center.m2_turn.declared.half_turn.HalfTurned.{HalfTurned}
use Rattle.m2_script.specs.m2_center.m2_turn.declared.half_turn.HalfTurned.TheVariants as turned
use Rattle.m2_script.specs.m2_center.m2_record.RecordNow.{RecordNow}
use Rattle.m2_exact.specs.Accepts.{plain_pending}
use Rattle.m2_exact.specs.Records.{bare_numbers, plain}
use Rattle.m2_exact.specs.RecordTurns.{HasAlone, IsFit}

pub record PlainHomes : Type 0 where
  pub records : List RecordNow
  pub bytes : Gate → ℕ
  pub numbers : SeenNumberPass

abbrev pub plain_homes : Homes → PlainHomes
plain_homes h = record { records = map plain h.records; bytes = words h.bytes; numbers = bare_numbers h.numbers }

-- without the room of a half that stays, and without where the parts of its ask lie
abbrev pub bare_turned : {E : Type 0} → HalfTurned E → HalfTurned E
bare_turned (turned.Open p) = turned.Open (plain_pending p)
bare_turned turned.Taken = turned.Taken
bare_turned (turned.Over l) = turned.Over l
bare_turned (turned.NoMemory p) = turned.NoMemory (plain_pending p)

abbrev pub lacks : {E : Type 0} → HalfTurned E → Bool
lacks (turned.NoMemory p) = true
lacks _ = false

-- But for want of memory, halves that are alike and whose ends are in memory come to the same, and what is left is alike. The records
-- stay fit, and a half that stays is over an end in memory.
pub record LikeHalvesTurnAlike (E : Type 0) : Type 0 where
  pub turns : (m : Means) (one other : HalfTurned E) (p q : PendingNow) (old last new behind : Homes) → HasAlone m → IsHalfInMemory p → AllByRecursion IsFit old.records →
      plain_pending p ≡ plain_pending q → plain_homes old ≡ plain_homes last → lacks one ≡ false → lacks other ≡ false → TurnsHalf one p m old new → TurnsHalf other q m last behind →
      (bare_turned one ≡ bare_turned other) × (plain_homes new ≡ plain_homes behind)
  pub stays : (m : Means) (result : HalfTurned E) (p : PendingNow) (old new : Homes) → IsHalfInMemory p → AllByRecursion IsFit old.records → lacks result ≡ false → TurnsHalf result p m old new →
      AllByRecursion IsFit new.records × AllByRecursion IsHalfInMemory (stays_by result)
