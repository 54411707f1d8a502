-- The turns of the halves of two centers that are alike, the oldest first. This project's own.
use Rattle.std.specs.Prelude.{◌≡◌, List, map}
use Rattle.std.specs.List.{AllByRecursion}
use Rattle.m2_trail.specs.Arrivals.{LooseNow}
use Rattle.m2_script.specs.m2_center.m2_turn.HalvesTurn.{Callers, TurnsHalves}
use Rattle.m2_script.specs.m2_center.m2_turn.Hearing.{IsHalfInMemory}
use Rattle.m2_script.specs.m2_center.m2_turn.RecordTurn.{Means}
use Rattle.m2_script.specs.m2_center.m2_turn.Sessions.{PendingNow}
use Rattle.m2_script.specs.m2_center.m2_turn.declared.halves_turn.HalvesTurn.TheVariants as turn
use Rattle.m2_exact.specs.Accepts.{plain_pending}
use Rattle.m2_exact.specs.HalfTurns.{PlainHomes, plain_homes}
use Rattle.m2_exact.specs.RecordTurns.{HasAlone, IsFit}

pub record PlainCallers : Type 0 where
  pub halves : List PendingNow
  pub loose : List LooseNow
  pub homes : PlainHomes

abbrev pub plain_callers : Callers → PlainCallers
plain_callers c = record { halves = map plain_pending c.halves; loose = c.loose; homes = plain_homes c.homes }

-- the ends of the halves are in memory, beside records that are fit
pub record AreFitCallers (c : Callers) : Type 0 where
  pub halves : AllByRecursion IsHalfInMemory c.halves
  pub records : AllByRecursion IsFit c.homes.records

-- Turns of all halves that begin alike, and found memory, leave what is alike, and stay fit.
pub record LikeAllHalvesTurnAlike (E : Type 0) : Type 0 where
  pub turns : (m : Means) (old last new behind : Callers) → HasAlone m → AreFitCallers old → plain_callers old ≡ plain_callers last → TurnsHalves E turn.Done m old new →
      TurnsHalves E turn.Done m last behind → plain_callers new ≡ plain_callers behind
  pub stays : (m : Means) (old new : Callers) → AreFitCallers old → TurnsHalves E turn.Done m old new → AreFitCallers new
