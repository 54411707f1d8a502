-- The laws of halves in their turn. This project's own.
use Rattle.std.specs.Prelude.{◌≡◌}
use Rattle.m2_fabric.specs.End.{SeenEnd}
use Rattle.m2_journal.specs.Growth.{IsExtended}
use Rattle.m2_trail.specs.Incoming.{IncomingNow}
use Rattle.m2_trail.specs.Trails.{TrailNow}
use Rattle.m2_trail.specs.declared.turn.HalfTurn.{HalfTurn}
use Rattle.m2_trail.specs.Turn.{AdvancesAs}

-- the same end, later: what it did goes on as it was, and it wasn't closed
pub record IsLaterEnd (old new : SeenEnd) : Type 0 where
  pub id : new.id ≡ old.id
  pub got : IsExtended old.log.got new.log.got
  pub put : IsExtended old.log.put new.log.put
  pub runs : IsExtended old.log.runs new.log.runs
  pub closed : new.log.closed ≡ old.log.closed

-- its trail, later: nothing was judged
pub record IsLaterTrail (old new : TrailNow) : Type 0 where
  pub socket : new.socket ≡ old.socket
  pub entity : new.entity ≡ old.entity
  pub entries : IsExtended old.entries new.entries
  pub judged : new.judged ≡ old.judged
  pub judged_after : new.judged_after ≡ old.judged_after

-- the same half, later: nothing was judged or refused
pub record IsLater (old new : IncomingNow) : Type 0 where
  pub end : IsLaterEnd old.end new.end
  pub trail : IsLaterTrail old.trail new.trail
  pub is_judged : new.is_judged ≡ old.is_judged
  pub refused : new.refused ≡ old.refused

-- a turn leaves the same half
abbrev pub TurnsLeaveTheHalf : Type 0
TurnsLeaveTheHalf = (turn : HalfTurn) (old new : IncomingNow) → AdvancesAs turn old new → IsLater old new
