-- How far each of two halves that are alike gets in a turn, where their ends are in memory. This project's own.
use Rattle.std.specs.Prelude.{◌≡◌, ◌≢◌}
use Rattle.m2_fabric.specs.Kinds.{IsInMemory}
use Rattle.m2_trail.specs.Incoming.{IncomingNow}
use Rattle.m2_trail.specs.Turn.{AdvancesAs}
use Rattle.m2_trail.specs.declared.turn.HalfTurn.{HalfTurn}
use Rattle.m2_trail.specs.declared.turn.HalfTurn.TheVariants as turn
use Rattle.m2_exact.specs.Halves.{plain}

-- But for want of memory, halves that are alike make as many moves, come to the same, and stay alike, over ends in memory.
pub record LikeHalvesAdvanceAlike : Type 0 where
  pub advances : (one other : HalfTurn) (v w new behind : IncomingNow) → IsInMemory v.end → plain v ≡ plain w → one ≢ turn.NoMemory → other ≢ turn.NoMemory → AdvancesAs one v new →
      AdvancesAs other w behind → (one ≡ other) × (plain new ≡ plain behind)
  pub stays : (result : HalfTurn) (old new : IncomingNow) → IsInMemory old.end → AdvancesAs result old new → IsInMemory new.end
