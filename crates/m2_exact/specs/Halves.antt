-- One move of each of two halves that are alike but for room and for where the parts of their asks lie, where their ends are
-- in memory. This project's own.
use Rattle.std.specs.Prelude.{◌≡◌, ℕ, Bool, true, false, List, [], take}
use Rattle.std.specs.Option.{option_map}
use Rattle.m2_fabric.specs.Kinds.{IsInMemory}
use Rattle.m2_fabric.specs.declared.end.EndRead.{EndRead}
use Rattle.m2_fabric.specs.declared.end.EndRead.TheVariants as read
use Rattle.m2_fabric.specs.declared.end.EndWrite.TheVariants as write
use Rattle.m2_script.specs.m2_center.m2_turn.m2_handshake.Asks.{bare_ask}
use Rattle.m2_trail.specs.declared.step.IncomingStep.TheVariants as step
use Rattle.m2_trail.specs.Incoming.{IncomingNow}
use Rattle.m2_trail.specs.TurnMoves.{Makes, Move, answers, outcome_of, reads, writes}

-- a half without where the parts of its ask lie in memory
abbrev pub bare : IncomingNow → IncomingNow
bare v = record v { ask = option_map bare_ask v.ask }

-- and without how much room there is
abbrev pub plain : IncomingNow → IncomingNow
plain v = record (bare v) { room = 0 }

-- a move for which memory ran out
abbrev pub lacks : Move → Bool
lacks (writes write.NoMemory) = true
lacks (answers step.NoMemory) = true
lacks (reads read.NoMemory piece) = true
lacks move = false

-- the bytes that a read gave
abbrev pub given : EndRead → (piece : List ℕ) → List ℕ
given (read.Got n) piece = take n piece
given answer piece = []

-- a move without what lies in the piece behind the bytes that the read gave
abbrev pub told : Move → Move
told (reads answer piece) = reads answer (given answer piece)
told move = move

-- Two halves that are alike make moves of which the same is told, and so with one outcome, and stay alike, over ends in
-- memory. A move leaves the room as it is.
pub record LikeHalvesMoveAlike : Type 0 where
  pub moves : (one other : Move) (v w new behind : IncomingNow) → IsInMemory v.end → plain v ≡ plain w → lacks one ≡ false → lacks other ≡ false →
      Makes one v new → Makes other w behind → (told one ≡ told other) × (plain new ≡ plain behind)
  pub outcomes : (one other : Move) → told one ≡ told other → outcome_of one ≡ outcome_of other
  pub room : (move : Move) (v new : IncomingNow) → Makes move v new → new.room ≡ v.room
  pub stays : (move : Move) (v new : IncomingNow) → IsInMemory v.end → Makes move v new → IsInMemory new.end
