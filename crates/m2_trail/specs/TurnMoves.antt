-- The moves of a half in a node's turn: what it has written is put first, what it has read is answered while that gives an
-- answer, and only then is more read. What comes of a move is this project's own.
use Rattle.std.specs.Prelude.{◌≡◌, ℕ, ◌<◌, true, false, List, [], length}
use Rattle.m2_fabric.specs.declared.end.EndRead.{EndRead}
use Rattle.m2_fabric.specs.declared.end.EndRead.TheVariants as read
use Rattle.m2_fabric.specs.declared.end.EndWrite.{EndWrite}
use Rattle.m2_fabric.specs.declared.end.EndWrite.TheVariants as write
use Rattle.m2_handshake.specs.Moves.{is_at_rest}
use Rattle.m2_trail.specs.declared.incoming.TheConstants.{MOST_READ}
use Rattle.m2_trail.specs.declared.step.IncomingStep.{IncomingStep}
use Rattle.m2_trail.specs.declared.step.IncomingStep.TheVariants as step
use Rattle.m2_trail.specs.Incoming.{IncomingNow, ReadsOn, StepsOn, WritesOn}
use Rattle.m2_trail.specs.declared.turn_moves.Outcome.{Outcome}
use Rattle.m2_trail.specs.declared.turn_moves.Outcome.TheVariants.{GoesOn, Waits, Ends, Lacks}

-- a move, with its answer
pub data Move : Type 0 where
  writes : EndWrite → Move
  answers : IncomingStep → Move
  reads : EndRead → (piece : List ℕ) → Move

-- The move that a half makes where it stands, and what that leaves. It reads into MOST_READ bytes.
abbrev pub Makes : Move → IncomingNow → IncomingNow → Type 0
Makes (writes answer) old new = (0 < length old.left) × WritesOn answer old new
Makes (answers answer) old new = (old.left ≡ []) × (is_at_rest old.half ≡ false) × StepsOn answer old new
Makes (reads answer piece) old new = ((old.left ≡ []) × (length piece ≡ MOST_READ)) × (is_at_rest old.half ≡ true) × ReadsOn answer piece old new

abbrev pub outcome_of : Move → Outcome
outcome_of (writes (write.Put n)) = GoesOn
outcome_of (writes write.NotYet) = Waits
outcome_of (writes write.Failed) = Ends
outcome_of (writes write.NoMemory) = Lacks
outcome_of (answers (step.Fault f)) = Ends
outcome_of (answers step.NoMemory) = Lacks
outcome_of (answers _) = GoesOn
outcome_of (reads (read.Got n) piece) = GoesOn
outcome_of (reads read.NotYet piece) = Waits
outcome_of (reads read.Ended piece) = Ends
outcome_of (reads read.Failed piece) = Ends
outcome_of (reads read.NoMemory piece) = Lacks

-- a half that wasn't asked makes its move, with this outcome
pub record MakesMove (outcome : Outcome) (old new : IncomingNow) : Type 0 where
  pub move : Move
  pub makes : Makes move old new
  pub leads : outcome_of move ≡ outcome
