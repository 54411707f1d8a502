-- What is promised of strands to which things happen in turns.
use Rattle.std.specs.Prelude.{◌≡◌, ℕ, ◌<◌, List, []}
use Rattle.std.specs.List.{AllByRecursion}
use Rattle.m2_fabric.specs.declared.socket.SocketId.{SocketId}
use Rattle.m2_weave.specs.Rule.{Woven, strand_at}
use Rattle.m2_weave.specs.Stops.{IsWoven}
use Rattle.m2_weave.specs.Strands.{StrandNow}
use Rattle.m2_weave.specs.Later.{AreTurns, IsOfTurn, IsTurn, IsTurnOfBytes, ReadsAt, behind}

-- all that happened has an order
abbrev pub HasOrder : Woven → Type 0
HasOrder w = (order : List ℕ) × IsWoven w order

-- where there is one before a turn, there is one behind it
abbrev pub TurnsAreWoven : Type 0
TurnsAreWoven = (old new : Woven) → IsTurn old new → HasOrder old → HasOrder new

-- where bytes had flowed before the turn, what is read in it had been written before it
abbrev pub FlowedWasWritten : Type 0
FlowedWasWritten = (old new : Woven) → IsTurnOfBytes old new → IsTurn old new

-- nothing has happened yet
abbrev pub IsAtStart : Woven → Type 0
IsAtStart w = AllByRecursion (λ (s : StrandNow). s.items ≡ []) w.strands

-- so there is one behind any number of turns
abbrev pub RunsAreWoven : Type 0
RunsAreWoven = (w : Woven) (turns : List Woven) → IsAtStart w → AreTurns w turns → HasOrder (behind w turns)

-- There are turns in which something is read.
pub record ATurnIsReadIn : Type 0 where
  pub old : Woven
  pub new : Woven
  pub order : HasOrder old
  pub turn : IsTurn old new
  pub strand : ℕ
  pub item : ℕ
  pub of_turn : IsOfTurn old turn.later.place strand item
  pub socket : SocketId
  pub count : ℕ
  pub some : 0 < count
  pub reads : ReadsAt (strand_at new strand) item socket count
