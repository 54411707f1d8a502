-- What a half does in a node's turn, and what it comes to. This project's own.
use Rattle.std.specs.Prelude.{◌≡◌, ℕ, ◌<◌, ◌≤◌, List, [], ◌∷◌, length, None, IsSome}
use Rattle.m2_trail.specs.Incoming.{IncomingNow}
use Rattle.m2_trail.specs.declared.turn.HalfTurn.{HalfTurn}
use Rattle.m2_trail.specs.declared.turn.HalfTurn.TheVariants as turn
use Rattle.m2_trail.specs.declared.turn.TheConstants.{MOST_MOVES}
use Rattle.m2_trail.specs.declared.turn_moves.Outcome.{Outcome}
use Rattle.m2_trail.specs.declared.turn_moves.Outcome.TheVariants.{GoesOn, Waits, Ends, Lacks}
use Rattle.m2_trail.specs.TurnMoves.{MakesMove}

-- A half that wasn't asked makes a move and goes on, again and again; the list has where it stood after each move.
abbrev pub Moves : List IncomingNow → IncomingNow → IncomingNow → Type 0
Moves [] old new = old ≡ new
Moves (v ∷ vs) old new = (old.ask ≡ None) × MakesMove GoesOn old v × Moves vs v new

-- after at most so many moves it was asked
pub record IsAskedWithin (most : ℕ) (old new : IncomingNow) : Type 0 where
  pub stood : List IncomingNow
  pub moves : Moves stood old new
  pub within : length stood ≤ most
  pub asked : IsSome new.ask

-- after fewer moves it made one with this outcome
pub record EndsWithin (most : ℕ) (outcome : Outcome) (old new : IncomingNow) : Type 0 where
  pub stood : List IncomingNow
  pub before : IncomingNow
  pub moves : Moves stood old before
  pub within : length stood < most
  pub unasked : before.ask ≡ None
  pub last : MakesMove outcome before new

-- so many moves are made, and it wasn't asked
pub record GoesOnFor (all : ℕ) (old new : IncomingNow) : Type 0 where
  pub stood : List IncomingNow
  pub moves : Moves stood old new
  pub many : length stood ≡ all
  pub unasked : new.ask ≡ None

abbrev pub AdvancesAs : HalfTurn → IncomingNow → IncomingNow → Type 0
AdvancesAs turn.Asked old new = IsAskedWithin MOST_MOVES old new
AdvancesAs turn.Waits old new = EndsWithin MOST_MOVES Waits old new
AdvancesAs turn.Busy old new = GoesOnFor MOST_MOVES old new
AdvancesAs turn.Over old new = EndsWithin MOST_MOVES Ends old new
AdvancesAs turn.NoMemory old new = EndsWithin MOST_MOVES Lacks old new
