-- What a turn takes of the letters that wait, by its answer. This project's own.
use Rattle.std.specs.Prelude.{◌≡◌, ◌<◌, List, [], length, take, drop}
use Rattle.m2_dispatch.specs.declared.letter.Letter.{Letter}
use Rattle.m2_dispatch.specs.declared.turn.DispatchTurn.{DispatchTurn}
use Rattle.m2_dispatch.specs.declared.turn.DispatchTurn.TheVariants.{One, Nothing, NoMemory}

-- the letters that it dispatches: the first one, or none
abbrev pub dispatched : DispatchTurn → List Letter → List Letter
dispatched One old = take 1 old
dispatched Nothing old = []
dispatched NoMemory old = []

-- `One` took the first letter; `Nothing` comes where none waits; `NoMemory` leaves what waits
abbrev pub IsTurn : DispatchTurn → List Letter → List Letter → Type 0
IsTurn One old new = (0 < length old) × (new ≡ drop 1 old)
IsTurn Nothing old new = (old ≡ []) × (new ≡ [])
IsTurn NoMemory old new = (0 < length old) × (new ≡ old)
