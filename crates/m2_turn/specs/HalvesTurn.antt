-- What the halves of a center do in its turn: each that is there when it begins takes its turn once, the oldest first, until one
-- ends for want of memory. This project's own.
use Rattle.std.specs.Prelude.{◌≡◌, List, [], ◌∷◌, ◌++◌}
use Rattle.m2_fabric.specs.declared.socket.SocketId.{SocketId}
use Rattle.m2_trail.specs.Arrivals.{LooseNow}
use Rattle.m2_turn.specs.declared.half_turn.HalfTurned.{HalfTurned}
use Rattle.m2_turn.specs.declared.half_turn.HalfTurned.TheVariants as turned
use Rattle.m2_turn.specs.declared.halves_turn.HalvesTurn.{HalvesTurn}
use Rattle.m2_turn.specs.declared.halves_turn.HalvesTurn.TheVariants as turn
use Rattle.m2_turn.specs.HalfTurn.{Homes, TurnsHalf}
use Rattle.m2_turn.specs.RecordTurn.{Means}
use Rattle.m2_turn.specs.Sessions.{PendingNow, Sessions}

-- what turns of halves can change: the halves and those that are over, the records, and the passes of the thread
pub record Callers : Type 0 where
  pub halves : List PendingNow
  pub loose : List LooseNow
  pub homes : Homes

abbrev pub callers : List PendingNow → List LooseNow → Homes → Callers
callers halves loose homes = record { halves = halves; loose = loose; homes = homes }

-- the same in the midst of it: the halves whose turn is to come, and before them those that took theirs and stay
pub record HalvesTurning : Type 0 where
  pub stayed : List PendingNow
  pub waiting : List PendingNow
  pub loose : List LooseNow
  pub homes : Homes

abbrev pub all_wait : Callers → HalvesTurning
all_wait c = record { stayed = []; waiting = c.halves; loose = c.loose; homes = c.homes }

abbrev pub callers_in : HalvesTurning → Callers
callers_in t = record { halves = t.stayed ++ t.waiting; loose = t.loose; homes = t.homes }

-- ---- one turn

abbrev pub stays_by : {E : Type 0} → HalfTurned E → List PendingNow
stays_by (turned.Open p) = p ∷ []
stays_by turned.Taken = []
stays_by (turned.Over l) = []
stays_by (turned.NoMemory p) = p ∷ []

abbrev pub over_by : {E : Type 0} → HalfTurned E → List LooseNow
over_by (turned.Over l) = l ∷ []
over_by _ = []

abbrev pub memory_in : {E : Type 0} → HalfTurned E → HalvesTurn
memory_in (turned.NoMemory p) = turn.NoMemory
memory_in _ = turn.Done

-- the first of the halves takes its turn, and is the last where it stays
pub record TurnsOldest (E : Type 0) (answer : HalvesTurn) (m : Means) (old new : Callers) : Type 0 where
  pub result : HalfTurned E
  pub oldest : PendingNow
  pub others : List PendingNow
  pub was : old.halves ≡ oldest ∷ others
  pub turns : TurnsHalf result oldest m old.homes new.homes
  pub halves : new.halves ≡ others ++ stays_by result
  pub loose : new.loose ≡ old.loose ++ over_by result
  pub answers : answer ≡ memory_in result

-- the oldest that waits takes its turn
pub record OldestTurns {E : Type 0} (result : HalfTurned E) (m : Means) (old new : HalvesTurning) : Type 0 where
  pub oldest : PendingNow
  pub waited : old.waiting ≡ oldest ∷ new.waiting
  pub turns : TurnsHalf result oldest m old.homes new.homes
  pub stayed : new.stayed ≡ old.stayed ++ stays_by result
  pub loose : new.loose ≡ old.loose ++ over_by result

abbrev pub HadMemory : {E : Type 0} → HalfTurned E → Type 0
HadMemory (turned.NoMemory p) = ⊥
HadMemory _ = Unit {0}

-- a turn that leads on
pub record TurnLeadsOn (E : Type 0) (m : Means) (old new : HalvesTurning) : Type 0 where
  pub result : HalfTurned E
  pub turns : OldestTurns result m old new
  pub memory : HadMemory result

-- ---- all of them

-- one turn after another; the list has how it stood behind each
abbrev pub HalfTurns : (E : Type 0) → Means → List HalvesTurning → HalvesTurning → HalvesTurning → Type 0
HalfTurns E m [] old new = old ≡ new
HalfTurns E m (t ∷ ts) old new = TurnLeadsOn E m old t × HalfTurns E m ts t new

pub record AllTurned (E : Type 0) (m : Means) (old new : HalvesTurning) : Type 0 where
  pub stood : List HalvesTurning
  pub turns : HalfTurns E m stood old new
  pub none : new.waiting ≡ []

pub record OneLacked (E : Type 0) (m : Means) (old new : HalvesTurning) : Type 0 where
  pub stood : List HalvesTurning
  pub mid : HalvesTurning
  pub turns : HalfTurns E m stood old mid
  pub pending : PendingNow
  pub last : OldestTurns {E = E} (turned.NoMemory pending) m mid new

abbrev pub TurnHalves : (E : Type 0) → HalvesTurn → Means → HalvesTurning → HalvesTurning → Type 0
TurnHalves E turn.Done m old new = AllTurned E m old new
TurnHalves E turn.NoMemory m old new = OneLacked E m old new

-- from all waiting to how it is left
pub record TurnsHalves (E : Type 0) (result : HalvesTurn) (m : Means) (old new : Callers) : Type 0 where
  pub behind : HalvesTurning
  pub turns : TurnHalves E result m (all_wait old) behind
  pub left : new ≡ callers_in behind

-- ---- the sessions

-- the halves, those that are over and the records, by the sockets that the port made
abbrev pub sessions_of : List SocketId → Callers → Sessions
sessions_of made c = record { made = made; records = c.homes.records; halves = c.halves; loose = c.loose }
