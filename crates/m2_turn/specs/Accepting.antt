-- How a center accepts the sockets that wait at its port. That it accepts all of them, and has so many halves at most, are rules
-- of the runtime; the rest is this project's own.
use Rattle.std.specs.Prelude.{◌≡◌, ℕ, ◌<◌, nat_lt, ◌⊎◌, if◌then◌else◌, List, [], ◌∷◌, ◌++◌, length, Option, Some, None}
use Rattle.m2_fabric.specs.declared.port.Taken.{Taken}
use Rattle.m2_fabric.specs.declared.port.Taken.TheVariants as taken
use Rattle.m2_fabric.specs.End.{SeenEnd}
use Rattle.m2_fabric.specs.Port.{Accepts, SeenPort}
use Rattle.m2_record.specs.RecordNow.{RecordNow}
use Rattle.m2_trail.specs.Arrivals.{LooseNow, closed_of}
use Rattle.m2_trail.specs.Incoming.{IncomingNow, accepted}
use Rattle.m2_turn.specs.declared.accepting.Accepted.{Accepted}
use Rattle.m2_turn.specs.declared.accepting.Accepted.TheVariants as accepts
use Rattle.m2_turn.specs.declared.accepting.TheConstants.{MOST_ACCEPTS}
use Rattle.m2_turn.specs.declared.pending.TheConstants.{MOST_HALVES}
use Rattle.m2_turn.specs.Halves.{AllHalves, halves_of, sessions_with}
use Rattle.m2_turn.specs.Sessions.{PendingNow, Sessions}

-- a port, and the halves on the sockets that it accepted
pub record Accepting : Type 0 where
  pub port : SeenPort
  pub halves : AllHalves

abbrev pub accepting : SeenPort → List PendingNow → List LooseNow → Accepting
accepting port pending loose = record { port = port; halves = halves_of pending loose }

abbrev pub sessions_at : List RecordNow → Accepting → Sessions
sessions_at records a = sessions_with a.port.made records a.halves

-- ---- one accept

-- a half that has no asker yet
abbrev pub unasked : IncomingNow → PendingNow
unasked half = record { half = half; asker = None }

-- It is the last half; where the halves are full its end is closed, and it is the last of those that are over.
abbrev pub joined : IncomingNow → AllHalves → AllHalves
joined half h =
    if nat_lt (length h.pending) MOST_HALVES then record h { pending = h.pending ++ unasked half ∷ [] }
    else record h { loose = h.loose ++ closed_of half ∷ [] }

-- the port gave a socket, on which a half begins
pub record TakesIn (entity : ℕ) (old new : Accepting) : Type 0 where
  pub end : SeenEnd
  pub gives : Accepts (taken.Made end) old.port new.port
  pub room : ℕ
  pub joins : new.halves ≡ joined (accepted entity end room) old.halves

-- it gave none
pub record GivesNone (answer : Taken SeenEnd) (old new : Accepting) : Type 0 where
  pub gives : Accepts answer old.port new.port
  pub same : new.halves ≡ old.halves

-- ---- all accepts

-- what it is said to have ended with
abbrev pub EndsWith : Accepted → Accepting → Accepting → Type 0
EndsWith accepts.All old new = GivesNone taken.NotYet old new ⊎ GivesNone taken.Failed old new
EndsWith accepts.NoMemory old new = GivesNone taken.NoMemory old new
EndsWith accepts.Busy old new = ⊥

-- none: a socket was accepted; else this is what accepting ends with
abbrev pub AcceptsOnce : (entity : ℕ) → Option Accepted → Accepting → Accepting → Type 0
AcceptsOnce entity None old new = TakesIn entity old new
AcceptsOnce entity (Some result) old new = EndsWith result old new

-- sockets one after another; the list has how it stood behind each
abbrev pub TakesAll : (entity : ℕ) → List Accepting → Accepting → Accepting → Type 0
TakesAll entity [] old new = old ≡ new
TakesAll entity (a ∷ rest) old new = TakesIn entity old a × TakesAll entity rest a new

-- fewer sockets than all that a turn accepts, and behind them
pub record TakenWithin (entity most : ℕ) (old mid : Accepting) : Type 0 where
  pub stood : List Accepting
  pub takes : TakesAll entity stood old mid
  pub within : length stood < most

pub record IsEnded (entity : ℕ) (result : Accepted) (old new : Accepting) : Type 0 where
  pub mid : Accepting
  pub taken : TakenWithin entity MOST_ACCEPTS old mid
  pub ends : EndsWith result mid new

pub record IsBusy (entity : ℕ) (old new : Accepting) : Type 0 where
  pub stood : List Accepting
  pub takes : TakesAll entity stood old new
  pub many : length stood ≡ MOST_ACCEPTS

abbrev pub AcceptsAll : (entity : ℕ) → Accepted → Accepting → Accepting → Type 0
AcceptsAll entity accepts.Busy old new = IsBusy entity old new
AcceptsAll entity result old new = IsEnded entity result old new
