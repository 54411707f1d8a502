-- What contracts see of an end of a socket of the system.
use Rattle.std.specs.Prelude.{◌≡◌, ℕ, ◌-◌, ◌≤◌, Bool, if◌then◌else◌, List, [], ◌∷◌, ◌++◌, length, min, take, None}
use Rattle.m2_fabric.specs.End.{SeenEnd}
use Rattle.m2_fabric.specs.Log.{Log, nothing_done}
use Rattle.m2_fabric.specs.declared.end.EndRead.{EndRead}
use Rattle.m2_fabric.specs.declared.end.EndRead.TheVariants as read
use Rattle.m2_fabric.specs.declared.end.EndWrite.{EndWrite}
use Rattle.m2_fabric.specs.declared.end.EndWrite.TheVariants as write
use Rattle.m2_fabric.specs.declared.log.TheConstants.{MOST_MOVED}
use Rattle.m2_fabric.specs.declared.socket.SocketId.{SocketId}
use Rattle.m2_mio.specs.Stream.{Answers, mark_of}
use Rattle.m2_mio.specs.declared.end.TheConstants.{MOST_UNSENT}

-- what every end shows; how many of the bytes that were put the system has taken, and what it answered
pub record MioSeen : Type 0 where
  pub shows : SeenEnd
  pub sent : ℕ
  pub answers : Answers

-- an end before its first call; it tells nothing of what will be readable
abbrev pub fresh_mio_end : SocketId → SeenEnd
fresh_mio_end id = record { id = id; log = nothing_done; faults = 0; left = None; inflow = None }

-- The bytes that an end got are just those that the system gave; and those that the system took are the first ones
-- that were put, as many as were sent.
pub record IsHandedOn (log : Log) (sent : ℕ) (a : Answers) : Type 0 where
  pub within : sent ≤ length log.put
  pub got : a.given ≡ log.got
  pub taken : a.taken ≡ take sent log.put

-- how many bytes were put and not sent yet
abbrev pub unsent : MioSeen → ℕ
unsent s = length s.shows.log.put - s.sent

-- What a read answers where the system answered so: that it would have to wait is an error of the socket once the system
-- has refused a write, since the other side may wait for what was refused.
abbrev pub answered : Bool → EndRead → EndRead
answered refused read.NotYet = if refused then read.Failed else read.NotYet
answered refused own = own

-- the system was asked for one read, answered so, and this is the read's answer
pub record AsksOnce (answer : EndRead) (old new : MioSeen) : Type 0 where
  pub own : EndRead
  pub asked : new.answers.reads ≡ old.answers.reads ++ mark_of own ∷ []
  pub answer_is : answer ≡ answered new.answers.refused own

-- A read asks the system once and answers by that; for want of memory it doesn't ask.
abbrev pub Asks : EndRead → MioSeen → MioSeen → Type 0
Asks read.NoMemory old new = new.answers.reads ≡ old.answers.reads
Asks answer old new = AsksOnce answer old new

-- How much a write takes: the whole piece, as far as one write moves it. It has to wait only where so much is unsent that
-- the system has to take some first.
abbrev pub TakesWhole : EndWrite → List ℕ → MioSeen → Type 0
TakesWhole (write.Put n) piece new = n ≡ min (length piece) MOST_MOVED
TakesWhole write.NotYet piece new = MOST_UNSENT ≤ unsent new
TakesWhole _ piece new = Unit {0}
