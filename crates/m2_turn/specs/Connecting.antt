-- A connect that is due, made at a port. This project's own.
use Rattle.std.specs.Prelude.{◌≡◌, ℕ, List, Result, Ok, Err}
use Rattle.m2_bytes.specs.declared.memory.NoMemory as memory
use Rattle.m2_fabric.specs.declared.port.Connect.{Connect}
use Rattle.m2_fabric.specs.declared.port.Connect.TheVariants as connect
use Rattle.m2_fabric.specs.declared.socket.SocketId.{SocketId}
use Rattle.m2_fabric.specs.End.{SeenEnd}
use Rattle.m2_fabric.specs.Port as port
use Rattle.m2_fabric.specs.Port.{SeenPort}
use Rattle.m2_fabric.specs.Sockets.{IsNewTo}
use Rattle.m2_record.specs.declared.due.Due.{Due}
use Rattle.m2_record.specs.declared.due.Due.TheVariants as due
use Rattle.m2_record.specs.Calls.{Connects, IsSameButRoom, after_missing}
use Rattle.m2_record.specs.Due.{due_step}
use Rattle.m2_record.specs.RecordNow.{RecordNow}
use Rattle.m2_turn.specs.Steps.{came_in}

-- each socket that came to a record is one of those that were made
abbrev pub IsMadeBy : (made : List SocketId) → RecordNow → Type 0
IsMadeBy made r = (k : SocketId) → IsNewTo made k → IsNewTo (came_in r.journal) k

-- a record beside the port of its center
pub record AtPort : Type 0 where
  pub side : RecordNow
  pub port : SeenPort

-- by the port's answer: the socket is the feed, the connect was missed, or nothing is done; room aside
abbrev pub Takes : Connect SeenEnd → (now : ℕ) → RecordNow → RecordNow → Type 0
Takes (connect.Made e) now old new = (mid : RecordNow) × IsSameButRoom old mid × Connects e mid new
Takes connect.Failed now old new = (mid : RecordNow) × IsSameButRoom old mid × (new ≡ after_missing now mid)
Takes connect.NoMemory now old new = IsSameButRoom old new

abbrev pub answer_of : Connect SeenEnd → Result (Unit {0}) memory.NoMemory
answer_of (connect.Made e) = Ok tt
answer_of connect.Failed = Ok tt
answer_of connect.NoMemory = Err (record {})

-- a socket to the peer is asked of the port
pub record Dials (result : Result (Unit {0}) memory.NoMemory) (now : ℕ) (old new : AtPort) : Type 0 where
  pub made : Connect SeenEnd
  pub answers : result ≡ answer_of made
  pub port : port.Connects made old.side.core.facts.peer old.port new.port
  pub takes : Takes made now old.side new.side

-- where no connect is due nothing is done
abbrev pub DialsFor : Due → Result (Unit {0}) memory.NoMemory → (now : ℕ) → AtPort → AtPort → Type 0
DialsFor (due.Connect at) result now old new = Dials result now old new
DialsFor _ result now old new = (result ≡ Ok tt) × (new ≡ old)

abbrev pub DialsIfDue : Result (Unit {0}) memory.NoMemory → (now : ℕ) → AtPort → AtPort → Type 0
DialsIfDue result now old new = DialsFor (due_step now old.side) result now old new
