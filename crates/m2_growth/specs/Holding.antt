-- A port, and the records and halves that have the ends of its sockets; and what becomes of all of them. This project's own.
use Rattle.std.specs.Prelude.{◌≡◌, true, false, List, [], ◌++◌, map, unwrap_or}
use Rattle.std.specs.List.{AllByRecursion, IsDistinct}
use Rattle.m2_fabric.specs.declared.socket.SocketId.{SocketId}
use Rattle.m2_fabric.specs.End.{SeenEnd}
use Rattle.m2_fabric.specs.Port.{SeenPort}
use Rattle.m2_fabric.specs.Sockets.{IsNewTo, goes_to, is_among}
use Rattle.m2_turn.specs.m2_handshake.Asks.{same_addr}
use Rattle.m2_turn.specs.m2_record.RecordNow.{RecordNow}
use Rattle.m2_turn.specs.Beside.{MadeOn}
use Rattle.m2_turn.specs.Halves.{AllHalves}
use Rattle.m2_turn.specs.Hearing.{ends_in}
use Rattle.m2_turn.specs.Sessions.{peer_of}
use Rattle.m2_bytes_fit.specs.m2_trail.Arrivals.{LooseNow}
use Rattle.m2_growth.specs.Ends.{AreOfTheirOwn, EndsGrow}
use Rattle.m2_growth.specs.Halves.{AreAskedByPeers, AskedOnMade, HalvesStay, HasItsHalves, IsHeardBy, all_left, AskedTowards, OneJudge}
use Rattle.m2_growth.specs.Records.{IsFed, RecordsGrow, ends_of_all}

pub record Holding : Type 0 where
  pub port : SeenPort
  pub records : List RecordNow
  pub halves : AllHalves

-- ---- ends

-- those of records and halves
abbrev pub ends_held : Holding → List SeenEnd
ends_held h = ends_of_all h.records ++ ends_in h.halves

-- those that wait for an accept, at a port in memory
abbrev pub waiting_at : SeenPort → List SeenEnd
waiting_at p = unwrap_or p.waiting []

abbrev pub all_ends : Holding → List SeenEnd
all_ends h = ends_held h ++ waiting_at h.port

-- it goes to the port, which didn't make it
pub record IsToCome (port : SeenPort) (e : SeenEnd) : Type 0 where
  pub here : goes_to port.at e.id ≡ true
  pub new : IsNewTo port.made e.id

-- sockets to the record's peer don't go to the port
abbrev pub LeadsElsewhere : SeenPort → RecordNow → Type 0
LeadsElsewhere port r = (k : SocketId) → goes_to r.core.facts.peer k ≡ true → goes_to port.at k ≡ false

-- Each socket has one end: those of records and halves are of sockets that the port made, and those that wait at one in memory of
-- others. Records dial others than the port, and have a feed where their phase has one: so a socket that is dialled, or taken,
-- replaces none. A half is on the socket of its end, which goes to the port.
pub record AreOwn (h : Holding) : Type 0 where
  pub held : AreOfTheirOwn (ends_held h)
  pub made : AllByRecursion (λ (e : SeenEnd). is_among e.id h.port.made ≡ true) (ends_held h)
  pub waiting : AreOfTheirOwn (waiting_at h.port)
  pub to_come : AllByRecursion (IsToCome h.port) (waiting_at h.port)
  pub elsewhere : AllByRecursion (LeadsElsewhere h.port) h.records
  pub fed : AllByRecursion IsFed h.records
  pub on_socket : AllByRecursion (λ (l : LooseNow). l.trail.socket ≡ l.end.id) (all_left h.halves)
  pub here : AllByRecursion (λ (l : LooseNow). goes_to h.port.at l.end.id ≡ true) (all_left h.halves)

-- Each ask that a record has judged has its half, on a socket that the port made and that goes there, and no two records have
-- judged on one socket; of a half that no record took none but the record of its asker has judged asks, of which there is one at
-- most.
pub record HaveTheirHalves (h : Holding) : Type 0 where
  pub each : AllByRecursion (HasItsHalves (all_left h.halves)) h.records
  pub made : AllByRecursion (AskedOnMade h.port.made) h.records
  pub here : AllByRecursion (AskedTowards h.port.at) h.records
  pub one_judge : OneJudge h.records
  pub askers : AllByRecursion (IsHeardBy h.records) h.halves.pending
  pub peers : IsDistinct same_addr (map peer_of h.records)

-- ---- what becomes of them

-- Of all that was done nothing is undone: records grow, halves stay or are taken, ends grow, and sockets are made behind those
-- that were. Asks are judged that came of the peer.
pub record HoldingGrows (old new : Holding) : Type 0 where
  pub at : new.port.at ≡ old.port.at
  pub made : MadeOn old.port.made new.port.made
  pub records : RecordsGrow old.records new.records
  pub halves : HalvesStay old.halves new.halves new.records
  pub ends : EndsGrow (all_ends old) (all_ends new)
  pub asked : AreAskedByPeers (all_ends old) (all_ends new) old.records new.records

-- and what each owes the others stays so
pub record Grows (old new : Holding) : Type 0 where
  pub grows : HoldingGrows old new
  pub own : AreOwn new
  pub judged : HaveTheirHalves old → HaveTheirHalves new
