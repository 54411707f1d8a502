-- What a center keeps of its sessions and of the sockets of its peers, and what its parts owe one another: each half was told
-- just what the record of its asker has judged on its socket. This project's own.
use Rattle.std.specs.Prelude.{◌≡◌, ℕ, ◌≤◌, Bool, true, false, if◌then◌else◌, List, [], ◌++◌, map, Option, Some, None}
use Rattle.std.specs.List.{AllByRecursion, IsDistinct, list_any}
use Rattle.m2_addr.specs.declared.addr.Addr.{Addr}
use Rattle.m2_fabric.specs.declared.socket.SocketId.{SocketId}
use Rattle.m2_fabric.specs.Sockets.{IsNewTo, is_among, same_socket}
use Rattle.m2_handshake.specs.Asks.{same_addr}
use Rattle.m2_feed.specs.m2_journal.declared.entry.JudgedItem.{JudgedItem}
use Rattle.m2_feed.specs.m2_journal.Lawful.{judged_on}
use Rattle.m2_record.specs.declared.work.Work.{Work}
use Rattle.m2_record.specs.Calls.{Owns}
use Rattle.m2_record.specs.RecordNow.{RecordNow, ends_of, ids_of}
use Rattle.m2_record.specs.TakenTrails.{judgements_in}
use Rattle.m2_shared.specs.Gates.{Places, places}
use Rattle.m2_trail.specs.Arrivals.{LooseNow}
use Rattle.m2_trail.specs.Incoming.{IncomingNow}
use Rattle.m2_turn.specs.Connecting.{IsMadeBy}

-- A socket of a peer that no record took, with its half; and whose its first ask was, once it had one.
pub record PendingNow : Type 0 where
  pub half : IncomingNow
  pub asker : Option Addr

-- the sockets that the port made, the records in the order of the links, the halves in the order of acceptance, and the halves
-- that are over
pub record Sessions : Type 0 where
  pub made : List SocketId
  pub records : List RecordNow
  pub halves : List PendingNow
  pub loose : List LooseNow

-- ---- whose ask it is

abbrev pub peer_of : RecordNow → Addr
peer_of r = r.core.facts.peer

abbrev pub is_asker : Option Addr → Addr → Bool
is_asker (Some asker) peer = same_addr asker peer
is_asker None peer = false

-- ---- a half as records see it

pub record Caller : Type 0 where
  pub socket : SocketId
  pub entity : ℕ
  pub judged : List JudgedItem
  pub asker : Option Addr

abbrev pub caller_in : PendingNow → Caller
caller_in p = record { socket = p.half.end.id; entity = p.half.trail.entity; judged = p.half.trail.judged; asker = p.asker }

abbrev pub caller_of : Option Addr → LooseNow → Caller
caller_of asker l = record { socket = l.end.id; entity = l.trail.entity; judged = l.trail.judged; asker = asker }

-- what a record has judged of it: everything where it is the record of its asker, else nothing
abbrev pub told_by : RecordNow → Caller → List JudgedItem
told_by r c = if is_asker c.asker (peer_of r) then c.judged else []

-- The half named the kind of the record's node; the record has no end of its socket, and has judged there just what it told it.
pub record IsTold (c : Caller) (r : RecordNow) : Type 0 where
  pub entity : c.entity ≡ r.core.facts.node.entity
  pub new : IsNewTo (ids_of (ends_of r)) c.socket
  pub judged : told_by r c ≡ judged_on c.socket (judgements_in r.journal)

-- Its socket is one of those that the port made; each record knows it; and where none is that of its asker nothing was judged.
pub record IsCaller (at_port : List SocketId) (records : List RecordNow) (c : Caller) : Type 0 where
  pub made : is_among c.socket at_port ≡ true
  pub told : AllByRecursion (IsTold c) records
  pub unheard : list_any (λ r. is_asker c.asker (peer_of r)) records ≡ false → c.judged ≡ []

-- the same of a half that is over, whoever asked
pub record WasCaller (made : List SocketId) (records : List RecordNow) (l : LooseNow) : Type 0 where
  pub asker : Option Addr
  pub caller : IsCaller made records (caller_of asker l)

-- ---- what the parts owe one another

-- where the words of the node's throttles lie, and a global number that no record has used a greater one than
pub record Supply : Type 0 where
  pub places : Places
  pub least : ℕ

-- What the record holds was granted by the node's throttles, it has used no global number above those drawn, and each socket that
-- came to it is one of those that the port made.
pub record IsSupplied (s : Supply) (at_port : List SocketId) (r : RecordNow) : Type 0 where
  pub owned : Owns s.places r
  pub top : r.core.top ≤ s.least
  pub made : IsMadeBy at_port r

-- those of a thread's work
abbrev pub supply_of : Work → Supply
supply_of w = record { places = places w.throttles.now; least = w.number_pass.now.least }

abbrev pub sockets_of : Sessions → List SocketId
sockets_of s = map (λ (p : PendingNow). p.half.end.id) s.halves ++ map (λ (l : LooseNow). l.end.id) s.loose

pub record AreConsistent (supply : Supply) (entity : ℕ) (s : Sessions) : Type 0 where
  pub records : AllByRecursion (IsSupplied supply s.made) s.records
  pub kind : AllByRecursion (λ (r : RecordNow). r.core.facts.node.entity ≡ entity) s.records
  pub peers : IsDistinct same_addr (map peer_of s.records)
  pub halves : AllByRecursion (λ (p : PendingNow). IsCaller s.made s.records (caller_in p)) s.halves
  pub loose : AllByRecursion (WasCaller s.made s.records) s.loose
  pub apart : IsDistinct same_socket (sockets_of s)
