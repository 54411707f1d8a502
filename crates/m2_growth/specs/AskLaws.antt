-- Whose asks come on a socket that a record has opened: its own. This project's own.
use Rattle.std.specs.Prelude.{◌≡◌, ℕ, true, List, IfSome}
use Rattle.std.specs.List.{AllByRecursion}
use Rattle.m2_fabric.specs.m2_addr.declared.addr.Addr.{Addr}
use Rattle.m2_fabric.specs.declared.socket.SocketId.{SocketId}
use Rattle.m2_bytes_fit.specs.Halves.{KeepsRanges}
use Rattle.m2_turn.specs.m2_handshake.Course.{Exchange, Reaches}
use Rattle.m2_turn.specs.m2_handshake.Laws.{IsPrefix}
use Rattle.m2_turn.specs.m2_handshake.Standing.{Standing, acceptor_at_start}
use Rattle.m2_turn.specs.m2_record.IsRecord.{IsRecord}
use Rattle.m2_turn.specs.m2_record.RecordNow.{RecordNow, ends_of}
use Rattle.m2_turn.specs.m2_record.Sources.{end_at, put_of}
use Rattle.m2_bytes_fit.specs.m2_trail.Arrivals.{IsArrival}
use Rattle.m2_bytes_fit.specs.m2_trail.Asks.{IsMain}
use Rattle.m2_bytes_fit.specs.m2_trail.Incoming.{IncomingNow}
use Rattle.m2_weave.specs.Strands.{has_opened, journal_of}

-- it is among those that its journal opened
abbrev pub IsOpenedBy : RecordNow → SocketId → Type 0
IsOpenedBy r k = has_opened (journal_of r.journal) k ≡ true

-- these bytes are the first that a record's end has put on a socket
abbrev pub ArePut : RecordNow → SocketId → (bytes : List ℕ) → Type 0
ArePut r k bytes = IsPrefix bytes (put_of (end_at (ends_of r) k))

-- each of the asks is under this main address
abbrev pub AskedBy : Addr → Exchange → Type 0
AskedBy main x = AllByRecursion (λ ask. IsMain ask main) x.asks

-- A half that has read what a record put on a socket that it opened, and nothing else, has come to no ask but under the record's
-- own address, whatever it was replied. The record may be lossy or not, and may have been marked down.
abbrev pub AsksAreTheOpeners : Type 0
AsksAreTheOpeners = (r : RecordNow) (k : SocketId) (entity : ℕ) (seen : Addr) (x : Exchange) (s : Standing) →
    IsRecord r → KeepsRanges r.core.facts → IsOpenedBy r k →
    Reaches (acceptor_at_start entity seen) x s → ArePut r k x.bytes → AskedBy r.core.facts.mine x

-- So is the ask that such a half hands on to be judged.
abbrev pub ArrivalsAreTheOpeners : Type 0
ArrivalsAreTheOpeners = (r : RecordNow) (k : SocketId) (v : IncomingNow) →
    IsRecord r → KeepsRanges r.core.facts → IsOpenedBy r k →
    IsArrival v → ArePut r k v.end.log.got → IfSome v.ask (λ ask. IsMain ask r.core.facts.mine)

-- So whoever it is that asks there is the record.
abbrev pub AskersAreTheOpeners : Type 0
AskersAreTheOpeners = (r : RecordNow) (k : SocketId) (v : IncomingNow) (asker : Addr) →
    IsRecord r → KeepsRanges r.core.facts → IsOpenedBy r k →
    IsArrival v → ArePut r k v.end.log.got → IfSome v.ask (λ ask. IsMain ask asker) → asker ≡ r.core.facts.mine
