-- What is left of a node whose event threads have ended: its records, and the halves that no record took, of all its threads. Nothing
-- is asked of the sockets between nodes: an opener's port may be any, others may connect, and bytes may be any. This project's own.
use Rattle.std.specs.Prelude.{◌≡◌, ◌⊎◌, ◌<◌, ◌^◌, true, false, List, [], ◌++◌, map, IfSome}
use Rattle.std.specs.List.{AllByRecursion, IsDistinct, flat_map}
use Rattle.m2_fabric.specs.m2_addr.declared.addr.Addr.{Addr}
use Rattle.m2_weave.specs.m2_control.Laws.{HasAddrRanges}
use Rattle.m2_fabric.specs.declared.socket.SocketId.{SocketId}
use Rattle.m2_fabric.specs.End.{SeenEnd}
use Rattle.m2_fabric.specs.SimFabric.{same_place}
use Rattle.m2_fabric.specs.Sockets.{goes_to, is_among}
use Rattle.m2_growth.specs.m2_bytes_fit.Halves.{KeepsRanges}
use Rattle.m2_growth.specs.Ends.{AreOfTheirOwn}
use Rattle.m2_growth.specs.Halves.{AskedTowards, HasItsHalves, IsOneOf, all_left, asked_on}
use Rattle.m2_growth.specs.Holding.{Holding}
use Rattle.m2_growth.specs.Records.{ends_of_all}
use Rattle.m2_weave.specs.m2_handshake.Asks.{same_addr}
use Rattle.m2_weave.specs.m2_handshake.Laws.{IsPrefix}
use Rattle.m2_history.specs.Link.{IsWholeHalf}
use Rattle.m2_weave.specs.m2_journal.Lawful.{judged_on}
use Rattle.m2_weave.specs.m2_journal.State.{Judgement}
use Rattle.m2_history.specs.m2_record.IsRecord.{IsRecord}
use Rattle.m2_history.specs.m2_record.RecordNow.{RecordNow}
use Rattle.m2_history.specs.m2_record.Sources.{end_at, got_of}
use Rattle.m2_history.specs.m2_record.TakenTrails.{judgements_in}
use Rattle.m2_growth.specs.m2_turn.Sessions.{peer_of}
use Rattle.m2_history.specs.m2_trail.Arrivals.{IsArrival, LooseNow}
use Rattle.m2_history.specs.m2_trail.Asks.{IsMain}
use Rattle.m2_history.specs.m2_trail.Incoming.{IncomingNow}
use Rattle.m2_history.specs.m2_trail.Trails.{TrailNow, opener_of}

-- where the node listens; its records; and the halves that none of them took
pub record LeftNode : Type 0 where
  pub at : Addr
  pub records : List RecordNow
  pub halves : List LooseNow

-- its ends: those of its records, and then those of its halves
abbrev pub ends_left : LeftNode → List SeenEnd
ends_left n = ends_of_all n.records ++ map (λ (l : LooseNow). l.end) n.halves

-- ---- records

-- it is of the node that listens there, and dials another place
pub record IsRecordOf (at : Addr) (r : RecordNow) : Type 0 where
  pub is : IsRecord r
  pub ranges : KeepsRanges r.core.facts
  pub mine : r.core.facts.mine ≡ at
  pub elsewhere : (k : SocketId) → goes_to (peer_of r) k ≡ true → goes_to at k ≡ false
  pub seen : AllByRecursion (λ (t : TrailNow). HasAddrRanges (opener_of t.socket)) r.trails

-- Of an ask that a record has judged: the half that was asked, as it was then. It was asked under the address of the record's peer;
-- and what it had got by then is the first of what the end of its socket has got now.
pub record CameOfPeer (ends : List SeenEnd) (r : RecordNow) (j : Judgement) : Type 0 where
  pub arrival : IncomingNow
  pub arrived : IsArrival arrival
  pub socket : arrival.end.id ≡ j.socket
  pub main : IfSome arrival.ask (λ ask. IsMain ask (peer_of r))
  pub got : IsPrefix arrival.end.log.got (got_of (end_at ends j.socket))

abbrev pub AllCameOfPeer : List SeenEnd → RecordNow → Type 0
AllCameOfPeer ends r = AllByRecursion (CameOfPeer ends r) (judgements_in r.journal)

-- ---- halves that no record took

-- a record has judged on its socket just what the half was told
pub record IsToldBy (l : LooseNow) (records : List RecordNow) : Type 0 where
  pub side : RecordNow
  pub there : IsOneOf side records
  pub asked : is_among l.trail.socket (asked_on side) ≡ true

-- It is on a socket that goes to the node. Whichever record has judged asks there has judged just those that the half was told of; and
-- where it was told of any, one has.
pub record IsHalfOf (at : Addr) (records : List RecordNow) (l : LooseNow) : Type 0 where
  pub whole : IsWholeHalf l
  pub here : goes_to at l.end.id ≡ true
  pub entity : l.trail.entity < 2 ^ 8
  pub seen : HasAddrRanges (opener_of l.trail.socket)
  pub told : AllByRecursion (λ (r : RecordNow). is_among l.trail.socket (asked_on r) ≡ true → l.trail.judged ≡ judged_on l.trail.socket (judgements_in r.journal)) records
  pub judged : (l.trail.judged ≡ []) ⊎ IsToldBy l records

-- ---- a node

-- No two of its records are towards one peer, and of each socket it has one end. The half of each ask that was judged is there, on a
-- socket that goes to the node, and came of the record's peer.
pub record IsLeftNode (n : LeftNode) : Type 0 where
  pub records : AllByRecursion (IsRecordOf n.at) n.records
  pub peers : IsDistinct same_addr (map peer_of n.records)
  pub halves : AllByRecursion (IsHalfOf n.at n.records) n.halves
  pub own : AreOfTheirOwn (ends_left n)
  pub each : AllByRecursion (HasItsHalves n.halves) n.records
  pub asked : AllByRecursion (AskedTowards n.at) n.records
  pub came : AllByRecursion (AllCameOfPeer (ends_left n)) n.records

-- ---- all nodes

abbrev pub all_halves : List LeftNode → List LooseNow
all_halves nodes = flat_map (λ (n : LeftNode). n.halves) nodes

-- they listen at different places
pub record AreLeftNodes (nodes : List LeftNode) : Type 0 where
  pub each : AllByRecursion IsLeftNode nodes
  pub apart : IsDistinct same_place (map (λ (n : LeftNode). n.at) nodes)

-- two nodes, and a record of each that is towards the other
pub record AreTowards (nodes : List LeftNode) (n m : LeftNode) (a b : RecordNow) : Type 0 where
  pub near : IsOneOf n nodes
  pub far : IsOneOf m nodes
  pub mine : IsOneOf a n.records
  pub theirs : IsOneOf b m.records
  pub a_peer : peer_of a ≡ m.at
  pub b_peer : peer_of b ≡ n.at

-- ---- of one center

-- what one center holds, as a node that has no other
abbrev pub left_node : Holding → LeftNode
left_node h = record { at = h.port.at; records = h.records; halves = all_left h.halves }

-- what a record was made of, and the openers of its halves keep the ranges of their types
pub record IsNamed (at : Addr) (r : RecordNow) : Type 0 where
  pub ranges : KeepsRanges r.core.facts
  pub mine : r.core.facts.mine ≡ at
  pub seen : AllByRecursion (λ (t : TrailNow). HasAddrRanges (opener_of t.socket)) r.trails

pub record IsSeen (l : LooseNow) : Type 0 where
  pub entity : l.trail.entity < 2 ^ 8
  pub seen : HasAddrRanges (opener_of l.trail.socket)
