-- Two nodes with a link between them, and what a turn does to it. This project's own.
use Rattle.std.specs.Prelude.{◌≡◌, ℕ, true, List, ◌++◌, slice_get, Some}
use Rattle.std.specs.List.{AllByRecursion}
use Rattle.m2_fabric.specs.m2_addr.declared.addr.Addr.{Addr}
use Rattle.m2_fabric.specs.declared.socket.SocketId.{SocketId}
use Rattle.m2_fabric.specs.Sockets.{goes_to, is_among}
use Rattle.m2_growth.specs.Halves.{all_left}
use Rattle.m2_growth.specs.Holding.{AreOwn, Grows, HaveTheirHalves, Holding}
use Rattle.m2_growth.specs.Records.{ends_of_all}
use Rattle.m2_history.specs.Link.{AreKept, IsWholeHalf, both_of}
use Rattle.m2_history.specs.Woven.{BothNow}
use Rattle.m2_history.specs.m2_record.IsRecord.{IsRecord}
use Rattle.m2_history.specs.m2_record.RecordNow.{RecordNow, ends_of, ids_of}
use Rattle.m2_cluster.specs.m2_center.m2_turn.Halves.{sessions_with}
use Rattle.m2_cluster.specs.m2_center.m2_turn.Sessions.{AreConsistent, Supply}
use Rattle.m2_history.specs.m2_trail.Arrivals.{LooseNow}
use Rattle.m2_links_go_on.specs.Records.{RecordsGoOn}
use Rattle.m2_links_go_on.specs.Told.{AreTold}
use Rattle.m2_weave.specs.Strands.{has_opened, journal_of}

-- ---- a node

-- what a node holds, and its record of the link
pub record NodeNow : Type 0 where
  pub holding : Holding
  pub side : RecordNow

-- the halves that no record of it took
abbrev pub left_at : NodeNow → List LooseNow
left_at n = all_left n.holding.halves

-- All its records are records, its halves are whole, and its parts owe one another nothing.
pub record IsNode (h : Holding) : Type 0 where
  pub records : AllByRecursion IsRecord h.records
  pub whole : AllByRecursion IsWholeHalf (all_left h.halves)
  pub own : AreOwn h
  pub halves : HaveTheirHalves h
  pub supply : Supply
  pub entity : ℕ
  pub sessions : AreConsistent supply entity (sessions_with h.port.made h.records h.halves)

-- ---- two nodes

pub record Nodes : Type 0 where
  pub near : NodeNow
  pub far : NodeNow

-- the link between them: both records, and the halves of either node that no record took
abbrev pub link_at : Nodes → BothNow
link_at n = both_of n.near.side n.far.side (left_at n.near ++ left_at n.far)

-- ---- a turn

-- A node acts, or stays: it is a node before and behind, of what it did nothing is undone, and its record of the link keeps its
-- place among the records.
pub record NodeGoesOn (old new : NodeNow) : Type 0 where
  pub before : IsNode old.holding
  pub now : IsNode new.holding
  pub grows : Grows old.holding new.holding
  pub place : ℕ
  pub was : slice_get old.holding.records place ≡ Some old.side
  pub is : slice_get new.holding.records place ≡ Some new.side

-- the record dials the place at which the port is
abbrev pub IsPeerAt : Addr → RecordNow → Type 0
IsPeerAt at r = (k : SocketId) → goes_to r.core.facts.peer k ≡ goes_to at k

-- of a socket that the other record has opened none but the node's record of the link has an end
abbrev pub HasNoOther : (other : RecordNow) → NodeNow → Type 0
HasNoOther other n = (k : SocketId) → has_opened (journal_of other.journal) k ≡ true → is_among k (ids_of (ends_of_all n.holding.records)) ≡ true → is_among k (ids_of (ends_of n.side)) ≡ true

-- Either node acts or stays. Each of the two records dials the other's node; and a half on a socket that one of them had opened
-- no other record has taken.
pub record NodesGoOn (old new : Nodes) : Type 0 where
  pub near : NodeGoesOn old.near new.near
  pub far : NodeGoesOn old.far new.far
  pub near_peer : IsPeerAt old.far.holding.port.at old.near.side
  pub far_peer : IsPeerAt old.near.holding.port.at old.far.side
  pub near_alone : HasNoOther old.far.side new.near
  pub far_alone : HasNoOther old.near.side new.far

-- Both records of a link go on, before the turn all that was got and put was told, and behind it sides and halves are what records
-- and halves keep.
pub record LinkGoesOn (old new : BothNow) : Type 0 where
  pub go_on : RecordsGoOn old new
  pub told : AreTold old
  pub kept : AreKept new
