-- Nodes in memory and the sockets between them, at rest between two deeds of a run: what holds always. This project's own.
use Rattle.std.specs.Prelude.{◌≡◌, ◌==◌, ◌||◌, ◌⊎◌, ℕ, true, false, List, ◌++◌, length, slice_get, slice_set, Some, None, IsSome}
use Rattle.std.specs.List.{AllByRecursion}
use Rattle.m2_fabric.specs.m2_addr.declared.addr.Addr.{Addr}
use Rattle.m2_fabric.specs.declared.socket.SocketId.{SocketId}
use Rattle.m2_fabric.specs.Holder.{SeenHolder}
use Rattle.m2_fabric.specs.Log.{nothing_done}
use Rattle.m2_fabric.specs.Sockets.{goes_to, is_among}
use Rattle.m2_lives.specs.m2_bytes_fit.Halves.{KeepsRanges}
use Rattle.m2_links_go_on.specs.m2_growth.Halves.{all_left, asked_on}
use Rattle.m2_links_go_on.specs.m2_growth.Holding.{Grows, Holding, all_ends, waiting_at}
use Rattle.m2_links_go_on.specs.m2_history.Link.{both_of}
use Rattle.m2_links_go_on.specs.m2_growth.InStepLaws.{StayMet}
use Rattle.m2_links_go_on.specs.m2_growth.Turn.{AllEndsGrow}
use Rattle.m2_links_go_on.specs.Linked.{IsNode}
use Rattle.m2_script.specs.m2_record.RecordNow.{RecordNow}
use Rattle.m2_script.specs.m2_record.Sources.{end_at}
use Rattle.m2_fabric.specs.InStep.{IsInStep, SeenFabric}
use Rattle.m2_fabric.specs.Kept.{directions, is_kept}
use Rattle.m2_fabric.specs.Meeting.{acceptor, comes_from}
use Rattle.m2_fabric.specs.SimFabric.{AreApart}
use Rattle.m2_links_go_on.specs.Sides.{woven_now}
use Rattle.m2_links_go_on.specs.m2_weave.TurnLaws.{HasOrder}

-- what each node holds, all ends by node and socket, and the sockets that are kept between the nodes
pub record RunNow : Type 0 where
  pub holdings : List Holding
  pub holder : SeenHolder
  pub fabric : SeenFabric

-- ---- one node

-- a record of the node at this place: its peer is the node at another place, that which it says
pub record IsRecordAt (addrs : List Addr) (i : ℕ) (r : RecordNow) : Type 0 where
  pub mine : slice_get addrs i ≡ Some r.core.facts.mine
  pub peer : slice_get addrs r.place ≡ Some r.core.facts.peer
  pub other : (r.place == i) ≡ false
  pub ranges : KeepsRanges r.core.facts

-- the socket comes from the port's address, or goes to it
abbrev pub IsOfPort : Addr → SocketId → Type 0
IsOfPort at k = (comes_from k (Some at) || goes_to at k) ≡ true

-- It listens at its address; its records are between it and other nodes; its port is in memory, and made sockets that come from there
-- or go there; and an end that waits has done nothing.
pub record IsNodeAt (addrs : List Addr) (i : ℕ) (h : Holding) : Type 0 where
  pub node : IsNode h
  pub at : slice_get addrs i ≡ Some h.port.at
  pub records : AllByRecursion (IsRecordAt addrs i) h.records
  pub in_memory : IsSome h.port.waiting
  pub made : AllByRecursion (IsOfPort h.port.at) h.port.made
  pub waiting : AllByRecursion (λ e. e.log ≡ nothing_done) (waiting_at h.port)

-- each ask that a record has judged came on a socket from its peer
abbrev pub HasAskedPeer : RecordNow → Type 0
HasAskedPeer r = (k : SocketId) → is_among k (asked_on r) ≡ true → comes_from k (Some r.core.facts.peer) ≡ true

-- ---- all nodes

-- the holder has the ends that the nodes hold
pub record HoldsAll (x : RunNow) : Type 0 where
  pub nodes : x.holder.nodes ≡ length x.holdings
  pub ends : (i : ℕ) (h : Holding) → slice_get x.holdings i ≡ Some h → (k : SocketId) → x.holder.ends i k ≡ end_at (all_ends h) k
  pub none : (i : ℕ) → slice_get x.holdings i ≡ None → (k : SocketId) → x.holder.ends i k ≡ None

-- Each kept socket was opened by the one of its nodes towards the other. A node has ends of sockets that go to it only of kept ones.
pub record AreBetween (x : RunNow) : Type 0 where
  pub kept : AllByRecursion (λ d. (acceptor x.fabric.nodes d.from d.id ≡ Some d.to) ⊎ (acceptor x.fabric.nodes d.to d.id ≡ Some d.from)) (directions x.fabric.pairs)
  pub arrived : (i : ℕ) (h : Holding) → slice_get x.holdings i ≡ Some h → (k : SocketId) → goes_to h.port.at k ≡ true → IsSome (end_at (all_ends h) k) →
      is_kept k x.fabric.pairs ≡ true

pub record IsRunning (x : RunNow) : Type 0 where
  pub apart : AreApart x.fabric.nodes
  pub in_step : IsInStep (record { fabric = x.fabric; holder = x.holder })
  pub met : StayMet x.fabric x.holder
  pub holds : HoldsAll x
  pub between : AreBetween x
  pub nodes : (i : ℕ) (h : Holding) → slice_get x.holdings i ≡ Some h → IsNodeAt x.fabric.nodes i h
  pub asked : (i : ℕ) (h : Holding) → slice_get x.holdings i ≡ Some h → AllByRecursion HasAskedPeer h.records

-- ---- links

-- two nodes, and a record of each that is towards the other
pub record IsLinkOf (x : RunNow) (h g : Holding) (a b : RecordNow) : Type 0 where
  pub i : ℕ
  pub j : ℕ
  pub near : slice_get x.holdings i ≡ Some h
  pub far : slice_get x.holdings j ≡ Some g
  pub a_at : ℕ
  pub b_at : ℕ
  pub a_there : slice_get h.records a_at ≡ Some a
  pub b_there : slice_get g.records b_at ≡ Some b
  pub a_towards : a.place ≡ j
  pub b_towards : b.place ≡ i

-- all that was done on each link has an order
abbrev pub HaveOrders : RunNow → Type 0
HaveOrders x = (h g : Holding) (a b : RecordNow) → IsLinkOf x h g a b → HasOrder (woven_now (both_of a b (all_left h.halves ++ all_left g.halves)))

-- ---- a node acts

-- One node acts and the others stay. Of what it did nothing is undone; it brings ends only of sockets that don't go to it.
pub record NodeActs (i : ℕ) (old new : RunNow) : Type 0 where
  pub before : Holding
  pub behind : Holding
  pub was : slice_get old.holdings i ≡ Some before
  pub is : new.holdings ≡ slice_set old.holdings i behind
  pub grows : Grows before behind
  pub node : IsNodeAt new.fabric.nodes i behind
  pub there : (k : SocketId) → end_at (all_ends before) k ≡ None → IsSome (end_at (all_ends behind) k) → goes_to before.port.at k ≡ false
  pub fabric : new.fabric ≡ old.fabric
  pub holds : HoldsAll new
  pub ends : AllEndsGrow old.holder new.holder
