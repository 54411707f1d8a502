-- What is known of nodes in memory that keep what their types say.
use Rattle.std.proofs.Common.{◌≡◌, ℕ, zero, suc, Bool, true, false, if◌then◌else◌, List, [], ◌∷◌, slice_get, Some, refl, ap}
use Rattle.std.specs.Prelude.{IfSome, IsSome}
use Rattle.std.specs.List.{AllByRecursion}
use Rattle.m2_fabric.specs.declared.socket.SocketId.{SocketId}
use Rattle.m2_fabric.specs.End.{SeenEnd}
use Rattle.m2_fabric.specs.Kinds.{IsInMemory}
use Rattle.m2_fabric.specs.Sockets.{same_socket}
use Rattle.m2_script.specs.m2_record.Sources.{end_at}
use Rattle.m2_script.specs.m2_center.Center.{supply_in}
use Rattle.m2_script.specs.m2_center.Reaching.{all_ends_in}
use Rattle.m2_script.specs.m2_cluster.Cluster.{end_of, held_by}
use Rattle.m2_script.specs.m2_cluster.Node.{IsWholeNode, NodeNow}
use Rattle.m2_links_go_on.specs.Center.{holding_of}
use Rattle.m2_links_go_on.specs.Cluster.{AllInMemory}
use Rattle.m2_links_go_on.specs.m2_growth.Holding.{AreOwn, HaveTheirHalves, Holding}
use Rattle.m2_links_go_on.specs.Linked.{IsNode}
use Rattle.m2_promise.specs.Acting.{holdings_of}

-- one of ends in memory
one_in_memory : (es : List SeenEnd) (k : SocketId) → AllByRecursion IsInMemory es → IfSome (end_at es k) (λ e. IsSome e.inflow)
one_in_memory [] k all = tt
one_in_memory (e ∷ es) k all = at (same_socket k e.id) (one_in_memory es k all.1)
  where
    at : (b : Bool) → IfSome (end_at es k) (λ e. IsSome e.inflow) → IfSome (if b then Some e else end_at es k) (λ e. IsSome e.inflow)
    at true rest = all.0
    at false rest = rest

module _ {D : Type 0} where
  -- ---- what they hold

  -- the node of which it is the holding
  pub record IsNodeOf (nodes : List (NodeNow D)) (i : ℕ) (h : Holding) : Type 0 where
    pub node : NodeNow D
    pub there : slice_get nodes i ≡ Some node
    pub is : holding_of node.center ≡ h

  pub node_of : (nodes : List (NodeNow D)) (i : ℕ) (h : Holding) → slice_get (holdings_of nodes) i ≡ Some h → IsNodeOf nodes i h
  node_of [] i h is = absurd cc
  node_of (n ∷ ns) zero h is = let same : holding_of n.center ≡ h = cc in record { node = n; there = refl; is = same }
  node_of (n ∷ ns) (suc i) h is = let more = node_of ns i h is in record { node = more.node; there = more.there; is = more.is }

  pub holding_at : (nodes : List (NodeNow D)) (i : ℕ) (n : NodeNow D) → slice_get nodes i ≡ Some n → slice_get (holdings_of nodes) i ≡ Some (holding_of n.center)
  holding_at [] i n is = absurd cc
  holding_at (m ∷ ms) zero n is = let same : m ≡ n = cc in ap (λ (x : NodeNow D). Some (holding_of x.center)) same
  holding_at (m ∷ ms) (suc i) n is = holding_at ms i n is

  -- it is a node, where each socket has one end there and of each ask that was judged the half is there
  pub is_node : (n : NodeNow D) → IsWholeNode n → AreOwn (holding_of n.center) → HaveTheirHalves (holding_of n.center) → IsNode (holding_of n.center)
  is_node n whole own halves = record {
    records = whole.records;
    whole = whole.halves;
    own = own;
    halves = halves;
    supply = supply_in n.center;
    entity = n.center.entity;
    sessions = whole.center.consistent;
  }

  -- ---- their ends

  pub all_in_memory : (nodes : List (NodeNow D)) → AllByRecursion IsWholeNode nodes → AllInMemory (held_by nodes)
  all_in_memory nodes all = λ node k. by nodes all node k
    where
      by : (ns : List (NodeNow D)) → AllByRecursion IsWholeNode ns → (i : ℕ) (k : SocketId) → IfSome (end_of (slice_get ns i) k) (λ e. IsSome e.inflow)
      by [] all i k = tt
      by (n ∷ ns) all zero k = one_in_memory (all_ends_in n.center) k all.0.memory
      by (n ∷ ns) all (suc i) k = by ns all.1 i k
