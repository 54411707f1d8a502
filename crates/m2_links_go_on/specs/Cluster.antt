-- What is known of all nodes of a cluster in memory, and what becomes of them where one of them acts. This project's own.
use Rattle.std.specs.Prelude.{◌≡◌, ℕ, List, None, IfSome, IsSome}
use Rattle.std.specs.List.{AllByRecursion}
use Rattle.m2_fabric.specs.declared.socket.SocketId.{SocketId}
use Rattle.m2_fabric.specs.Holder.{SeenHolder}
use Rattle.m2_cluster.specs.Cluster.{ClusterNow, held_by}
use Rattle.m2_cluster.specs.Node.{NodeNow}
use Rattle.m2_growth.specs.Holding.{AreOwn, HaveTheirHalves}
use Rattle.m2_growth.specs.Turn.{AllEndsGrow}
use Rattle.m2_links_go_on.specs.Center.{holding_of}

-- ---- of all nodes

-- each has one end of each socket
abbrev pub AllOwn : {D : Type 0} → List (NodeNow D) → Type 0
AllOwn {D} nodes = AllByRecursion (λ (n : NodeNow D). AreOwn (holding_of n.center)) nodes

-- of each ask that was judged the half is there
abbrev pub AllHaveHalves : {D : Type 0} → List (NodeNow D) → Type 0
AllHaveHalves {D} nodes = AllByRecursion (λ (n : NodeNow D). HaveTheirHalves (holding_of n.center)) nodes

-- ---- ends in memory

abbrev pub AllInMemory : SeenHolder → Type 0
AllInMemory h = (node : ℕ) (k : SocketId) → IfSome (h.ends node k) (λ e. IsSome e.inflow)

-- so is each end of a socket that had none
abbrev pub BringInMemory : (old new : SeenHolder) → Type 0
BringInMemory old new = (node : ℕ) (k : SocketId) → old.ends node k ≡ None → IfSome (new.ends node k) (λ e. IsSome e.inflow)

-- ---- what becomes of them

-- All ends grow, each is in memory, and what each node keeps of its sockets all keep.
pub record ClusterGrows {D : Type 0} (old new : ClusterNow D) : Type 0 where
  pub ends : AllEndsGrow (held_by old.nodes) (held_by new.nodes)
  pub own : AllOwn old.nodes → AllOwn new.nodes
  pub judged : AllHaveHalves old.nodes → AllHaveHalves new.nodes

-- where they were in memory, and the ends that came are
abbrev pub GrowsInMemory : {D : Type 0} → (old new : ClusterNow D) → Type 0
GrowsInMemory old new = AllInMemory (held_by old.nodes) → BringInMemory (held_by old.nodes) (held_by new.nodes) → ClusterGrows old new
