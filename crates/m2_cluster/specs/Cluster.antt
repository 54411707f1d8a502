-- What contracts see of a cluster: its nodes in order; and what it is as the holder of all ends. This project's own.
use Rattle.std.specs.Prelude.{◌≡◌, ℕ, Bool, false, List, [], length, map, slice_get, slice_set, Option, Some, None}
use Rattle.m2_fabric.specs.m2_addr.declared.addr.Addr.{Addr}
use Rattle.m2_fabric.specs.declared.socket.SocketId.{SocketId}
use Rattle.m2_fabric.specs.End.{SeenEnd}
use Rattle.m2_fabric.specs.Holder.{SeenHolder}
use Rattle.m2_cluster.specs.Node.{NodeNow, end_in, line_in, rest_of_node, waits_in}

-- the nodes, and how many more there is room for
pub record ClusterNow (D : Type 0) : Type 0 where
  pub nodes : List (NodeNow D)
  pub room : ℕ

-- ---- of the node with a number, if there is one

-- where it listens; any address for a number that is none's
abbrev pub address_of : {D : Type 0} → Option (NodeNow D) → Addr
address_of (Some n) = n.center.port.at
address_of None = record { kind = 0; nonce = 0; ip = 0; port = 0 }

abbrev pub made_by : {D : Type 0} → Option (NodeNow D) → List SocketId
made_by (Some n) = n.center.port.made
made_by None = []

abbrev pub end_of : {D : Type 0} → Option (NodeNow D) → SocketId → Option SeenEnd
end_of (Some n) id = end_in n.center id
end_of None id = None

abbrev pub waits_at : {D : Type 0} → Option (NodeNow D) → SocketId → Bool
waits_at (Some n) id = waits_in n.center id
waits_at None id = false

-- those that wait at its port, the one that waits longest first
abbrev pub line_of : {D : Type 0} → Option (NodeNow D) → List SocketId
line_of (Some n) = line_in n.center
line_of None = []

-- ---- of all

abbrev pub held_by : {D : Type 0} → List (NodeNow D) → SeenHolder
held_by nodes = record {
  nodes = length nodes;
  at = λ k. address_of (slice_get nodes k);
  made = λ k. made_by (slice_get nodes k);
  ends = λ k id. end_of (slice_get nodes k) id;
  waits = λ k id. waits_at (slice_get nodes k) id;
  line = λ k. line_of (slice_get nodes k);
}

-- what it has besides
abbrev pub rest_of : {D : Type 0} → ClusterNow D → ClusterNow D
rest_of c = record c { nodes = map rest_of_node c.nodes }

-- ---- one node does something

-- The node with this number does so; all others are as they were.
pub record OneDoes {D : Type 0} (k : ℕ) (how : NodeNow D → NodeNow D → Type 0) (old new : ClusterNow D) : Type 0 where
  pub before : NodeNow D
  pub behind : NodeNow D
  pub was : slice_get old.nodes k ≡ Some before
  pub does : how before behind
  pub only : new ≡ record old { nodes = slice_set old.nodes k behind }
