-- What passes between ends in memory, of two networks that are alike. This project's own.
use Rattle.std.specs.Prelude.{◌≡◌, ℕ}
use Rattle.m2_fabric.specs.declared.socket.SocketId.{SocketId}
use Rattle.m2_fabric.specs.Holder.{SeenHolder}
use Rattle.m2_fabric.specs.InStep.{Network}
use Rattle.m2_fabric.specs.SimFabric.{Faults, Flows, Meets, looked_at}

-- Of each node the same is seen.
pub record LikeHolders (g h : SeenHolder) : Type 0 where
  pub nodes : g.nodes ≡ h.nodes
  pub at : (node : ℕ) → g.at node ≡ h.at node
  pub made : (node : ℕ) → g.made node ≡ h.made node
  pub ends : (node : ℕ) (id : SocketId) → g.ends node id ≡ h.ends node id
  pub waits : (node : ℕ) (id : SocketId) → g.waits node id ≡ h.waits node id
  pub line : (node : ℕ) → g.line node ≡ h.line node

-- So it is of their fabrics: how many of a node's sockets were looked at is 0 where none is noted.
pub record LikeNetworks (n m : Network) : Type 0 where
  pub holders : LikeHolders n.holder m.holder
  pub nodes : n.fabric.nodes ≡ m.fabric.nodes
  pub pairs : n.fabric.pairs ≡ m.fabric.pairs
  pub looked : (node : ℕ) → looked_at n.fabric node ≡ looked_at m.fabric node

-- the same is done to both, and they stay alike
abbrev pub StayAlike : (Network → Network → Type 0) → Type 0
StayAlike how = (n m new behind : Network) → LikeNetworks n m → how n new → how m behind → LikeNetworks new behind

pub record LikeNetworksPassAlike : Type 0 where
  pub meetings : (node : ℕ) → StayAlike (Meets node)
  pub flows : (a b socket most : ℕ) → StayAlike (Flows a b socket most)
  pub faults : (a b socket : ℕ) → StayAlike (Faults a b socket)
