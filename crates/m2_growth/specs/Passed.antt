-- What holds of ends whatever is passed between them. This project's own.
use Rattle.std.specs.Prelude.{◌≡◌, ◌⊎◌, ℕ, true, false, Some, IsSome, MatchOption, slice_get}
use Rattle.m2_fabric.specs.m2_addr.declared.addr.Addr.{Addr}
use Rattle.m2_fabric.specs.declared.socket.SocketId.{SocketId}
use Rattle.m2_fabric.specs.End.{SeenEnd}
use Rattle.m2_fabric.specs.Holder.{SeenHolder}
use Rattle.m2_fabric.specs.Sockets.{is_among}
use Rattle.m2_fabric.specs.InStep.{Network, SeenFabric}

-- each socket that a node's port made has its end there
abbrev pub MadeHaveEnds : SeenHolder → Type 0
MadeHaveEnds h = (node : ℕ) (k : SocketId) → is_among k (h.made node) ≡ true → IsSome (h.ends node k)

-- each end that waits for an accept is there, and open
abbrev pub WaitingAreOpen : SeenHolder → Type 0
WaitingAreOpen h = (node : ℕ) (k : SocketId) → h.waits node k ≡ true → MatchOption (h.ends node k) ⊥ (λ (e : SeenEnd). e.log.closed ≡ false)

-- each node listens where the fabric has it
abbrev pub ListenAt : SeenFabric → SeenHolder → Type 0
ListenAt fabric h = (node : ℕ) (at : Addr) → slice_get fabric.nodes node ≡ Some at → h.at node ≡ at

-- what is asked of a network so that sockets which come to be kept have both their ends
pub record HasItsEnds (n : Network) : Type 0 where
  pub made : MadeHaveEnds n.holder
  pub waiting : WaitingAreOpen n.holder
  pub places : ListenAt n.fabric n.holder

-- what turns leave of ports: each socket that a port made it had made before, or its end is there; and an end that waits waited so
-- before
pub record AllPortsStand (old new : SeenHolder) : Type 0 where
  pub at : (node : ℕ) → new.at node ≡ old.at node
  pub made : (node : ℕ) (k : SocketId) → is_among k (new.made node) ≡ true → (is_among k (old.made node) ≡ true) ⊎ IsSome (new.ends node k)
  pub waits : (node : ℕ) (k : SocketId) → new.waits node k ≡ true → (old.waits node k ≡ true) × (new.ends node k ≡ old.ends node k)
