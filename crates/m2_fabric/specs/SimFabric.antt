-- What each call of a fabric in memory does. This project's own.
use Rattle.std.specs.Prelude.{◌≡◌, ◌≢◌, ℕ, ◌==◌, ◌&&◌, ◌<◌, Bool, false, if◌then◌else◌, List, [], map, length, drop, get_or, Option, Some, None}
use Rattle.std.specs.Option.{option_map}
use Rattle.m2_addr.specs.declared.addr.Addr.{Addr}
use Rattle.m2_fabric.specs.Holder.{EndName}
use Rattle.m2_fabric.specs.declared.socket.SocketId.{SocketId}
use Rattle.m2_fabric.specs.InStep.{Network, SeenFabric}
use Rattle.m2_fabric.specs.Kept.{SeenPair, between, chosen, directions, numbered}
use Rattle.m2_fabric.specs.Meeting.{Arrive, all_entered, arrivals}
use Rattle.m2_fabric.specs.News.{AreTold, Logs, Told, failing, logs_of, pair_after, told_to}
use Rattle.m2_fabric.specs.declared.kept.Kept.{Kept}
use Rattle.m2_fabric.specs.declared.passing.Passing.{Passing}

-- nodes at different places have different ip and port
abbrev pub same_place : Addr → Addr → Bool
same_place a b = (a.ip == b.ip) && (a.port == b.port)

abbrev pub AreApart : List Addr → Type 0
AreApart nodes = (i j : ℕ) (d : Addr) → i < j → j < length nodes → same_place (get_or nodes i d) (get_or nodes j d) ≡ false

-- a fabric before its first call
abbrev pub fresh_fabric : List Addr → SeenFabric
fresh_fabric nodes = record { nodes = nodes; looked = []; pairs = [] }

abbrev pub looked_at : SeenFabric → ℕ → ℕ
looked_at f node = get_or f.looked node 0

-- ---- passing on

-- Ends are told what the directions pass on that a call is about; the rest of the fabric stays.
pub record IsPassedOn (what : Passing) (old new : Network) : Type 0 where
  pub told : AreTold (told_to what (logs_of old.holder) (directions old.fabric.pairs)) old.holder new.holder
  pub pairs : new.fabric.pairs ≡ map (pair_after what (logs_of old.holder)) old.fabric.pairs
  pub nodes : new.fabric.nodes ≡ old.fabric.nodes
  pub looked : new.fabric.looked ≡ old.fabric.looked

-- ends are told this, and the fabric stays
pub record IsTold (what : EndName → List Told) (old new : Network) : Type 0 where
  pub told : AreTold what old.holder new.holder
  pub fabric : new.fabric ≡ old.fabric

-- ---- a meeting

-- the sockets that a node made since they were looked at last
abbrev pub new_made : ℕ → Network → List SocketId
new_made node n = drop (looked_at n.fabric node) (n.holder.made node)

-- The sockets that the node opened come to be kept, and wait at the other nodes; all that it made was looked at.
pub record Enters (node : ℕ) (old new : Network) : Type 0 where
  pub arrive : Arrive (arrivals old.fabric.nodes node (new_made node old) old.fabric.pairs) old.holder new.holder
  pub pairs : new.fabric.pairs ≡ all_entered old.fabric.nodes node (new_made node old) old.fabric.pairs
  pub nodes : new.fabric.nodes ≡ old.fabric.nodes
  pub looked : looked_at new.fabric node ≡ length (old.holder.made node)
  pub others : (other : ℕ) → other ≢ node → looked_at new.fabric other ≡ looked_at old.fabric other

-- about all that leads away from a node; no bytes flow
abbrev pub closings_of : ℕ → Passing
closings_of node = record { from = node; to = None; socket = None; most = 0 }

-- First the sockets that the node opened are entered. Then each other end is told of the node's ends that are closed.
pub record Meets (node : ℕ) (old new : Network) : Type 0 where
  pub between : Network
  pub enters : Enters node old between
  pub passed : IsPassedOn (closings_of node) between new

-- ---- a flow

-- about all sockets, or one
abbrev pub flow_towards : ℕ → ℕ → ℕ → Option SocketId → Passing
flow_towards a b most socket = record { from = a; to = Some b; socket = socket; most = most }

-- about the socket of a number, or all where the number is 0; None where there is no such socket
abbrev pub flow_of : ℕ → ℕ → ℕ → ℕ → List SeenPair → Option Passing
flow_of a b socket most pairs =
    if socket == 0 then Some (flow_towards a b most None)
    else option_map (λ (k : Kept). flow_towards a b most (Some k.id)) (numbered socket (between a b pairs))

abbrev pub Passes : Option Passing → Network → Network → Type 0
Passes None old new = IsTold (λ e. []) old new
Passes (Some what) old new = IsPassedOn what old new

-- At most so many bytes flow from one node to another on each socket, or on that of a number alone; nothing where there is
-- no such socket.
abbrev pub Flows : ℕ → ℕ → ℕ → ℕ → Network → Network → Type 0
Flows a b socket most old new = Passes (flow_of a b socket most old.fabric.pairs) old new

-- ---- a fault

-- the node's end of a socket fails, if there is one
abbrev pub fault_at : ℕ → Logs → Option Kept → EndName → List Told
fault_at a logs None = λ e. []
fault_at a logs (Some k) = failing a logs k.id

-- The first node's end of the socket fails from now on, where there is one that isn't closed; no other socket is taken.
abbrev pub Faults : ℕ → ℕ → ℕ → Network → Network → Type 0
Faults a b socket old new = IsTold (fault_at a (logs_of old.holder) (chosen socket (between a b old.fabric.pairs))) old new
