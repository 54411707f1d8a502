-- How the sockets that a node opened come to be kept, and to wait at the other node. This project's own.
use Rattle.std.specs.Prelude.{◌≡◌, ℕ, ◌==◌, ◌&&◌, ◌||◌, nat_le, Bool, false, if◌then◌else◌, List, [], ◌∷◌, ◌++◌, fold, slice_get, Option, Some, None}
use Rattle.std.specs.List.{list_any, position}
use Rattle.m2_addr.specs.declared.addr.Addr.{Addr}
use Rattle.m2_fabric.specs.End.{fresh_end}
use Rattle.m2_fabric.specs.Holder.{EndName, SeenHolder, in_line, may_come}
use Rattle.m2_fabric.specs.Sockets as sockets
use Rattle.m2_fabric.specs.Sockets.{goes_to}
use Rattle.m2_fabric.specs.declared.socket.SocketId.{SocketId}
use Rattle.m2_fabric.specs.declared.meeting.TheConstants.{MOST_NODES}
use Rattle.m2_fabric.specs.Kept.{SeenPair, fresh_kept, is_kept, same_end, with_kept}

-- a socket comes from a node's address
abbrev pub comes_from : SocketId → Option Addr → Bool
comes_from id None = false
comes_from id (Some at) = sockets.comes_from at id

-- the node to which a socket goes, if it is another than the given one, and has a number
abbrev pub other_than : ℕ → Option ℕ → Option ℕ
other_than node None = None
other_than node (Some other) = if (other == node) || nat_le MOST_NODES other then None else Some other

-- The node at whose address a socket arrives that this node opened; None where it opened no such socket, or where it goes to
-- no other node.
abbrev pub acceptor : List Addr → ℕ → SocketId → Option ℕ
acceptor nodes node id = if comes_from id (slice_get nodes node) then other_than node (position (λ (at : Addr). goes_to at id) nodes) else None

-- a socket that this node opened to another is kept from now on, unless it is kept already
abbrev pub kept_towards : ℕ → SocketId → List SeenPair → Option ℕ → List SeenPair
kept_towards node id pairs None = pairs
kept_towards node id pairs (Some other) = if is_kept id pairs then pairs else with_kept node other (fresh_kept id) pairs

abbrev pub arrivals_at : SocketId → List SeenPair → Option ℕ → List EndName
arrivals_at id pairs None = []
arrivals_at id pairs (Some other) = if is_kept id pairs then [] else record { node = other; id = id } ∷ []

abbrev pub entered : List Addr → ℕ → SocketId → List SeenPair → List SeenPair
entered nodes node id pairs = kept_towards node id pairs (acceptor nodes node id)

-- all of these sockets, in order
abbrev pub all_entered : List Addr → ℕ → List SocketId → List SeenPair → List SeenPair
all_entered nodes node [] pairs = pairs
all_entered nodes node (id ∷ ids) pairs = all_entered nodes node ids (entered nodes node id pairs)

-- the ends that come to be
abbrev pub arrivals : List Addr → ℕ → List SocketId → List SeenPair → List EndName
arrivals nodes node [] pairs = []
arrivals nodes node (id ∷ ids) pairs = arrivals_at id pairs (acceptor nodes node id) ++ arrivals nodes node ids (entered nodes node id pairs)

-- an end is one of these
abbrev pub is_one_of : List EndName → EndName → Bool
is_one_of es e = list_any (λ (x : EndName). same_end x e) es

-- an end is one of these, and may come
abbrev pub comes : List EndName → SeenHolder → EndName → Bool
comes es h e = is_one_of es e && may_come e h

-- Each of these ends that may come is a fresh one that waits for an accept, in line in their order, and nothing else changed.
pub record Arrive (es : List EndName) (old new : SeenHolder) : Type 0 where
  pub nodes : new.nodes ≡ old.nodes
  pub at : (node : ℕ) → new.at node ≡ old.at node
  pub made : (node : ℕ) → new.made node ≡ old.made node
  pub ends : (e : EndName) → new.ends e.node e.id ≡ (if comes es old e then Some (fresh_end e.id) else old.ends e.node e.id)
  pub waits : (e : EndName) → new.waits e.node e.id ≡ (comes es old e || old.waits e.node e.id)
  pub line : (node : ℕ) → new.line node ≡ fold (in_line old node) (old.line node) es
