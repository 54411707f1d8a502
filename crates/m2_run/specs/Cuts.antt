-- Where the sockets of a node break. This project's own.
use Rattle.std.specs.Prelude.{◌≡◌, ◌⊎◌, ℕ, ◌<◌, ◌≤◌, ◌==◌, ◌&&◌, Bool, List, [], filter, length, position, slice_get, Option, Some, None, IfSome}
use Rattle.std.specs.Option.{option_and_then, option_map}
use Rattle.m2_bytes.specs.Items.{Holding}
use Rattle.m2_fabric.specs.CutEnd.{moved}
use Rattle.m2_fabric.specs.End.{SeenEnd}
use Rattle.m2_fabric.specs.Sockets.{goes_to, same_socket}
use Rattle.m2_fabric.specs.declared.port.Cut.{Cut}
use Rattle.m2_fabric.specs.declared.socket.SocketId.{SocketId}
use Rattle.m2_node.specs.m2_links_go_on.ClusterTold.{OneByOne}
use Rattle.m2_scenario.specs.declared.line.Line.{Line}
use Rattle.m2_scenario.specs.declared.node.Node.{Node}
use Rattle.m2_node.specs.m2_script.Nodes.{cuts_of}

-- ---- which socket breaks

-- both sockets go to one ip and port
abbrev pub same_way : SocketId → SocketId → Bool
same_way a b = (a.to_ip == b.to_ip) && (a.to_port == b.to_port)

-- the place of a socket among those of these that go where it does
abbrev pub turn_of : List SocketId → SocketId → Option ℕ
turn_of made id = position (same_socket id) (filter (same_way id) made)

-- the cuts of sockets that go where this one does
abbrev pub cuts_for : List Cut → SocketId → List Cut
cuts_for cuts id = filter (λ (cut : Cut). goes_to cut.to id) cuts

-- the bytes of the cut at a place
abbrev pub bytes_in : List Cut → ℕ → Option ℕ
bytes_in cuts turn = option_map (λ (cut : Cut). cut.bytes) (slice_get cuts turn)

-- After how many bytes, read and written together, a socket of these breaks, where one of these cuts is its own: of those that go to
-- one ip and port the first takes the first cut for them, and so on.
abbrev pub bound_of : List Cut → List SocketId → SocketId → Option ℕ
bound_of cuts made id = option_and_then (bytes_in (cuts_for cuts id)) (turn_of made id)

-- ---- what an end is that breaks so

-- An end of a node over the end that the fabric gave for it, which breaks after so many bytes, if it does: both are of one socket and did
-- the same; no more bytes passed; and it failed more often only where just so many passed.
pub record IsEndOver (bound : Option ℕ) (e inner : SeenEnd) : Type 0 where
  pub id : e.id ≡ inner.id
  pub log : e.log ≡ inner.log
  pub within : IfSome bound (λ n. moved e.log ≤ n)
  pub counted : inner.faults ≤ e.faults
  pub cause : (e.faults ≡ inner.faults) ⊎ (bound ≡ Some (moved e.log))

-- all of them, in order
abbrev pub AreEndsOver : (cuts : List Cut) → (made : List SocketId) → (ends inner : List SeenEnd) → Type 0
AreEndsOver cuts made ends inner = OneByOne (λ (e i : SeenEnd). IsEndOver (bound_of cuts made e.id) e i) ends inner

-- ---- the cuts of all nodes

abbrev pub items_of : Option (Holding Cut) → List Cut
items_of (Some c) = c.items
items_of None = []

-- those of the node at a place
abbrev pub cuts_at : List (Holding Cut) → (k : ℕ) → List Cut
cuts_at all k = items_of (slice_get all k)

-- of each node they are those of its lines
pub record AreCutsOf (nodes : List Node) (lines : List Line) (all : List (Holding Cut)) : Type 0 where
  pub count : length all ≡ length nodes
  pub each : (k : ℕ) → k < length nodes → cuts_at all k ≡ cuts_of nodes lines k
