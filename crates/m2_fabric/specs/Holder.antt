-- What contracts see of whoever has the ports and ends of all nodes in memory, and what passing on to one of them
-- changes. This project's own.
use Rattle.std.specs.Prelude.{◌≡◌, ℕ, ◌==◌, ◌&&◌, not, Bool, true, false, if◌then◌else◌, List, [], ◌∷◌, ◌++◌, Option, Some, None}
use Rattle.std.specs.Option.{option_map}
use Rattle.m2_addr.specs.declared.addr.Addr.{Addr}
use Rattle.m2_fabric.specs.End.{SeenEnd, fresh_end}
use Rattle.m2_fabric.specs.Sockets.{goes_to, is_among, same_socket}
use Rattle.m2_fabric.specs.declared.socket.SocketId.{SocketId}

-- How many nodes there are, and of each: where it listens; the sockets that its ports made; its ends, those that wait
-- for an accept among them; which of its sockets wait; and those that stand in line at its port, the one that waits
-- longest first.
pub record SeenHolder : Type 0 where
  pub nodes : ℕ
  pub at : ℕ → Addr
  pub made : ℕ → List SocketId
  pub ends : ℕ → SocketId → Option SeenEnd
  pub waits : ℕ → SocketId → Bool
  pub line : ℕ → List SocketId

-- an end, by its node and its socket
pub record EndName : Type 0 where
  pub node : ℕ
  pub id : SocketId

-- the end of a socket that a node has; None where it has none, or where it waits still
abbrev pub end_had : SeenHolder → EndName → Option SeenEnd
end_had h e = if h.waits e.node e.id then None else h.ends e.node e.id

-- an end of another node or of another socket
abbrev pub IsOther : EndName → EndName → Type 0
IsOther e other = other.node ≡ e.node → same_socket e.id other.id ≡ false

-- nodes, addresses and sockets made are as before, and so is every end but one
pub record ChangesOneEnd (e : EndName) (old new : SeenHolder) : Type 0 where
  pub nodes : new.nodes ≡ old.nodes
  pub at : (node : ℕ) → new.at node ≡ old.at node
  pub made : (node : ℕ) → new.made node ≡ old.made node
  pub ends : (other : EndName) → IsOther e other → new.ends other.node other.id ≡ old.ends other.node other.id
  pub waits : (other : EndName) → IsOther e other → new.waits other.node other.id ≡ old.waits other.node other.id

-- an end is this one now, and waits or not
pub record IsThere (e : EndName) (what : Option SeenEnd) (waiting : Bool) (h : SeenHolder) : Type 0 where
  pub shows : h.ends e.node e.id ≡ what
  pub waits : h.waits e.node e.id ≡ waiting

-- nothing changed
pub record IsAsBefore (e : EndName) (old new : SeenHolder) : Type 0 where
  pub there : IsThere e (old.ends e.node e.id) (old.waits e.node e.id) new
  pub line : (node : ℕ) → new.line node ≡ old.line node
  pub others : ChangesOneEnd e old new

-- The socket goes to the node's address, and the node's port neither made it nor has it waiting.
abbrev pub may_come : EndName → SeenHolder → Bool
may_come e h = goes_to (h.at e.node) e.id && (not (is_among e.id (h.made e.node)) && not (h.waits e.node e.id))

-- A node's line once a socket came: it stands last there where it came to this node, goes to the node's address, and the node's
-- port neither made it nor has it in line.
abbrev pub in_line : SeenHolder → (node : ℕ) → List SocketId → EndName → List SocketId
in_line h node line e =
    if (e.node == node) && (goes_to (h.at node) e.id && (not (is_among e.id (h.made node)) && not (is_among e.id line))) then line ++ e.id ∷ [] else line

-- A socket comes to a node: where it may, a fresh end of it waits there, last in line.
pub record ComesTo (e : EndName) (old new : SeenHolder) : Type 0 where
  pub comes : may_come e old ≡ true → IsThere e (Some (fresh_end e.id)) true new
  pub refused : may_come e old ≡ false → IsThere e (old.ends e.node e.id) (old.waits e.node e.id) new
  pub line : (node : ℕ) → new.line node ≡ in_line old node (old.line node) e
  pub others : ChangesOneEnd e old new

-- An end is told something, where it is there, whether it waits or not.
pub record OneEndHears (e : EndName) (hears : SeenEnd → SeenEnd) (old new : SeenHolder) : Type 0 where
  pub there : IsThere e (option_map hears (old.ends e.node e.id)) (old.waits e.node e.id) new
  pub line : (node : ℕ) → new.line node ≡ old.line node
  pub others : ChangesOneEnd e old new
