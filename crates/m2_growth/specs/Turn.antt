-- What the turns of nodes leave of all ends. This project's own.
use Rattle.std.specs.Prelude.{◌≡◌, ℕ, Option, IfSome, IsSome}
use Rattle.std.specs.List.{AllByRecursion}
use Rattle.m2_fabric.specs.declared.socket.SocketId.{SocketId}
use Rattle.m2_fabric.specs.End.{SeenEnd}
use Rattle.m2_fabric.specs.Holder.{SeenHolder}
use Rattle.m2_fabric.specs.InStep.{SeenFabric, end_of, put_by}
use Rattle.m2_fabric.specs.Kept.{directions, reader, writer}
use Rattle.m2_weave.specs.Later.{GoesOn}
use Rattle.m2_growth.specs.Ends.{EndGrowsTo, come_to}

-- At each node each socket's end grows, or is a new one; all are in memory.
pub record AllEndsGrow (old new : SeenHolder) : Type 0 where
  pub nodes : new.nodes ≡ old.nodes
  pub ends : (node : ℕ) (k : SocketId) → EndGrowsTo (old.ends node k) (new.ends node k)
  pub memory : (node : ℕ) (k : SocketId) → IfSome (new.ends node k) (λ e. IsSome e.inflow)

-- of each direction of the kept sockets, the end that reads is there
abbrev pub HaveEnds : SeenHolder → SeenFabric → Type 0
HaveEnds h fabric = AllByRecursion (λ d. IsSome (end_of h (reader d))) (directions fabric.pairs)

-- all that came to the end of one, whether it is open or closed, the other end had put
abbrev pub CameOfPut : (reads writes : Option SeenEnd) → Type 0
CameOfPut reads writes = IfSome reads (λ e. IfSome (come_to e) (λ bytes. GoesOn bytes (put_by writes)))

-- of each direction
abbrev pub AllCameOfPut : SeenHolder → SeenFabric → Type 0
AllCameOfPut h fabric = AllByRecursion (λ d. CameOfPut (end_of h (reader d)) (end_of h (writer d))) (directions fabric.pairs)
