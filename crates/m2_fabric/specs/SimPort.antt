-- What holds of the sockets that a port in memory made and of those that wait there.
use Rattle.std.specs.Prelude.{◌≡◌, ℕ, ◌+◌, ◌≤◌, true, if◌then◌else◌, List, [], ◌∷◌, ◌++◌}
use Rattle.std.specs.List.{AllByRecursion}
use Rattle.m2_addr.specs.declared.addr.Addr.{Addr}
use Rattle.m2_fabric.specs.End.{SeenEnd}
use Rattle.m2_fabric.specs.Log.{nothing_done}
use Rattle.m2_fabric.specs.Port.{ids}
use Rattle.m2_fabric.specs.Sockets.{IsOfHome, goes_to, same_socket}
use Rattle.m2_fabric.specs.declared.socket.SocketId.{SocketId}

-- how often a socket stands among some
abbrev pub times : SocketId → List SocketId → ℕ
times socket [] = 0
times socket (other ∷ others) = (if same_socket socket other then 1 else 0) + times socket others

-- an end that waits goes to the port's address, and did nothing yet
pub record IsWaiting (at : Addr) (e : SeenEnd) : Type 0 where
  pub towards : goes_to at e.id ≡ true
  pub unused : e.log ≡ nothing_done

abbrev pub AreWaiting : Addr → List SeenEnd → Type 0
AreWaiting at [] = Unit {0}
AreWaiting at (e ∷ es) = IsWaiting at e × AreWaiting at es

-- No socket stands twice among those that a port made and those that wait there, and each that it made comes from its
-- address or goes to it.
pub record IsSimPort (at : Addr) (made : List SocketId) (waiting : List SeenEnd) : Type 0 where
  pub once : (socket : SocketId) → times socket (made ++ ids waiting) ≤ 1
  pub waits : AreWaiting at waiting
  pub home : AllByRecursion (IsOfHome at) made
