-- That each socket of a node is one of its own. This project's own.
use Rattle.std.specs.Prelude.{◌≡◌, true, List, [], ◌++◌, map}
use Rattle.std.specs.List.{AllByRecursion, IsDistinct}
use Rattle.m2_addr.specs.declared.addr.Addr.{Addr}
use Rattle.m2_fabric.specs.Sockets.{goes_to, same_socket}
use Rattle.m2_fabric.specs.declared.socket.SocketId.{SocketId}
use Rattle.m2_trail.specs.Arrivals.{LooseNow}

-- the sockets of halves
abbrev pub sockets_of : List LooseNow → List SocketId
sockets_of halves = map (λ (l : LooseNow). l.end.id) halves

-- a half of the node at this address: its socket goes there, and nothing of it was judged
pub record IsUnjudgedAt (at : Addr) (l : LooseNow) : Type 0 where
  pub here : goes_to at l.end.id ≡ true
  pub unjudged : l.trail.judged ≡ []

-- Of the sockets that the ports of the node's threads made, and those of the halves that are in none of its centers, no two are one; and
-- nothing of these halves was judged.
pub record HasEachOnce (at : Addr) (made : List SocketId) (halves : List LooseNow) : Type 0 where
  pub once : IsDistinct same_socket (made ++ sockets_of halves)
  pub unjudged : AllByRecursion (IsUnjudgedAt at) halves
