-- What a port keeps of itself, whatever its sockets are, and how that changes.
use Rattle.std.specs.Prelude.{◌≡◌, ℕ, Bool, true, false, if◌then◌else◌, List, [], ◌∷◌, ◌++◌, replicate, None}
use Rattle.m2_addr.specs.declared.addr.Addr.{Addr}
use Rattle.m2_edge.specs.Faults.{next_count}
use Rattle.m2_fabric.specs.Port.{SeenPort}
use Rattle.m2_fabric.specs.Sockets.{IsNewTo}
use Rattle.m2_fabric.specs.declared.socket.SocketId.{SocketId}
use Rattle.m2_ports.specs.Made.{four_of, next_socket}

-- what the port tells, and for how many more sockets there is room
pub record Book : Type 0 where
  pub shows : SeenPort
  pub room : ℕ

-- a port before its first call, that doesn't accept; it tells nothing of what waits
abbrev pub unused_port : Addr → SeenPort
unused_port at =
    record { at = at; accepts = false; made = []; missed = 0; refused = 0; quiet = false; faults = 0; cuts = []; waiting = None }

-- a connect failed
abbrev pub after_miss : SeenPort → SeenPort
after_miss s = record s { missed = next_count s.missed; faults = next_count s.faults }

-- an accept failed
abbrev pub after_refusal : SeenPort → SeenPort
after_refusal s = record s { refused = next_count s.refused; quiet = true; faults = next_count s.faults }

-- a poll failed
abbrev pub after_fault : SeenPort → SeenPort
after_fault s = record s { faults = next_count s.faults }

-- a socket is put last among those that the port made
abbrev pub with_socket : SocketId → SeenPort → SeenPort
with_socket id s = record s { made = s.made ++ id ∷ [] }

-- A socket is made: the next one of its four numbers, which none of the sockets before is.
pub record MakesNext (id : SocketId) (old new : SeenPort) : Type 0 where
  pub next : id ≡ next_socket (four_of id) old.made
  pub first : IsNewTo old.made id
  pub last : new ≡ with_socket id old

-- the first port accepts from now on, where it is given a listener
abbrev pub with_acceptor : Bool → List SeenPort → List SeenPort
with_acceptor given [] = []
with_acceptor given (p ∷ ps) = (if given then record p { accepts = true } else p) ∷ ps

-- so many unused ports at an address, of which the first accepts, where it is given a listener
abbrev pub ports_at : Bool → ℕ → Addr → List SeenPort
ports_at given many at = with_acceptor given (replicate many (unused_port at))
