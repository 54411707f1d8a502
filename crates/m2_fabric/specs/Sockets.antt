-- Sockets by their names. This project's own.
use Rattle.std.specs.Prelude.{◌≡◌, ◌==◌, ◌&&◌, ◌||◌, Bool, true, false, List}
use Rattle.std.specs.List.{list_any}
use Rattle.m2_addr.specs.declared.addr.Addr.{Addr}
use Rattle.m2_fabric.specs.declared.socket.SocketId.{SocketId}

-- the two names are those of one socket
abbrev pub same_socket : SocketId → SocketId → Bool
same_socket a b = (a.from_ip == b.from_ip) && (a.from_port == b.from_port) && (a.to_ip == b.to_ip) && (a.to_port == b.to_port) && (a.turn == b.turn)

-- a socket is one of these
abbrev pub is_among : SocketId → List SocketId → Bool
is_among socket sockets = list_any (same_socket socket) sockets

-- a socket is none of these
abbrev pub IsNewTo : List SocketId → SocketId → Type 0
IsNewTo sockets socket = is_among socket sockets ≡ false

-- a socket goes to the ip and port of an address
abbrev pub goes_to : Addr → SocketId → Bool
goes_to at socket = (socket.to_ip == at.ip) && (socket.to_port == at.port)

-- a socket comes from the ip and port of an address
abbrev pub comes_from : Addr → SocketId → Bool
comes_from at socket = (socket.from_ip == at.ip) && (socket.from_port == at.port)

-- a socket comes from an address or goes to it
abbrev pub IsOfHome : Addr → SocketId → Type 0
IsOfHome at socket = (comes_from at socket || goes_to at socket) ≡ true
