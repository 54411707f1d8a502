-- Which sockets entries of a journal name. This project's own.
use Rattle.std.specs.Prelude.{Bool, false, Option, Some, None}
use Rattle.m2_fabric.specs.declared.socket.SocketId.{SocketId}
use Rattle.m2_fabric.specs.Sockets.{same_socket}

-- it is that one
abbrev pub is_one : SocketId → Option SocketId → Bool
is_one socket (Some k) = same_socket socket k
is_one socket None = false
