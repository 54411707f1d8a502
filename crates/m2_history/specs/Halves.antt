-- What an entry of a journal says of halves: on whose socket it has judged an ask. This project's own.
use Rattle.std.specs.Prelude.{Bool, true, false, List}
use Rattle.m2_fabric.specs.declared.socket.SocketId.{SocketId}
use Rattle.m2_fabric.specs.Sockets.{is_among, same_socket}
use Rattle.m2_journal.specs.declared.entry.Entry.{Entry}
use Rattle.m2_journal.specs.declared.entry.Entry.TheVariants as entry

-- it has judged no ask, or one on a socket of these
abbrev pub has_half : List SocketId → Entry → Bool
has_half sockets (entry.Judged socket ask number answer) = is_among socket sockets
has_half sockets _ = true

-- it has judged an ask on this socket
abbrev pub judges_on : SocketId → Entry → Bool
judges_on k (entry.Judged socket ask number answer) = same_socket k socket
judges_on k _ = false
