-- What an entry of a journal has judged on a socket. This project's own.
use Rattle.std.specs.Prelude.{if◌then◌else◌, List, [], ◌∷◌}
use Rattle.m2_fabric.specs.declared.socket.SocketId.{SocketId}
use Rattle.m2_fabric.specs.Sockets.{same_socket}
use Rattle.m2_journal.specs.declared.entry.Entry.{Entry}
use Rattle.m2_journal.specs.declared.entry.Entry.TheVariants as entry
use Rattle.m2_journal.specs.declared.entry.JudgedItem.{JudgedItem}

-- an ask that it has judged there
abbrev pub judged_by : SocketId → Entry → List JudgedItem
judged_by socket (entry.Judged k ask number answer) = if same_socket socket k then record { ask = ask; answer = answer } ∷ [] else []
judged_by socket _ = []
