-- What the ends of a side hear of the other side. This project's own.
use Rattle.std.specs.Prelude.{ℕ, if◌then◌else◌, List, [], ◌∷◌}
use Rattle.std.specs.List.{list_any}
use Rattle.m2_fabric.specs.declared.end.News.{News}
use Rattle.m2_fabric.specs.declared.socket.SocketId.{SocketId}
use Rattle.m2_fabric.specs.End as end
use Rattle.m2_fabric.specs.Sockets.{same_socket}
use Rattle.m2_trail.specs.Incoming.{IncomingNow}
use Rattle.m2_record.specs.Calls.{after_news}
use Rattle.m2_record_trace.specs.SideNow.{SideNow}

-- the first half of that socket hears it
abbrev pub half_hears : SocketId → News → List ℕ → List IncomingNow → List IncomingNow
half_hears socket news bytes [] = []
half_hears socket news bytes (v ∷ vs) =
    if same_socket socket v.end.id then record v { end = end.after_news news bytes v.end } ∷ vs
    else v ∷ half_hears socket news bytes vs

-- a half where there is one of that socket, else the record's end
abbrev pub side_hears : SocketId → News → List ℕ → SideNow → SideNow
side_hears socket news bytes s =
    if list_any (λ (v : IncomingNow). same_socket socket v.end.id) s.halves then record s { halves = half_hears socket news bytes s.halves }
    else record s { kept = after_news socket news bytes s.kept }
