-- What contracts see of a port, and how each of its calls changes that. This project's own.
use Rattle.std.specs.Prelude.{◌≡◌, ℕ, ◌+◌, ◌&&◌, max, not, Bool, true, false, if◌then◌else◌, List, [], ◌∷◌, ◌++◌, fold, map, Option, Some, None, IfSome}
use Rattle.std.specs.List.{list_any}
use Rattle.std.specs.Option.{option_map}
use Rattle.m2_addr.specs.declared.addr.Addr.{Addr}
use Rattle.m2_edge.specs.Faults.{HasRisen, next_count}
use Rattle.m2_fabric.specs.Cuts.{bound_in, without_cuts}
use Rattle.m2_fabric.specs.End.{SeenEnd, after_news, fresh_end, nothing_told}
use Rattle.m2_fabric.specs.Log.{nothing_done}
use Rattle.m2_fabric.specs.Sockets.{IsNewTo, goes_to, is_among, same_socket}
use Rattle.m2_fabric.specs.declared.end.News.{News}
use Rattle.m2_fabric.specs.declared.port.Cut.{Cut}
use Rattle.m2_fabric.specs.declared.port.Connect.{Connect}
use Rattle.m2_fabric.specs.declared.port.Connect.TheVariants as connect
use Rattle.m2_fabric.specs.declared.port.Taken.{Taken}
use Rattle.m2_fabric.specs.declared.port.Taken.TheVariants as accept
use Rattle.m2_fabric.specs.declared.socket.SocketId.{SocketId}

-- The address at which the port's node listens, and whether this port accepts there; the sockets that the port made, in order; how many connects and how
-- many accepts failed; whether the last accept found no socket or failed; how many faults there were; and the cuts
-- of the sockets that it will open, a list for each maker of ends that are cut. A port in memory tells besides the ends that
-- wait for an accept, in order; another has None there.
pub record SeenPort : Type 0 where
  pub at : Addr
  pub accepts : Bool
  pub made : List SocketId
  pub missed : ℕ
  pub refused : ℕ
  pub quiet : Bool
  pub faults : ℕ
  pub cuts : List (List Cut)
  pub waiting : Option (List SeenEnd)

-- a port in memory, before its first call
abbrev pub fresh_port : Addr → SeenPort
fresh_port at = record { at = at; accepts = true; made = []; missed = 0; refused = 0; quiet = false; faults = 0; cuts = []; waiting = Some [] }

-- ---- answers by what is seen of the end in them

abbrev pub connect_map : {E F : Type 0} → (E → F) → Connect E → Connect F
connect_map see (connect.Made e) = connect.Made (see e)
connect_map see connect.Failed = connect.Failed
connect_map see connect.NoMemory = connect.NoMemory

abbrev pub taken_map : {E F : Type 0} → (E → F) → Taken E → Taken F
taken_map see (accept.Made e) = accept.Made (see e)
taken_map see accept.NotYet = accept.NotYet
taken_map see accept.Failed = accept.Failed
taken_map see accept.NoMemory = accept.NoMemory

-- ---- the name of the next socket in memory

-- the sockets of some ends
abbrev pub ids : List SeenEnd → List SocketId
ids ends = map (λ (e : SeenEnd). e.id) ends

-- what the sockets of the same four numbers have in common: the socket of turn 0
abbrev pub path : Addr → Addr → SocketId
path from to = record { from_ip = from.ip; from_port = from.port; to_ip = to.ip; to_port = to.port; turn = 0 }

-- the turn of a socket of that path, and 0 of another
abbrev pub turn_on : SocketId → SocketId → ℕ
turn_on path socket = if same_socket path (record socket { turn = 0 }) then socket.turn else 0

-- the greatest turn on a path
abbrev pub greatest : SocketId → List SocketId → ℕ
greatest path sockets = fold (λ most socket. max most (turn_on path socket)) 0 sockets

-- the next socket from here to there, after these: its turn is one above those of the same four numbers
abbrev pub socket_after : List SocketId → Addr → Addr → SocketId
socket_after sockets from to = record (path from to) { turn = greatest (path from to) sockets + 1 }

-- ---- connecting and accepting

-- an end of a socket that the port didn't make before and that goes to this address; the end did nothing yet
pub record IsNewEnd (at : Addr) (made : List SocketId) (e : SeenEnd) : Type 0 where
  pub towards : goes_to at e.id ≡ true
  pub first : IsNewTo made e.id
  pub unused : e.log ≡ nothing_done

-- What a port in memory opens, with these ends waiting there: the next socket from its own address, which takes the first cut
-- for it.
pub record OpensNext (to : Addr) (waiting : List SeenEnd) (old new : SeenPort) (e : SeenEnd) : Type 0 where
  pub end : e ≡ record (fresh_end (socket_after (old.made ++ ids waiting) old.at to)) { left = bound_in to old.cuts }
  pub cuts : new.cuts ≡ without_cuts to old.cuts

-- Connecting to an address. Made gives the opener's end of a new socket that goes there; in memory it is
-- the next socket, and nothing was told there yet. Failed counts one more connect that was missed, and
-- comes only where the count of faults rose, and never in memory.
abbrev pub Connects : Connect SeenEnd → Addr → SeenPort → SeenPort → Type 0
Connects (connect.Made e) to old new =
    IsNewEnd to old.made e × (IfSome e.inflow (λ i. i ≡ nothing_told) × IfSome old.waiting (λ w. OpensNext to w old new e))
    × (new ≡ record old { made = old.made ++ e.id ∷ []; cuts = new.cuts })
Connects connect.Failed to old new =
    (HasRisen old.faults new.faults × (old.waiting ≡ None))
    × (new ≡ record old { missed = next_count old.missed; faults = new.faults })
Connects connect.NoMemory to old new = new ≡ old

-- Accepting. Made comes only of a port that accepts, and gives the acceptor's end of a new socket that goes to the
-- node's own address; in memory it is the one that waits longest, as it waits; where the port tells nothing of what waits,
-- the end tells nothing of what is readable. NotYet comes only where no socket waits. Failed counts one more accept that
-- was refused, and comes only where the count of faults rose, and never in memory.
abbrev pub Accepts : Taken SeenEnd → SeenPort → SeenPort → Type 0
Accepts (accept.Made e) old new =
    (old.accepts ≡ true) × IsNewEnd old.at old.made e
    × ((old.waiting ≡ option_map (λ rest. e ∷ rest) new.waiting) × (old.waiting ≡ None → e.inflow ≡ None))
    × (new ≡ record old { made = old.made ++ e.id ∷ []; quiet = false; waiting = new.waiting })
Accepts accept.NotYet old new = IfSome old.waiting (λ waiting. waiting ≡ []) × (new ≡ record old { quiet = true })
Accepts accept.Failed old new =
    (HasRisen old.faults new.faults × (old.waiting ≡ None)) × (new ≡ record old { refused = next_count old.refused; quiet = true; faults = new.faults })
Accepts accept.NoMemory old new = new ≡ old

-- polling changes the count of faults alone
abbrev pub with_poll : ℕ → SeenPort → SeenPort
with_poll faults s = record s { faults = faults }

-- ---- what the driver of ports in memory does

-- The socket goes to the port's own address, and the port neither made it nor has it waiting.
abbrev pub may_wait : SocketId → SeenPort → List SeenEnd → Bool
may_wait id s waiting = goes_to s.at id && (not (is_among id s.made) && not (list_any (λ (e : SeenEnd). same_socket id e.id) waiting))

abbrev pub with_waiting : SocketId → SeenPort → List SeenEnd → List SeenEnd
with_waiting id s waiting = if may_wait id s waiting then waiting ++ fresh_end id ∷ [] else waiting

-- a socket that comes waits last, where it may
abbrev pub with_incoming : SocketId → SeenPort → SeenPort
with_incoming id s = record s { waiting = option_map (with_waiting id s) s.waiting }

-- the first end of that socket is told something
abbrev pub one_hears : SocketId → (SeenEnd → SeenEnd) → List SeenEnd → List SeenEnd
one_hears id hears [] = []
one_hears id hears (e ∷ es) = if same_socket id e.id then hears e ∷ es else e ∷ one_hears id hears es

-- what is told of a socket reaches its end that waits
abbrev pub with_news : SocketId → News → List ℕ → SeenPort → SeenPort
with_news id news bytes s = record s { waiting = option_map (one_hears id (after_news news bytes)) s.waiting }
