-- The sockets that journals speak of, and the ends of each. This project's own.
use Rattle.std.specs.Prelude.{◌≡◌, ℕ, Bool, if◌then◌else◌, List, [], ◌∷◌, ◌++◌, length, map, slice_get, Option, Some, None}
use Rattle.m2_fabric.specs.declared.socket.SocketId.{SocketId}
use Rattle.m2_fabric.specs.End.{SeenEnd}
use Rattle.m2_fabric.specs.Sockets.{is_among}
use Rattle.m2_journal.specs.declared.entry.Entry.{Entry}
use Rattle.m2_journal.specs.declared.entry.Entry.TheVariants as entry
use Rattle.m2_weave.specs.declared.table.EndBytes.{EndBytes}
use Rattle.m2_weave.specs.Counting.{place_in}
use Rattle.m2_weave.specs.Strands.{same_side}
use Rattle.m2_weave.specs.Table.{KeepsNumbers}
use Rattle.m2_history.specs.declared.rows.SideEnds.{SideEnds}
use Rattle.m2_history.specs.Woven.{BytesNow, EndNow, RowNow, judged_times}

-- ---- sockets of journals

-- those that were opened
abbrev pub opened_of : Entry → List SocketId
opened_of (entry.Opened socket) = socket ∷ []
opened_of _ = []

abbrev pub opened_in : List Entry → List SocketId
opened_in [] = []
opened_in (e ∷ es) = opened_of e ++ opened_in es

-- those that were opened, or on which an ask was judged
abbrev pub known_of : Entry → List SocketId
known_of (entry.Opened socket) = socket ∷ []
known_of (entry.Judged socket ask number answer) = socket ∷ []
known_of _ = []

abbrev pub known_in : List Entry → List SocketId
known_in [] = []
known_in (e ∷ es) = known_of e ++ known_in es

-- two journals
pub record JournalsNow : Type 0 where
  pub a : List Entry
  pub b : List Entry

-- these are their sockets, and of each how many asks on it they have judged
pub record AreKnown (names : List SocketId) (times : List ℕ) (js : JournalsNow) : Type 0 where
  pub these : names ≡ known_in js.a ++ known_in js.b
  pub count : length times ≡ length names
  pub judged : KeepsNumbers names (judged_times js.a js.b) times

-- ---- ends of one side of each socket

-- an end, where its side is known by the sockets that it opened
abbrev pub end_by : (opened : List SocketId) → SeenEnd → EndNow
end_by opened e = record { socket = e.id; opener = is_among e.id opened; got = e.log.got; put = e.log.put }

-- those of openers, or of acceptors
abbrev pub side_of : (opener : Bool) → List EndNow → List EndNow
side_of opener [] = []
side_of opener (e ∷ es) = (if same_side opener e.opener then e ∷ [] else []) ++ side_of opener es

abbrev pub bytes_now : EndBytes → BytesNow
bytes_now b = record { got = b.got.now; put = b.put.now }

abbrev pub bytes_of_end : EndNow → BytesNow
bytes_of_end e = record { got = e.got; put = e.put }

-- these are the names and the bytes of those ends
pub record AreEndsOf (opener : Bool) (all : List EndNow) (s : SideEnds) : Type 0 where
  pub names : s.names ≡ map (λ (e : EndNow). e.socket) (side_of opener all)
  pub bytes : map bytes_now s.bytes.items ≡ map bytes_of_end (side_of opener all)

-- the bytes of the first such end of a socket; nothing where there is none
abbrev pub bytes_or_none : Option EndBytes → BytesNow
bytes_or_none (Some b) = bytes_now b
bytes_or_none None = record { got = []; put = [] }

abbrev pub bytes_on : SideEnds → SocketId → BytesNow
bytes_on s k = bytes_or_none (slice_get s.bytes.items (place_in s.names k))

abbrev pub row_by : (openers acceptors : SideEnds) → EndNow → RowNow
row_by openers acceptors e = record { socket = e.socket; opener = bytes_on openers e.socket; acceptor = bytes_on acceptors e.socket }
