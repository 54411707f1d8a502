-- What is woven of two sides: their journals and halves as strands, and the bytes of their ends, socket by socket. This project's
-- own.
use Rattle.std.specs.Prelude.{◌≡◌, ℕ, ◌+◌, ◌&&◌, ◌||◌, Bool, true, false, if◌then◌else◌, List, [], ◌∷◌, ◌++◌, map, take, Some, None, Result, Ok, Err}
use Rattle.std.specs.List.{list_any}
use Rattle.m2_fabric.specs.declared.socket.SocketId.{SocketId}
use Rattle.m2_fabric.specs.End.{SeenEnd}
use Rattle.m2_fabric.specs.Sockets.{same_socket}
use Rattle.m2_journal.specs.declared.entry.Entry.{Entry}
use Rattle.m2_journal.specs.declared.entry.Entry.TheVariants as entry
use Rattle.m2_weave.specs.Order.{Cut, nothing}
use Rattle.m2_trail.specs.Arrivals.{LooseNow}
use Rattle.m2_trail.specs.Trails.{TrailNow}
use Rattle.m2_weave.specs.declared.table.SocketBytes.{SocketBytes}
use Rattle.m2_weave.specs.Counting.{AreNamed}
use Rattle.m2_weave.specs.Rule.{Woven}
use Rattle.m2_weave.specs.Stops.{IsWoven, StopsAt, sizes}
use Rattle.m2_weave.specs.Strands.{StrandNow, has_opened, journal_of, judged_by, same_side, total}
use Rattle.m2_weave.specs.Table.{bytes_of, names_of}
use Rattle.m2_history.specs.declared.history.History.{History}
use Rattle.m2_history.specs.declared.history.PartsFault.{PartsFault}
use Rattle.m2_history.specs.declared.history.PartsFault.TheVariants as fault
use Rattle.m2_history.specs.HalfStrands.{strand_of}
use Rattle.m2_history.specs.Parts.{PartsNow}
use Rattle.m2_history.specs.Steps.{steps_from}

-- ---- what is woven

-- both sides, and halves that neither took
pub record BothNow : Type 0 where
  pub a : PartsNow
  pub b : PartsNow
  pub loose : List LooseNow

-- ---- which halves are the link's

abbrev pub is_about : SocketId → Entry → Bool
is_about k (entry.Opened socket) = same_socket k socket
is_about k (entry.Judged socket ask number answer) = same_socket k socket
is_about k _ = false

abbrev pub knows : List Entry → SocketId → Bool
knows journal k = list_any (is_about k) journal

-- either side has opened its socket, or judged an ask on it
abbrev pub is_of_link : (a b : List Entry) → LooseNow → Bool
is_of_link a b l = knows a l.end.id || knows b l.end.id

-- ---- the strands

abbrev pub strands_of_side : List Entry → List TrailNow → List StrandNow
strands_of_side journal trails = journal_of journal ∷ map strand_of trails

-- how many asks on a socket two journals have judged
abbrev pub judged_times : (a b : List Entry) → SocketId → ℕ
judged_times a b k = total (judged_by k) (journal_of a).items + total (judged_by k) (journal_of b).items

-- Of a loose half's asks those count that the two journals have judged: another record of its node may have judged more.
abbrev pub as_judged : (a b : List Entry) → TrailNow → TrailNow
as_judged a b t = record t { judged_after = take (judged_times a b t.socket) t.judged_after }

abbrev pub loose_strand : (a b : List Entry) → LooseNow → List StrandNow
loose_strand a b l = if is_of_link a b l then strand_of (as_judged a b l.trail) ∷ [] else []

abbrev pub loose_strands : (a b : List Entry) → List LooseNow → List StrandNow
loose_strands a b [] = []
loose_strands a b (l ∷ ls) = loose_strand a b l ++ loose_strands a b ls

abbrev pub strands_of : BothNow → List StrandNow
strands_of x =
    (strands_of_side x.a.journal x.a.trails ++ strands_of_side x.b.journal x.b.trails)
    ++ loose_strands x.a.journal x.b.journal x.loose

-- ---- the bytes

-- what an end did on its socket: whether its side has opened it, and all that it got and put
pub record EndNow : Type 0 where
  pub socket : SocketId
  pub opener : Bool
  pub got : List ℕ
  pub put : List ℕ

abbrev pub end_of : List Entry → SeenEnd → EndNow
end_of journal e = record { socket = e.id; opener = has_opened (journal_of journal) e.id; got = e.log.got; put = e.log.put }

-- a half's end is its acceptor's
abbrev pub half_end : LooseNow → EndNow
half_end l = record { socket = l.end.id; opener = false; got = l.end.log.got; put = l.end.log.put }

abbrev pub loose_end : (a b : List Entry) → LooseNow → List EndNow
loose_end a b l = if is_of_link a b l then half_end l ∷ [] else []

abbrev pub loose_ends : (a b : List Entry) → List LooseNow → List EndNow
loose_ends a b [] = []
loose_ends a b (l ∷ ls) = loose_end a b l ++ loose_ends a b ls

abbrev pub ends_of : BothNow → List EndNow
ends_of x = (map (end_of x.a.journal) x.a.ends ++ map (end_of x.b.journal) x.b.ends) ++ loose_ends x.a.journal x.b.journal x.loose

-- of this end of a socket: the first that there is, or nothing
pub record BytesNow : Type 0 where
  pub got : List ℕ
  pub put : List ℕ

abbrev pub is_end : SocketId → (opener : Bool) → EndNow → Bool
is_end k opener e = same_socket k e.socket && same_side opener e.opener

abbrev pub bytes_at : SocketId → (opener : Bool) → List EndNow → BytesNow
bytes_at k opener [] = record { got = []; put = [] }
bytes_at k opener (e ∷ es) = if is_end k opener e then record { got = e.got; put = e.put } else bytes_at k opener es

-- a socket with the bytes of both ends
pub record RowNow : Type 0 where
  pub socket : SocketId
  pub opener : BytesNow
  pub acceptor : BytesNow

abbrev pub row_in : List EndNow → EndNow → RowNow
row_in ends e = record { socket = e.socket; opener = bytes_at e.socket true ends; acceptor = bytes_at e.socket false ends }

abbrev pub rows_of : List EndNow → List RowNow
rows_of ends = map (row_in ends) ends

abbrev pub row_now : SocketBytes → RowNow
row_now s = record {
  socket = s.socket;
  opener = record { got = s.opener.got.now; put = s.opener.put.now };
  acceptor = record { got = s.acceptor.got.now; put = s.acceptor.put.now };
}

-- ---- a history

-- an order by its steps, or want of memory
abbrev pub IsHistoryOrFull : Result History PartsFault → (at : Cut) → List ℕ → Type 0
IsHistoryOrFull (Ok h) at order = h.steps.items ≡ steps_from at order
IsHistoryOrFull (Err fault.NoMemory) at order = Unit {0}
IsHistoryOrFull (Err _) at order = ⊥

-- the steps are those of an order of all strands
pub record IsHistory (w : Woven) (h : History) : Type 0 where
  pub order : List ℕ
  pub woven : IsWoven w order
  pub steps : h.steps.items ≡ steps_from (nothing (sizes w)) order

-- What comes of weaving strands with the bytes of these sockets: an order of all of them, exactly where there is one; else the byte
-- at which the first strand stands that stands at a read, or that none does.
abbrev pub ComesOf : Result History PartsFault → List StrandNow → List SocketBytes → Type 0
ComesOf (Ok h) strands sockets = IsHistory (record { strands = strands; bytes = bytes_of sockets }) h
ComesOf (Err (fault.Unfit u)) strands sockets = let w : Woven = record { strands = strands; bytes = bytes_of sockets } in
    StopsAt w (Some u) × ((order : List ℕ) → IsWoven w order → ⊥)
ComesOf (Err fault.Waits) strands sockets = let w : Woven = record { strands = strands; bytes = bytes_of sockets } in
    StopsAt w None × ((order : List ℕ) → IsWoven w order → ⊥)
ComesOf (Err fault.NoEnd) strands sockets = AreNamed (names_of sockets) (record { strands = strands; bytes = bytes_of sockets }) → ⊥
ComesOf (Err fault.NoMemory) strands sockets = Unit {0}

-- of two sides and halves that neither took
abbrev pub Weaves : Result History PartsFault → BothNow → Type 0
Weaves (Err fault.NoMemory) x = Unit {0}
Weaves result x = (sockets : List SocketBytes) × (map row_now sockets ≡ rows_of (ends_of x)) × ComesOf result (strands_of x) sockets
