-- What is woven: the journals of two sides, and what halves did on their sockets, as strands; and the bytes of all ends.
-- This project's own.
use Rattle.std.specs.Prelude.{ℕ, ◌+◌, ◌-◌, ◌||◌, max, not, Bool, true, false, if◌then◌else◌, List, [], ◌∷◌, ◌++◌, take, drop, map}
use Rattle.std.specs.List.{list_any}
use Rattle.m2_fabric.specs.declared.socket.SocketId.{SocketId}
use Rattle.m2_fabric.specs.Sockets.{same_socket}
use Rattle.m2_journal.specs.declared.entry.Entry.{Entry}
use Rattle.m2_journal.specs.declared.entry.Entry.TheVariants as entry
use Rattle.m2_weave.specs.declared.strand.Strand.{Strand}
use Rattle.m2_weave.specs.declared.strand.Strand.TheVariants.{Journal, Half}
use Rattle.m2_weave.specs.declared.strand.StrandItem.{StrandItem}
use Rattle.m2_weave.specs.declared.strand.StrandItem.TheVariants.{Noted, Handed}
use Rattle.m2_weave.specs.Order.{Cut}

-- ---- ends

-- an end of a socket: its opener's, or else its acceptor's
pub record EndOf : Type 0 where
  pub socket : SocketId
  pub opener : Bool

abbrev pub other : EndOf → EndOf
other e = record { socket = e.socket; opener = not e.opener }

-- all bytes that each end has read and written
pub record Bytes : Type 0 where
  pub got : EndOf → List ℕ
  pub put : EndOf → List ℕ

-- ---- strands

-- items that came one after the other: a journal, or what a half did on a socket of the peer
pub record StrandNow : Type 0 where
  pub of_half : Bool
  pub items : List StrandItem

abbrev pub journal_of : List Entry → StrandNow
journal_of entries = record { of_half = false; items = map Noted entries }

-- a half's entries from a place on, and after how many of its entries each of its asks was judged
abbrev pub half_items : SocketId → (place : ℕ) → List Entry → (judged_after : List ℕ) → List StrandItem
half_items k place entries [] = map Noted entries
half_items k place entries (n ∷ ns) =
    map Noted (take (n - place) entries) ++ Handed k ∷ half_items k (max n place) (drop (n - place) entries) ns

abbrev pub half_of : SocketId → List Entry → (judged_after : List ℕ) → StrandNow
half_of k entries judged_after = record { of_half = true; items = half_items k 0 entries judged_after }

abbrev pub strand_now : Strand → StrandNow
strand_now (Journal entries) = journal_of entries.now.items
strand_now (Half socket entries judged_after) = half_of socket entries.now.items judged_after.now

-- ---- what items are on a socket

abbrev pub read_by : SocketId → StrandItem → ℕ
read_by k (Noted (entry.Read socket count)) = if same_socket k socket then count else 0
read_by k _ = 0

abbrev pub written_by : SocketId → StrandItem → ℕ
written_by k (Noted (entry.Wrote socket count)) = if same_socket k socket then count else 0
written_by k _ = 0

abbrev pub handed_by : SocketId → StrandItem → ℕ
handed_by k (Handed socket) = if same_socket k socket then 1 else 0
handed_by k _ = 0

abbrev pub judged_by : SocketId → StrandItem → ℕ
judged_by k (Noted (entry.Judged socket ask number answer)) = if same_socket k socket then 1 else 0
judged_by k _ = 0

abbrev pub opens : SocketId → StrandItem → Bool
opens k (Noted (entry.Opened socket)) = same_socket k socket
opens k _ = false

-- the side of a strand opened the socket
abbrev pub has_opened : StrandNow → SocketId → Bool
has_opened s k = list_any (opens k) s.items

-- the end at which a strand's entries on a socket are
abbrev pub end_in : StrandNow → SocketId → EndOf
end_in s k = record { socket = k; opener = has_opened s k }

abbrev pub same_side : Bool → Bool → Bool
same_side true b = b
same_side false b = not b

-- ---- sums

abbrev pub total : (StrandItem → ℕ) → List StrandItem → ℕ
total f [] = 0
total f (i ∷ is) = f i + total f is

-- over all that has come of each strand
abbrev pub total_at : (StrandNow → StrandItem → ℕ) → List StrandNow → Cut → ℕ
total_at f [] at = 0
total_at f (s ∷ ss) [] = 0
total_at f (s ∷ ss) (n ∷ at) = total (f s) (take n s.items) + total_at f ss at

-- what an item of a strand has written at an end
abbrev pub written_in : EndOf → StrandNow → StrandItem → ℕ
written_in e s i = if same_side (has_opened s e.socket) e.opener then written_by e.socket i else 0

-- how many bytes an end has written by then; how many asks of a socket were handed on, and how many judged
abbrev pub written_at : List StrandNow → Cut → EndOf → ℕ
written_at ss at e = total_at (written_in e) ss at

abbrev pub handed_at : List StrandNow → Cut → SocketId → ℕ
handed_at ss at k = total_at (λ s i. handed_by k i) ss at

abbrev pub judged_at : List StrandNow → Cut → SocketId → ℕ
judged_at ss at k = total_at (λ s i. judged_by k i) ss at

-- ---- the places of bytes

-- what halves have read on a socket in all
abbrev pub read_by_halves : List StrandNow → SocketId → ℕ
read_by_halves [] k = 0
read_by_halves (s ∷ ss) k = (if s.of_half then total (read_by k) s.items else 0) + read_by_halves ss k

-- how many bytes were read at its end before a strand began: a journal goes on where a half has left off
abbrev pub begun_at : List StrandNow → StrandNow → SocketId → ℕ
begun_at ss s k = if s.of_half || has_opened s k then 0 else read_by_halves ss k

-- the place of the next byte that a strand reads on a socket, after so many of its items
abbrev pub place_of : List StrandNow → StrandNow → ℕ → SocketId → ℕ
place_of ss s n k = begun_at ss s k + total (read_by k) (take n s.items)
