-- What is counted of each socket where a strand is made into counted entries.
use Rattle.std.specs.Prelude.{◌≡◌, ℕ, ◌+◌, ◌||◌, Bool, false, if◌then◌else◌, List, [], length, take, drop, slice_get, slice_index, slice_index_or}
use Rattle.m2_fabric.specs.declared.socket.SocketId.{SocketId}
use Rattle.m2_fabric.specs.Sockets.{same_socket}
use Rattle.m2_journal.specs.declared.entry.Entry.TheVariants as entry
use Rattle.m2_weave.specs.declared.counted.CountedEntry.{CountedEntry}
use Rattle.m2_weave.specs.declared.counted.Need.TheVariants.{Nothing, AtLeast}
use Rattle.m2_weave.specs.declared.counts.Counts.{Counts}
use Rattle.m2_weave.specs.declared.strand.StrandItem.{StrandItem}
use Rattle.m2_weave.specs.declared.strand.StrandItem.TheVariants.{Noted, Handed}
use Rattle.m2_weave.specs.declared.table.SocketBytes.{SocketBytes}
use Rattle.m2_weave.specs.Strands.{EndOf, StrandNow, handed_by, has_opened, judged_by, read_by, read_by_halves, total}
use Rattle.m2_weave.specs.Rule.{Woven}
use Rattle.m2_weave.specs.Counting.{adding_nothing, bytes_need, hands, judges, place_in, writes}
use Rattle.m2_weave.specs.Table.{HasRisen, KeepsNumbers, KeepsOpened, bytes_of, got_at, names_of}

-- the bytes of a table, with no strand
abbrev pub bytes_alone : List SocketBytes → Woven
bytes_alone sockets = record { strands = []; bytes = bytes_of sockets }

-- ---- the numbers of a socket

abbrev pub number_at : List SocketBytes → List ℕ → SocketId → ℕ
number_at sockets numbers k = slice_index numbers (place_in (names_of sockets) k)

-- the place of the next byte that the strand reads, by the socket's place
abbrev pub from_of : Counts → (place : ℕ) → ℕ
from_of c place = (if c.of_half || slice_index_or c.opened.items place false then 0 else slice_index c.halves.items place) + slice_index c.reads.items place

abbrev pub from_at : List SocketBytes → Counts → SocketId → ℕ
from_at sockets c k = from_of c (place_in (names_of sockets) k)

-- the end at which a strand's entries on a socket are
abbrev pub end_at : List SocketBytes → Counts → SocketId → EndOf
end_at sockets c k = record { socket = k; opener = slice_index_or c.opened.items (place_in (names_of sockets) k) false }

-- what an item is counted as, by these numbers
abbrev pub item_by : List SocketBytes → Counts → StrandItem → CountedEntry
item_by sockets c (Noted (entry.Read k count)) =
    adding_nothing (bytes_need (names_of sockets) (bytes_alone sockets) (end_at sockets c k) (from_at sockets c k)
    (take count (drop (from_at sockets c k)
    (got_at (slice_get sockets (place_in (names_of sockets) k)) (slice_index_or c.opened.items (place_in (names_of sockets) k) false)))))
item_by sockets c (Noted (entry.Wrote k count)) = record {
  need = AtLeast (judges (names_of sockets) k) (number_at sockets c.handed.items k);
  counter = writes (names_of sockets) (end_at sockets c k);
  amount = count;
}
item_by sockets c (Noted (entry.Judged k ask number answer)) = record {
  need = AtLeast (hands (names_of sockets) k) (number_at sockets c.judged.items k + 1);
  counter = judges (names_of sockets) k;
  amount = 1;
}
item_by sockets c (Noted _) = adding_nothing Nothing
item_by sockets c (Handed k) = record { need = Nothing; counter = hands (names_of sockets) k; amount = 1 }

-- as many numbers as sockets
pub record AreFor (sockets : List SocketBytes) (c : Counts) : Type 0 where
  pub halves : length c.halves.items ≡ length sockets
  pub opened : length c.opened.items ≡ length sockets
  pub reads : length c.reads.items ≡ length sockets
  pub handed : length c.handed.items ≡ length sockets
  pub judged : length c.judged.items ≡ length sockets

-- an item is counted
pub record IsCounted (sockets : List SocketBytes) (i : StrandItem) (old new : Counts) (e : CountedEntry) : Type 0 where
  pub entry : e ≡ item_by sockets old i
  pub sizes : AreFor sockets new
  pub of_half : new.of_half ≡ old.of_half
  pub halves : new.halves ≡ old.halves
  pub opened : new.opened ≡ old.opened
  pub reads : KeepsNumbers (names_of sockets) (λ k. number_at sockets old.reads.items k + read_by k i) new.reads.items
  pub handed : KeepsNumbers (names_of sockets) (λ k. number_at sockets old.handed.items k + handed_by k i) new.handed.items
  pub judged : KeepsNumbers (names_of sockets) (λ k. number_at sockets old.judged.items k + judged_by k i) new.judged.items

-- ---- as far as a strand's items were counted

pub record CountsAre (sockets : List SocketBytes) (w : Woven) (s : StrandNow) (n : ℕ) (c : Counts) : Type 0 where
  pub sizes : AreFor sockets c
  pub of_half : c.of_half ≡ s.of_half
  pub halves : KeepsNumbers (names_of sockets) (read_by_halves w.strands) c.halves.items
  pub opened : KeepsOpened (names_of sockets) (has_opened s) c.opened.items
  pub reads : KeepsNumbers (names_of sockets) (λ k. total (read_by k) (take n s.items)) c.reads.items
  pub handed : KeepsNumbers (names_of sockets) (λ k. total (handed_by k) (take n s.items)) c.handed.items
  pub judged : KeepsNumbers (names_of sockets) (λ k. total (judged_by k) (take n s.items)) c.judged.items

-- between strands nothing is counted
pub record IsClear (sockets : List SocketBytes) (ss : List StrandNow) (c : Counts) : Type 0 where
  pub sizes : AreFor sockets c
  pub halves : KeepsNumbers (names_of sockets) (read_by_halves ss) c.halves.items
  pub opened : KeepsOpened (names_of sockets) (λ _. false) c.opened.items
  pub reads : KeepsNumbers (names_of sockets) (λ _. 0) c.reads.items
  pub handed : KeepsNumbers (names_of sockets) (λ _. 0) c.handed.items
  pub judged : KeepsNumbers (names_of sockets) (λ _. 0) c.judged.items

-- an item by which something of a socket is counted
abbrev pub is_on : SocketId → StrandItem → Bool
is_on k (Noted (entry.Read socket count)) = same_socket k socket
is_on k (Noted (entry.Judged socket ask number answer)) = same_socket k socket
is_on k (Noted (entry.Opened socket)) = same_socket k socket
is_on k (Noted _) = false
is_on k (Handed socket) = same_socket k socket

-- what was counted of these sockets is forgotten
pub record IsForgotten (sockets : List SocketBytes) (these : SocketId → Bool) (old new : Counts) : Type 0 where
  pub sizes : AreFor sockets new
  pub halves : new.halves ≡ old.halves
  pub opened : KeepsOpened (names_of sockets) (λ k. if these k then false else slice_index_or old.opened.items (place_in (names_of sockets) k) false) new.opened.items
  pub reads : KeepsNumbers (names_of sockets) (λ k. if these k then 0 else number_at sockets old.reads.items k) new.reads.items
  pub handed : KeepsNumbers (names_of sockets) (λ k. if these k then 0 else number_at sockets old.handed.items k) new.handed.items
  pub judged : KeepsNumbers (names_of sockets) (λ k. if these k then 0 else number_at sockets old.judged.items k) new.judged.items

-- ---- one kind of item

-- only these numbers have changed, as many as sockets
pub record IsReadCounted (sockets : List SocketBytes) (k : SocketId) (count : ℕ) (old new : Counts) (e : CountedEntry) : Type 0 where
  pub entry : e ≡ item_by sockets old (Noted (entry.Read k count))
  pub others : new ≡ record old { reads = new.reads }
  pub size : length new.reads.items ≡ length sockets
  pub risen : HasRisen (names_of sockets) k count old.reads.items new.reads.items

pub record IsJudgedCounted (sockets : List SocketBytes) (k : SocketId) (old new : Counts) (e : CountedEntry) : Type 0 where
  pub need : e.need ≡ AtLeast (hands (names_of sockets) k) (number_at sockets old.judged.items k + 1)
  pub counter : e.counter ≡ judges (names_of sockets) k
  pub amount : e.amount ≡ 1
  pub others : new ≡ record old { judged = new.judged }
  pub size : length new.judged.items ≡ length sockets
  pub risen : HasRisen (names_of sockets) k 1 old.judged.items new.judged.items

pub record IsHandedCounted (sockets : List SocketBytes) (k : SocketId) (old new : Counts) (e : CountedEntry) : Type 0 where
  pub entry : e ≡ item_by sockets old (Handed k)
  pub others : new ≡ record old { handed = new.handed }
  pub size : length new.handed.items ≡ length sockets
  pub risen : HasRisen (names_of sockets) k 1 old.handed.items new.handed.items
