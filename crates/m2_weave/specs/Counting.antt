-- The rule of weaving by counters: of each socket the bytes that either end has written, the asks that were handed on and
-- those that were judged. A counter's number is made of the socket's place among names.
use Rattle.std.specs.Prelude.{◌≡◌, ℕ, suc, ◌+◌, ◌*◌, Bool, true, false, if◌then◌else◌, List, [], ◌∷◌, length, take, drop, map, slice_get}
use Rattle.std.specs.List.{AllByRecursion}
use Rattle.std.specs.Option.{is_none}
use Rattle.m2_fabric.specs.declared.socket.SocketId.{SocketId}
use Rattle.m2_fabric.specs.Sockets.{same_socket, is_among}
use Rattle.m2_journal.specs.declared.entry.Entry.TheVariants as entry
use Rattle.m2_weave.specs.declared.counted.CountedEntry.{CountedEntry}
use Rattle.m2_weave.specs.declared.counted.Need.{Need}
use Rattle.m2_weave.specs.declared.counted.Need.TheVariants.{Nothing, AtLeast, Never}
use Rattle.m2_weave.specs.Counted.{Strands}
use Rattle.m2_weave.specs.declared.strand.StrandItem.{StrandItem}
use Rattle.m2_weave.specs.declared.strand.StrandItem.TheVariants.{Noted, Handed}
use Rattle.m2_weave.specs.Strands.{EndOf, StrandNow, other, end_in, handed_by, judged_by, total, place_of}
use Rattle.m2_weave.specs.Rule.{Woven, first_unfit}

-- ---- the counters

-- the place of a socket among names; behind all of them where it is none
abbrev pub place_in : List SocketId → SocketId → ℕ
place_in [] k = 0
place_in (x ∷ names) k = if same_socket k x then 0 else suc (place_in names k)

abbrev pub side_number : Bool → ℕ
side_number true = 1
side_number false = 0

-- the bytes that an end has written
abbrev pub writes : List SocketId → EndOf → ℕ
writes names e = 4 * place_in names e.socket + side_number e.opener

-- the asks of a socket that were handed on, and those that were judged
abbrev pub hands : List SocketId → SocketId → ℕ
hands names k = 4 * place_in names k + 2

abbrev pub judges : List SocketId → SocketId → ℕ
judges names k = 4 * place_in names k + 3

-- ---- what an item waits for, and what it adds

-- where the bytes of a read are those that the other end writes there at some time: until it has written the last one
abbrev pub fit_need : Bool → (counter place : ℕ) → List ℕ → Need
fit_need true counter place [] = Nothing
fit_need true counter place (x ∷ xs) = AtLeast counter (place + length (x ∷ xs))
fit_need false counter place xs = Never

abbrev pub bytes_need : List SocketId → Woven → EndOf → (place : ℕ) → List ℕ → Need
bytes_need names w e place bytes =
    fit_need (is_none (first_unfit e (slice_get (w.bytes.put (other e))) place bytes)) (writes names (other e)) place bytes

abbrev pub read_need : List SocketId → Woven → StrandNow → ℕ → SocketId → ℕ → Need
read_need names w s n k count =
    bytes_need names w (end_in s k) (place_of w.strands s n k) (take count (drop (place_of w.strands s n k) (w.bytes.got (end_in s k))))

abbrev pub adding_nothing : Need → CountedEntry
adding_nothing need = record { need = need; counter = 0; amount = 0 }

abbrev pub counted_item : List SocketId → Woven → StrandNow → ℕ → StrandItem → CountedEntry
counted_item names w s n (Noted (entry.Read k count)) = adding_nothing (read_need names w s n k count)
counted_item names w s n (Noted (entry.Wrote k count)) = record {
  need = AtLeast (judges names k) (total (handed_by k) (take n s.items));
  counter = writes names (end_in s k);
  amount = count;
}
counted_item names w s n (Noted (entry.Judged k ask number answer)) = record {
  need = AtLeast (hands names k) (total (judged_by k) (take n s.items) + 1);
  counter = judges names k;
  amount = 1;
}
counted_item names w s n (Noted _) = adding_nothing Nothing
counted_item names w s n (Handed k) = record { need = Nothing; counter = hands names k; amount = 1 }

-- the items of a strand from a place on
abbrev pub counted_items : List SocketId → Woven → StrandNow → ℕ → List StrandItem → List CountedEntry
counted_items names w s n [] = []
counted_items names w s n (i ∷ is) = counted_item names w s n i ∷ counted_items names w s (suc n) is

abbrev pub counted : List SocketId → Woven → Strands
counted names w = map (λ (s : StrandNow). counted_items names w s 0 s.items) w.strands

-- ---- that the names are there

abbrev pub IsNamed : List SocketId → StrandItem → Type 0
IsNamed names (Noted (entry.Read k count)) = is_among k names ≡ true
IsNamed names (Noted (entry.Wrote k count)) = is_among k names ≡ true
IsNamed names (Noted (entry.Judged k ask number answer)) = is_among k names ≡ true
IsNamed names (Noted _) = Unit {0}
IsNamed names (Handed k) = is_among k names ≡ true

abbrev pub AreNamed : List SocketId → Woven → Type 0
AreNamed names w = AllByRecursion (λ (s : StrandNow). AllByRecursion (IsNamed names) s.items) w.strands
