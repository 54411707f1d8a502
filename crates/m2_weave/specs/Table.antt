-- Sockets with the bytes of both ends, as a table; and what is woven by strands and such a table.
use Rattle.std.specs.Prelude.{◌≡◌, ℕ, ◌+◌, ◌==◌, ◌&&◌, Bool, true, false, if◌then◌else◌, List, [], length, map, slice_get, slice_index, slice_index_or, Option, Some, None}
use Rattle.std.specs.Map.{lookup}
use Rattle.m2_fabric.specs.declared.socket.SocketId.{SocketId}
use Rattle.m2_fabric.specs.Sockets.{is_among, same_socket}
use Rattle.m2_weave.specs.declared.strand.Strand.{Strand}
use Rattle.m2_weave.specs.declared.table.SocketBytes.{SocketBytes}
use Rattle.m2_weave.specs.Strands.{Bytes, strand_now}
use Rattle.m2_weave.specs.Rule.{Woven}
use Rattle.m2_weave.specs.Counting.{place_in}

abbrev pub names_of : List SocketBytes → List SocketId
names_of sockets = map (λ (s : SocketBytes). s.socket) sockets

-- ---- where sockets stand

-- the five numbers of a name
abbrev pub Five : Type 0
Five = ℕ × ℕ × ℕ × ℕ × ℕ

abbrev pub five_of : SocketId → Five
five_of k = (k.from_ip, k.from_port, k.to_ip, k.to_port, k.turn)

abbrev pub same_five : Five → Five → Bool
same_five a b = (a.0 == b.0) && (a.1 == b.1) && (a.2 == b.2) && (a.3 == b.3) && (a.4 == b.4)

-- the place of a socket among names that stand from a place on, where it is one of them
abbrev pub found_from : ℕ → List SocketId → SocketId → Option ℕ
found_from place names k = if is_among k names then Some (place + place_in names k) else None

-- a map has the place of each name
abbrev pub ArePlaces : List (Five × ℕ) → List SocketId → Type 0
ArePlaces places names = (k : SocketId) → lookup (same_five (five_of k)) places ≡ found_from 0 names k

-- ---- what their ends have read and written

-- what an end has read, and what it has written: nothing where the socket isn't in the table
abbrev pub got_at : Option SocketBytes → (opener : Bool) → List ℕ
got_at (Some s) true = s.opener.got.now
got_at (Some s) false = s.acceptor.got.now
got_at None opener = []

abbrev pub put_at : Option SocketBytes → (opener : Bool) → List ℕ
put_at (Some s) true = s.opener.put.now
put_at (Some s) false = s.acceptor.put.now
put_at None opener = []

abbrev pub bytes_of : List SocketBytes → Bytes
bytes_of sockets = record {
  got = λ e. got_at (slice_get sockets (place_in (names_of sockets) e.socket)) e.opener;
  put = λ e. put_at (slice_get sockets (place_in (names_of sockets) e.socket)) e.opener;
}

abbrev pub woven_of : List Strand → List SocketBytes → Woven
woven_of strands sockets = record { strands = map strand_now strands; bytes = bytes_of sockets }

-- how many items each strand has
abbrev pub lengths_of : List Strand → List ℕ
lengths_of strands = map (λ (s : Strand). length (strand_now s).items) strands

-- ---- numbers that are kept of each socket, at its place

-- of each named socket the number is this one
abbrev pub KeepsNumbers : List SocketId → (SocketId → ℕ) → List ℕ → Type 0
KeepsNumbers names f numbers = (k : SocketId) → is_among k names ≡ true → slice_index numbers (place_in names k) ≡ f k

-- one number has risen: that of this socket
abbrev pub HasRisen : List SocketId → SocketId → (amount : ℕ) → (old new : List ℕ) → Type 0
HasRisen names x amount old new = (k : SocketId) → is_among k names ≡ true →
    slice_index new (place_in names k) ≡ slice_index old (place_in names k) + (if same_socket k x then amount else 0)

-- of each named socket whether it was opened
abbrev pub KeepsOpened : List SocketId → (SocketId → Bool) → List Bool → Type 0
KeepsOpened names f flags = (k : SocketId) → is_among k names ≡ true → slice_index_or flags (place_in names k) false ≡ f k
