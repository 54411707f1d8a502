-- The sockets that a port made, and their turns: a socket's turn counts the sockets of the same four numbers.
use Rattle.std.specs.Prelude.{◌≡◌, ℕ, ◌+◌, ◌≤◌, ◌==◌, ◌&&◌, Bool, if◌then◌else◌, List, [], ◌∷◌}
use Rattle.std.specs.Option.{unwrap_or}
use Rattle.std.specs.Map.{lookup}
use Rattle.m2_fabric.specs.declared.socket.SocketId.{SocketId}

-- the sockets in order, and for how many more there is room
pub record Made : Type 0 where
  pub sockets : List SocketId
  pub room : ℕ

-- the opener's ip and port, and the acceptor's
abbrev pub Four : Type 0
Four = ℕ × ℕ × ℕ × ℕ

abbrev pub four_of : SocketId → Four
four_of s = (s.from_ip, s.from_port, s.to_ip, s.to_port)

abbrev pub same_four : Four → Four → Bool
same_four a b = (a.0 == b.0) && (a.1 == b.1) && (a.2 == b.2) && (a.3 == b.3)

-- how many sockets have these four numbers
abbrev pub count_of : Four → List SocketId → ℕ
count_of four [] = 0
count_of four (s ∷ ss) = (if same_four four (four_of s) then 1 else 0) + count_of four ss

-- the next socket of these four numbers, after those
abbrev pub next_socket : Four → List SocketId → SocketId
next_socket four sockets =
    record { from_ip = four.0; from_port = four.1; to_ip = four.2; to_port = four.3; turn = count_of four sockets + 1 }

-- no turn is above the count of its four numbers
abbrev pub AreWithin : List SocketId → List SocketId → Type 0
AreWithin all [] = Unit {0}
AreWithin all (s ∷ ss) = (s.turn ≤ count_of (four_of s) all) × AreWithin all ss

-- the counts are those of the sockets
pub record AreCounted (sockets : List SocketId) (counts : List (Four × ℕ)) : Type 0 where
  pub counted : (four : Four) → unwrap_or (lookup (same_four four) counts) 0 ≡ count_of four sockets
  pub within : AreWithin sockets sockets
