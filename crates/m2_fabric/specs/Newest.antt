-- The newest of some sockets, by which a socket that is newer isn't looked for. This project's own.
use Rattle.std.specs.Prelude.{◌≡◌, ℕ, ◌≤◌, ◌==◌, ◌&&◌, max, Bool, true, false, if◌then◌else◌, List, [], ◌∷◌, ◌++◌}
use Rattle.m2_fabric.specs.Port.{greatest}
use Rattle.m2_fabric.specs.declared.kept.Kept.{Kept}
use Rattle.m2_fabric.specs.declared.newest.Newest.{Newest}
use Rattle.m2_fabric.specs.declared.socket.SocketId.{SocketId}

-- two sockets have the same four numbers
abbrev pub are_alike : SocketId → SocketId → Bool
are_alike a b = (a.from_ip == b.from_ip) && (a.from_port == b.from_port) && (a.to_ip == b.to_ip) && (a.to_port == b.to_port)

-- ---- between two nodes

-- of one socket
abbrev pub newest_of : SocketId → Newest
newest_of id = record { first = id; alike = id.turn; others = 0 }

-- no turn is greater, of the sockets with the same four numbers as the first one, or of the others
abbrev pub newest_turn : Newest → SocketId → ℕ
newest_turn n id = if are_alike n.first id then n.alike else n.others

-- of one socket more
abbrev pub with_turn : SocketId → Newest → Newest
with_turn id n = record {
  first = n.first;
  alike = if are_alike n.first id then max n.alike id.turn else n.alike;
  others = if are_alike n.first id then n.others else max n.others id.turn;
}

-- no socket is newer
abbrev pub AreBelow : Newest → List Kept → Type 0
AreBelow n [] = Unit {0}
AreBelow n (k ∷ ks) = (k.id.turn ≤ newest_turn n k.id) × AreBelow n ks

-- ---- at a port

-- the sockets that a port made, and for how many more there is room
pub record SeenMade : Type 0 where
  pub sockets : List SocketId
  pub room : ℕ

-- one socket more, in place of an older one of the same four numbers
abbrev pub noted : SocketId → List SocketId → List SocketId
noted id [] = id ∷ []
noted id (x ∷ xs) = if are_alike x id then record x { turn = max x.turn id.turn } ∷ xs else x ∷ noted id xs

-- it stands in the place of another, or there is none
abbrev pub after_raise : Bool → SocketId → List SocketId → List SocketId → Type 0
after_raise true id old new = new ≡ noted id old
after_raise false id old new = (new ≡ old) × (noted id old ≡ old ++ id ∷ [])

-- on each path the newest ones have the greatest turn that there is
abbrev pub AreNewest : List SocketId → List SocketId → Type 0
AreNewest newest sockets = (path : SocketId) → greatest path newest ≡ greatest path sockets
