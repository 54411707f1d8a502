-- The sockets that are kept between nodes, each with its two directions. This project's own.
use Rattle.std.specs.Prelude.{◌≡◌, ℕ, ◌+◌, ◌-◌, ◌==◌, ◌≤◌, ◌<◌, map, ◌&&◌, ◌||◌, Bool, true, false, if◌then◌else◌, List, [], ◌∷◌, ◌++◌, flat_map, length, Option, None, slice_get}
use Rattle.std.specs.List.{list_any}
use Rattle.m2_fabric.specs.Holder.{EndName}
use Rattle.m2_fabric.specs.Sockets.{same_socket}
use Rattle.m2_fabric.specs.declared.socket.SocketId.{SocketId}
use Rattle.m2_fabric.specs.declared.direction.Direction.{Direction}
use Rattle.m2_fabric.specs.declared.kept.Kept.{Kept}

-- Two nodes, and the sockets between them in the order in which they were opened.
pub record SeenPair : Type 0 where
  pub first : ℕ
  pub second : ℕ
  pub sockets : List Kept

-- a socket of which nothing flowed
abbrev pub fresh_kept : SocketId → Kept
fresh_kept id = record { id = id; there = record { flowed = 0; over = false }; back = record { flowed = 0; over = false } }

-- the end that writes in a direction of a socket, and the one that reads
abbrev pub writer : Direction → EndName
writer d = record { node = d.from; id = d.id }

abbrev pub reader : Direction → EndName
reader d = record { node = d.to; id = d.id }

-- there is from the first node to the second
abbrev pub there : ℕ → ℕ → Kept → Direction
there first second k = record { from = first; to = second; id = k.id; progress = k.there }

abbrev pub back : ℕ → ℕ → Kept → Direction
back first second k = record { from = second; to = first; id = k.id; progress = k.back }

abbrev pub both : ℕ → ℕ → Kept → List Direction
both first second k = there first second k ∷ back first second k ∷ []

abbrev pub of_sockets : ℕ → ℕ → List Kept → List Direction
of_sockets first second ks = flat_map (both first second) ks

abbrev pub of_pair : SeenPair → List Direction
of_pair p = of_sockets p.first p.second p.sockets

-- both directions of all sockets
abbrev pub directions : List SeenPair → List Direction
directions pairs = flat_map of_pair pairs

-- a socket is kept
abbrev pub is_kept : SocketId → List SeenPair → Bool
is_kept id pairs = list_any (λ (p : SeenPair). list_any (λ (k : Kept). same_socket k.id id) p.sockets) pairs

-- a pair is that of these two nodes
abbrev pub joins : ℕ → ℕ → SeenPair → Bool
joins a b p = ((p.first == a) && (p.second == b)) || ((p.first == b) && (p.second == a))

-- the sockets between two nodes, in the order in which they were opened
abbrev pub between : ℕ → ℕ → List SeenPair → List Kept
between a b [] = []
between a b (p ∷ ps) = if joins a b p then p.sockets else between a b ps

-- the socket of that number between two nodes; the first one has number 1
abbrev pub numbered : ℕ → List Kept → Option Kept
numbered number ks = if number == 0 then None else slice_get ks (number - 1)

-- the socket of a number, or the newest one where the number is 0
abbrev pub chosen : ℕ → List Kept → Option Kept
chosen number ks = if number == 0 then numbered (length ks) ks else numbered number ks

-- a socket is added behind those between two nodes
abbrev pub with_kept : ℕ → ℕ → Kept → List SeenPair → List SeenPair
with_kept a b k [] = record { first = a; second = b; sockets = k ∷ [] } ∷ []
with_kept a b k (p ∷ ps) = if joins a b p then record p { sockets = p.sockets ++ k ∷ [] } ∷ ps else p ∷ with_kept a b k ps

-- a socket was added to the pair of its nodes, or there is none
abbrev pub pairs_after_add : Bool → ℕ → ℕ → Kept → List SeenPair → List SeenPair → Type 0
pairs_after_add true a b k old new = new ≡ with_kept a b k old
pairs_after_add false a b k old new = (new ≡ old) × (with_kept a b k old ≡ old ++ record { first = a; second = b; sockets = k ∷ [] } ∷ [])

-- ---- no two directions lead to one end

abbrev pub same_end : EndName → EndName → Bool
same_end a b = (a.node == b.node) && same_socket a.id b.id

-- how many directions lead to an end
abbrev pub times_read : EndName → List Direction → ℕ
times_read e [] = 0
times_read e (d ∷ ds) = (if same_end (reader d) e then 1 else 0) + times_read e ds

abbrev pub IsReadOnce : List Direction → Type 0
IsReadOnce ds = (e : EndName) → times_read e ds ≤ 1

-- the nodes of a pair are among so many
pub record IsWithin (nodes : ℕ) (p : SeenPair) : Type 0 where
  pub first : p.first < nodes
  pub second : p.second < nodes

abbrev pub AreWithin : ℕ → List SeenPair → Type 0
AreWithin nodes [] = Unit {0}
AreWithin nodes (p ∷ ps) = IsWithin nodes p × AreWithin nodes ps

-- No two directions lead to one end, and the nodes of all pairs are among so many.
pub record AreKept (nodes : ℕ) (pairs : List SeenPair) : Type 0 where
  pub once : IsReadOnce (directions pairs)
  pub within : AreWithin nodes pairs

-- ---- the same sockets, of which nothing flowed

abbrev pub cleared : Kept → Kept
cleared k = fresh_kept k.id

abbrev pub cleared_pair : SeenPair → SeenPair
cleared_pair p = record p { sockets = map cleared p.sockets }
