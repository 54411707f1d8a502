-- When the ends of a holder agree with what flowed between them. This project's own.
use Rattle.std.specs.Prelude.{◌≡◌, ℕ, ◌≤◌, false, List, [], ◌∷◌, ◌++◌, length, take, Option, Some, None, IfSome, MatchOption}
use Rattle.m2_addr.specs.declared.addr.Addr.{Addr}
use Rattle.m2_fabric.specs.End.{Inflow, SeenEnd}
use Rattle.m2_fabric.specs.Holder.{EndName, SeenHolder}
use Rattle.m2_fabric.specs.Kept.{SeenPair, directions, is_kept, reader, writer}
use Rattle.m2_fabric.specs.declared.direction.Direction.{Direction}

-- The addresses of the nodes; of each node, how many of the sockets that its ports made were looked at; and the sockets
-- between each two nodes.
pub record SeenFabric : Type 0 where
  pub nodes : List Addr
  pub looked : List ℕ
  pub pairs : List SeenPair

-- a fabric, and the holder of all ends
pub record Network : Type 0 where
  pub fabric : SeenFabric
  pub holder : SeenHolder

abbrev pub end_of : SeenHolder → EndName → Option SeenEnd
end_of h e = h.ends e.node e.id

abbrev pub put_by : Option SeenEnd → List ℕ
put_by None = []
put_by (Some e) = e.log.put

-- a part is the first n items of a whole
pub record AreFirst (n : ℕ) (whole part : List ℕ) : Type 0 where
  pub some : n ≤ length whole
  pub same : part ≡ take n whole

-- what an end got, followed by what is readable at it, is the first n bytes of a list
abbrev pub HasFirst : ℕ → List ℕ → SeenEnd → Type 0
HasFirst n put e = MatchOption e.inflow ⊥ (λ (i : Inflow). AreFirst n put (e.log.got ++ i.readable))

-- What an open end got, followed by what is readable at it, is what flowed of what the other end has put.
abbrev pub HasWhatFlowed : SeenHolder → Direction → Type 0
HasWhatFlowed h d =
    IfSome (end_of h (reader d)) (λ (e : SeenEnd). e.log.closed ≡ false → HasFirst d.progress.flowed (put_by (end_of h (writer d))) e)

abbrev pub HaveWhatFlowed : SeenHolder → List Direction → Type 0
HaveWhatFlowed h [] = Unit {0}
HaveWhatFlowed h (d ∷ ds) = HasWhatFlowed h d × HaveWhatFlowed h ds

-- an end at which nothing was got and nothing is readable
pub record IsUnread (e : SeenEnd) : Type 0 where
  pub got : e.log.got ≡ []
  pub readable : MatchOption e.inflow ⊥ (λ (i : Inflow). i.readable ≡ [])

-- Holder and fabric have the same nodes; of each kept socket, each open end has what flowed to it; and at the ends of
-- other sockets nothing was got and nothing is readable.
pub record IsInStep (n : Network) : Type 0 where
  pub nodes : n.holder.nodes ≡ length n.fabric.nodes
  pub kept : HaveWhatFlowed n.holder (directions n.fabric.pairs)
  pub others : (e : EndName) → is_kept e.id n.fabric.pairs ≡ false → IfSome (end_of n.holder e) IsUnread
