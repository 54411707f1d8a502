-- What is left of nodes that have ended. This project's own.
use Rattle.std.specs.Prelude.{◌≡◌, ℕ, List, length, reverse, slice_get, Option, Some, None}
use Rattle.std.specs.List.{flat_map}
use Rattle.m2_node.specs.m2_script.m2_center.Center.{CenterNow}
use Rattle.m2_dispatch.specs.declared.logged.Logged.{Logged}
use Rattle.m2_fabric.specs.Port.{SeenPort}
use Rattle.m2_fabric.specs.declared.socket.SocketId.{SocketId}
use Rattle.m2_node.specs.m2_script.m2_record.RecordNow.{RecordNow}
use Rattle.m2_trail.specs.Arrivals.{LooseNow}
use Rattle.m2_node.specs.Nodes.{KeptNow, loose_at}
use Rattle.m2_node.specs.Ports.{IsPortOver}

-- of an event thread: the port of the fabric inside its own, where its node was on; the sockets that its own made; its records; and what its
-- dispatchers were called with: that of fast kinds, and the one behind the queue
pub record EndedCenterNow : Type 0 where
  pub port : Option SeenPort
  pub made : List SocketId
  pub records : List RecordNow
  pub fast : List Logged
  pub queued : List Logged

-- of a node: of its threads, in order, and how many halves it left that none of their records took
pub record EndedNow : Type 0 where
  pub centers : List EndedCenterNow
  pub halves : ℕ

-- of all nodes, those of the last one first
abbrev pub loose_of : List KeptNow → List LooseNow
loose_of kept = flat_map loose_at (reverse kept)

-- what an observer is shown when all nodes have ended: what is left of each, in order, and the halves that no record took
pub record Shown : Type 0 where
  pub ends : List EndedNow
  pub loose : List LooseNow

-- that of these nodes, of which this is left
abbrev pub shown_of : List KeptNow → List EndedNow → Shown
shown_of kept ends = record { ends = ends; loose = loose_of kept }

-- the port of the fabric inside that of a thread; one of a node that is off has none inside
abbrev pub IsInside : (port : SeenPort) → Option SeenPort → Type 0
IsInside port (Some inner) = IsPortOver port inner
IsInside port None = Unit {0}

-- what is left of this center, but for its halves
pub record IsEndOfCenter (c : CenterNow (List Logged)) (e : EndedCenterNow) : Type 0 where
  pub made : e.made ≡ c.port.made
  pub inside : IsInside c.port e.port
  pub records : e.records ≡ c.records
  pub fast : e.fast ≡ c.out.fast
  pub queued : e.queued ≡ c.queued.inner

-- of this node
pub record IsEndOf (n : KeptNow) (e : EndedNow) : Type 0 where
  pub count : length e.centers ≡ length n.node.centers
  pub each : (j : ℕ) (c : CenterNow (List Logged)) (d : EndedCenterNow) → slice_get n.node.centers j ≡ Some c → slice_get e.centers j ≡ Some d → IsEndOfCenter c d
  pub halves : e.halves ≡ length (loose_at n)

-- of all nodes, in order
pub record AreEndsOf (nodes : List KeptNow) (ends : List EndedNow) : Type 0 where
  pub count : length ends ≡ length nodes
  pub each : (k : ℕ) (n : KeptNow) (e : EndedNow) → slice_get nodes k ≡ Some n → slice_get ends k ≡ Some e → IsEndOf n e
