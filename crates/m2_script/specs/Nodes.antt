-- The nodes of a scenario before its first line. This project's own; that a throttle of 0 has no bound, and that a cut is of the
-- sockets that its first node opens to the other, in the order of the lines, are rules of the scenario's language.
use Rattle.std.specs.Prelude.{◌≡◌, ℕ, ◌+◌, ◌==◌, ◌<◌, ◌^◌, if◌then◌else◌, List, [], length, map, slice_get, Option, Some, None}
use Rattle.std.specs.List.{AllByRecursion, filter_map}
use Rattle.std.specs.Option.{option_map}
use Rattle.m2_addr.specs.declared.addr.Addr.{Addr}
use Rattle.m2_cluster.specs.m2_center.Making.{new_center}
use Rattle.m2_cluster.specs.Node.{IsWholeNode, NodeNow}
use Rattle.m2_journal.specs.m2_control.Laws.{HasAddrRanges}
use Rattle.m2_dispatch.specs.declared.logged.Logged.{Logged}
use Rattle.m2_fabric.specs.CutPort.{fresh_cut_port}
use Rattle.m2_record.specs.RecordNow.{RecordNow}
use Rattle.m2_scenario.specs.declared.line.Line.{Line}
use Rattle.m2_scenario.specs.declared.line.Line.TheVariants as line
use Rattle.m2_scenario.specs.declared.link.Link.{Link}
use Rattle.m2_scenario.specs.declared.node.Node.{Node}
use Rattle.m2_script.specs.Made.{records_of, roomless}
use Rattle.m2_shared.specs.Numbers.{SeenNumberPass}
use Rattle.m2_shared.specs.Gates.{alone, dispatch_alone, unused}
use Rattle.m2_shared.specs.declared.throttles.TakePasses.{TakePasses}
use Rattle.m2_fabric.specs.declared.port.Cut.{Cut}

-- where a node listens
abbrev pub address_of : Node → Addr
address_of x = x.at

-- ---- cuts

-- that of a line, if it is of sockets that the node at place k opens, and the other node is there
abbrev pub cut_in : List Node → (k : ℕ) → Line → Option Cut
cut_in nodes k (line.Cut a b bytes) = if a == k then option_map (λ (to : Node). record { to = to.at; bytes = bytes }) (slice_get nodes b) else None
cut_in nodes k _ = None

-- those of all sockets that the node at place k opens, in the order of the lines
abbrev pub cuts_of : List Node → List Line → (k : ℕ) → List Cut
cuts_of nodes lines k = filter_map (cut_in nodes k) lines

-- ---- a node

-- a node of the scenario keeps the ranges of its types
pub record HasNodeRanges (x : Node) : Type 0 where
  pub entity : x.entity < 2 ^ 8
  pub at : HasAddrRanges x.at
  pub supports : x.supports < 2 ^ 64
  pub requires_ : x.requires_ < 2 ^ 64

-- its passes to throttles of its own, by which nothing was granted
abbrev pub none_granted : TakePasses
none_granted = unused

-- its pass to a counter of its own, of which no number was drawn
abbrev pub none_drawn : SeenNumberPass
none_drawn = record { place = None; least = 0; drawn = [] }

-- The node at place k: its center is new, over a new port in memory at its address, which has the cuts of the lines; its records are
-- over its links, its dispatchers had no call, no number was drawn, and nothing was granted by its throttles, of which that of the dispatch has
-- its bound and no other has one.
pub record IsNewNode (nodes : List Node) (links : List Link) (lines : List Line) (k : ℕ) (x : Node) (n : NodeNow (List Logged)) : Type 0 where
  pub records : List RecordNow
  pub over : map roomless records ≡ records_of nodes links k (k + 1)
  pub center : n.center ≡ new_center x.entity (fresh_cut_port x.at (cuts_of nodes lines k)) records [] [] none_granted none_drawn
  pub numbers : n.numbers ≡ record { place = None }
  pub throttles : n.throttles ≡ alone (dispatch_alone x.throttle)
  pub whole : IsWholeNode n

-- one for each of the scenario's
pub record AreNewNodes (nodes : List Node) (links : List Link) (lines : List Line) (all : List (NodeNow (List Logged))) : Type 0 where
  pub count : length all ≡ length nodes
  pub each : (k : ℕ) (x : Node) (n : NodeNow (List Logged)) → slice_get nodes k ≡ Some x → slice_get all k ≡ Some n → IsNewNode nodes links lines k x n
  pub ranges : AllByRecursion HasNodeRanges nodes
