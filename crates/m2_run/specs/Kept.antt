-- A run on threads as it is kept: what is kept of it, what makes it one of a scenario, of this fabric and of this clock, and how many
-- posts it leaves. This project's own.
--
-- The nodes of a scenario run on threads, each node on as many as the scenario says, each thread with a center. When the threads have
-- ended, and whoever started them has gone on until nothing was left or all was still, each node is kept as it is, and its ports and ends
-- go back to the fabric.
use Rattle.std.specs.Prelude.{◌≡◌, ℕ, ◌≤◌, true, false, if◌then◌else◌, List, [], ◌++◌, fold, length, map, max, slice_get, sum_by, Option, Some, IfSome}
use Rattle.std.specs.List.{flat_map, list_any}
use Rattle.m2_bytes.specs.Items.{Holding}
use Rattle.m2_node.specs.m2_script.m2_center.Center.{CenterNow}
use Rattle.m2_node.specs.m2_script.m2_center.Finishing.{rest_of}
use Rattle.m2_node.specs.m2_links_go_on.Course.{is_productive}
use Rattle.m2_dispatch.specs.Heard.{heard_by}
use Rattle.m2_dispatch.specs.declared.logged.Logged.{Logged}
use Rattle.m2_edge.specs.Faults.{next_count}
use Rattle.m2_fabric.specs.End.{SeenEnd}
use Rattle.m2_fabric.specs.Fabric.{Gathered, SeenFabric}
use Rattle.m2_fabric.specs.Port.{SeenPort}
use Rattle.m2_fabric.specs.declared.port.Cut.{Cut}
use Rattle.m2_fabric.specs.declared.socket.SocketId.{SocketId}
use Rattle.m2_handover.specs.End.{IsHalfInside, told_nothing}
use Rattle.m2_node.specs.m2_script.m2_record.RecordNow.{RecordNow, feed_end}
use Rattle.m2_scenario.specs.declared.line.Line.{Line}
use Rattle.m2_scenario.specs.declared.link.Link.{Link}
use Rattle.m2_scenario.specs.declared.node.Node.{Node}
use Rattle.m2_node.specs.m2_script.Ended.{ended}
use Rattle.m2_node.specs.m2_script.Nodes.{cuts_of}
use Rattle.m2_node.specs.m2_script.Outcome.{left_in}
use Rattle.m2_node.specs.m2_script.Script.{RunNow}
use Rattle.m2_trail.specs.Arrivals.{LooseNow}
use Rattle.m2_run.specs.Cuts.{AreEndsOver, IsEndOver, bound_of, cuts_at}
use Rattle.m2_node.specs.Lists.{SideBySide, joined}
use Rattle.m2_node.specs.Nodes.{KeptNow, RunNodeNow, as_one, loose_at, made_by}
use Rattle.m2_run.specs.Once.{HasEachOnce}
use Rattle.m2_node.specs.Ports.{IsPortOver}
use Rattle.m2_run.specs.Types.{IsOfTypes}
use Rattle.m2_node.specs.Way.{IsNodeOf}

-- ---- halves that no record took

-- A half of a center and the one that it is over the fabric's end: it breaks there where it breaks, and where not all that was done on it
-- before it was handed over was done again, it has judged nothing.
pub record IsOpenedAs (bound : SocketId → Option ℕ) (half opened : LooseNow) : Type 0 where
  pub mid : SeenEnd
  pub over : IsEndOver (bound half.end.id) half.end mid
  pub inside : IsHalfInside (record { end = mid; trail = half.trail }) opened

-- those of a node's centers, center by center, in the order in which each leaves them
pub record AreOpened (cuts : List Cut) (centers : List (CenterNow (List Logged))) (opened : List LooseNow) : Type 0 where
  pub of_each : List (List LooseNow)
  pub split : opened ≡ joined of_each
  pub each : SideBySide (λ (c : CenterNow (List Logged)) os. SideBySide (IsOpenedAs (bound_of cuts c.port.made)) (rest_of c).loose os) centers of_each

-- ---- ends and ports as the fabric tells them

-- all ends of a record, as it gives them back: the spent ones and then the feed's
abbrev pub ends_of_record : RecordNow → List SeenEnd
ends_of_record r = r.spent ++ feed_end r.core.live.feed

abbrev pub ends_of_records : CenterNow (List Logged) → List SeenEnd
ends_of_records c = flat_map ends_of_record c.records

-- however sockets are weighed, those that a center's port made weigh what its ends weigh
abbrev pub MadeIsHeld : CenterNow (List Logged) → Type 0
MadeIsHeld c = (weight : SocketId → ℕ) → sum_by weight c.port.made
    ≡ sum_by weight (map (λ (e : SeenEnd). e.id) (ends_of_records c ++ map (λ (l : LooseNow). l.end) (rest_of c).loose))

-- The ends that a node gives: those of its records, center by center, which break where these cuts of the sockets that the center's port
-- made say; and then those of the halves that no record took.
pub record AreEndsGiven (cuts : List Cut) (n : KeptNow) (ends : List SeenEnd) : Type 0 where
  pub of_each : List (List SeenEnd)
  pub of_halves : List SeenEnd
  pub split : ends ≡ joined of_each ++ of_halves
  pub each : SideBySide (λ (c : CenterNow (List Logged)) es. AreEndsOver cuts c.port.made (ends_of_records c) es) n.node.centers of_each
  pub halves : map (λ (l : LooseNow). l.end) (loose_at n) ≡ map told_nothing of_halves

-- The ports that the fabric has of a node are those inside its threads' ports; and the ends that it has are those that the node gives.
-- They were gathered in this call, once.
pub record IsGathered (cuts : List Cut) (k : ℕ) (n : KeptNow) (old new : SeenFabric) : Type 0 where
  pub what : Gathered
  pub told : new.gathered k ≡ Some what
  pub now : new.gathers k ≡ next_count (old.gathers k)
  pub ports : SideBySide IsPortOver (map (λ (c : CenterNow (List Logged)). c.port) n.node.centers) what.ports
  pub ends_are : AreEndsGiven cuts n what.ends

-- However sockets are weighed, those that these ports made, opened or accepted, weigh what the ends weigh: so each is that of one end, and
-- no end is of another.
abbrev pub AreAllHeld : Gathered → Type 0
AreAllHeld what = (weight : SocketId → ℕ) → sum_by weight (flat_map (λ (p : SeenPort). p.made) what.ports) ≡ sum_by weight (map (λ (e : SeenEnd). e.id) what.ends)

-- the fabric wasn't asked for this node
pub record IsUntouched (k : ℕ) (old new : SeenFabric) : Type 0 where
  pub listens : new.listens k ≡ old.listens k
  pub gathered : new.gathered k ≡ old.gathered k
  pub gathers : new.gathers k ≡ old.gathers k

-- ---- a kept node

-- The node at place k at the moment `stop`: it is as the scenario says, and nothing of what it did is lost. Each of its sockets is one of
-- its own. Where it was started the fabric tells it all, and no socket is lost that its ports made; else the fabric wasn't asked for it.
pub record IsKeptNode (may_give : ℕ → Type 0) (stop : ℕ) (nodes : List Node) (links : List Link) (lines : List Line) (old new : SeenFabric) (k : ℕ) (x : Node)
    (n : KeptNow) : Type 0 where
  pub types : IsOfTypes n
  pub node : IsNodeOf may_give stop nodes links lines k x n.node
  pub opened : AreOpened (cuts_of nodes lines k) n.node.centers n.opened
  pub once : HasEachOnce x.at (made_by n.node) (n.at_door ++ n.on_way)
  pub gathered : x.started ≡ true → IsGathered (cuts_of nodes lines k) k n old new
  pub all_held : x.started ≡ true → IfSome (new.gathered k) AreAllHeld
  pub untouched : x.started ≡ false → IsUntouched k old new

-- ---- a kept run

pub record IsKeptRun (may_give : ℕ → Type 0) (nodes : List Node) (links : List Link) (lines : List Line) (kept : List KeptNow) (start stop : ℕ)
    (old new : SeenFabric) : Type 0 where
  pub count : length kept ≡ length nodes
  pub each : (k : ℕ) (x : Node) (n : KeptNow) → slice_get nodes k ≡ Some x → slice_get kept k ≡ Some n →
      IsKeptNode may_give stop nodes links lines old new k x n
  pub start_given : may_give start
  pub stop_given : may_give stop
  pub later : start ≤ stop

-- the moment of the last productive entry of a record, or this one where it is later
abbrev pub later_of : ℕ → RecordNow → ℕ
later_of m r = if list_any is_productive r.journal then max m r.last else m

-- the same of these centers, and of these nodes
abbrev pub last_of : ℕ → List (CenterNow (List Logged)) → ℕ
last_of m centers = fold (λ most (c : CenterNow (List Logged)). fold later_of most c.records) m centers

abbrev pub last_in : (start : ℕ) → List RunNodeNow → ℕ
last_in start kept = fold (λ most (n : RunNodeNow). last_of most n.centers) start kept

-- a run that ends with these nodes, each as one center
abbrev pub ended_as_one : List RunNodeNow → RunNow (List Logged)
ended_as_one kept = ended (record { nodes = map as_one kept; room = 0 }) []

-- how many posts it leaves, over the lossless links of which neither end was marked down
abbrev pub left_of : List Link → List RunNodeNow → ℕ
left_of links kept = left_in heard_by links (ended_as_one kept)

-- ---- all that is gathered

-- Of each of these nodes that is on, the fabric tells what it left, whose sockets break where these cuts say; the others it wasn't
-- asked for.
pub record AllGathered (cuts : List (Holding Cut)) (nodes : List Node) (kept : List KeptNow) (old new : SeenFabric) : Type 0 where
  pub on : (k : ℕ) (x : Node) (n : KeptNow) → slice_get nodes k ≡ Some x → slice_get kept k ≡ Some n → x.started ≡ true → IsGathered (cuts_at cuts k) k n old new
  pub off : (k : ℕ) (x : Node) → slice_get nodes k ≡ Some x → x.started ≡ false → IsUntouched k old new
