-- What came of a run. This project's own.
use Rattle.std.specs.Prelude.{◌≡◌, ◌⊎◌, ℕ, ◌+◌, ◌≤◌, true, List, ◌++◌, map, slice_get, Some, IfSome}
use Rattle.std.specs.List.{AllByRecursion}
use Rattle.m2_bytes.specs.Items.{Holding}
use Rattle.m2_fabric.specs.Fabric.{SeenFabric}
use Rattle.m2_fabric.specs.declared.port.Cut.{Cut}
use Rattle.m2_scenario.specs.Report.{AreLogsOf, heard_in}
use Rattle.m2_scenario.specs.declared.line.Line.{Line}
use Rattle.m2_scenario.specs.declared.link.Link.{Link}
use Rattle.m2_scenario.specs.declared.node.Node.{Node}
use Rattle.m2_node.specs.m2_links_go_on.m2_history.declared.history.WeaveFault.{WeaveFault}
use Rattle.m2_node.specs.m2_links_go_on.m2_history.declared.history.WeaveFault.TheVariants as weaving
use Rattle.m2_weave.specs.declared.unfit.Unfit.{Unfit}
use Rattle.m2_run.specs.Cuts.{cuts_at}
use Rattle.m2_run.specs.Kept.{AllGathered, AreAllHeld, AreOpened, IsKeptRun, MadeIsHeld, last_in, left_of}
use Rattle.m2_run.specs.Listening.{IsBindFault}
use Rattle.m2_node.specs.Handing.{AreHeardAtEnd}
use Rattle.m2_node.specs.Lists.{SideBySide}
use Rattle.m2_node.specs.Nodes.{KeptNow, RunNodeNow, made_by, nodes_of}
use Rattle.m2_run.specs.Once.{HasEachOnce}
use Rattle.m2_run.specs.Opened.{AllAreThere, AreOpenedNodes, OpenedNow}
use Rattle.m2_run.specs.Rests.{AreEndsOf, EndedNow, Shown, loose_of, shown_of}
use Rattle.m2_run.specs.Still.{AllRest, AreStill}
use Rattle.m2_run.specs.Types.{IsCenterOfTypes, IsOfTypes}
use Rattle.m2_run.specs.Weaving.{HaveHistories, StopsAtLink}
use Rattle.m2_run.specs.declared.outcome.Outcome.{Outcome}
use Rattle.m2_run.specs.declared.outcome.RunFault.{RunFault}
use Rattle.m2_run.specs.declared.outcome.RunFault.TheVariants as fault

-- all is still at `stop`, and nothing productive happened for as long as the limit
pub record HasStalled (limit : ℕ) (nodes : List Node) (kept : List RunNodeNow) (start stop : ℕ) : Type 0 where
  pub still : AreStill stop nodes kept
  pub limit_is_past : last_in start kept + limit ≤ stop

-- ---- the end of nodes

-- This is left of these nodes, whose sockets break where these cuts say. Their centers are of their types and hold all that their ports
-- made; and no socket was lost on its way to them.
pub record AreLeftBy (cuts : List (Holding Cut)) (ran : List RunNodeNow) (all : List OpenedNow) : Type 0 where
  pub opened : AreOpenedNodes (cuts_at cuts) ran all
  pub types : AllByRecursion (λ (n : RunNodeNow). AllByRecursion IsCenterOfTypes n.centers) ran
  pub held : AllByRecursion (λ (n : RunNodeNow). AllByRecursion MadeIsHeld n.centers) ran
  pub there : AllByRecursion AllAreThere all

-- These nodes are kept so, whose sockets break where these cuts say, each of them one of its own; what is left of them is this; and the
-- fabric tells it of those that are on.
pub record HaveEnded (cuts : List (Holding Cut)) (nodes : List Node) (ran : List RunNodeNow) (kept : List KeptNow) (ends : List EndedNow) (old new : SeenFabric) : Type 0 where
  pub as_ran : nodes_of kept ≡ ran
  pub types : AllByRecursion IsOfTypes kept
  pub opened : (k : ℕ) (n : KeptNow) → slice_get kept k ≡ Some n → AreOpened (cuts_at cuts k) n.node.centers n.opened
  pub once : (k : ℕ) (x : Node) (n : KeptNow) → slice_get nodes k ≡ Some x → slice_get kept k ≡ Some n → HasEachOnce x.at (made_by n.node) (n.at_door ++ n.on_way)
  pub are_ends : AreEndsOf kept ends
  pub gathered : AllGathered cuts nodes kept old new
  pub all_held : (k : ℕ) (x : Node) → slice_get nodes k ≡ Some x → x.started ≡ true → IfSome (new.gathered k) AreAllHeld

-- These nodes have ended, each link has its history, and this is told; where posts are left they rest.
pub record HasFinished (left : ℕ) (cuts : List (Holding Cut)) (nodes : List Node) (links : List Link) (ran : List RunNodeNow) (old new : SeenFabric) (o : Outcome) : Type 0 where
  pub kept : List KeptNow
  pub ends : List EndedNow
  pub ended : HaveEnded cuts nodes ran kept ends old new
  pub rest : (left ≡ 0) ⊎ AllRest kept
  pub logs : SideBySide AreHeardAtEnd (nodes_of kept) (map heard_in o.logs.items)
  pub left_is : o.left ≡ left
  pub woven : HaveHistories ends (loose_of kept) links

-- or a link has none
pub record HasFinishedUnfit (cuts : List (Holding Cut)) (nodes : List Node) (links : List Link) (ran : List RunNodeNow) (old new : SeenFabric) (u : Unfit) : Type 0 where
  pub kept : List KeptNow
  pub ends : List EndedNow
  pub ended : HaveEnded cuts nodes ran kept ends old new
  pub stops : StopsAtLink ends (loose_of kept) links u

-- what weaving answers, as what came of the run
abbrev pub fault_told : WeaveFault → RunFault
fault_told weaving.NoMemory = fault.NoMemory
fault_told (weaving.Unfit u) = fault.Unfit u

abbrev pub EndsInFault : List (Holding Cut) → List Node → List Link → List RunNodeNow → (old new : SeenFabric) → RunFault → Type 0
EndsInFault cuts nodes links ran old new fault.NoMemory = Unit {0}
EndsInFault cuts nodes links ran old new (fault.Bind node) = ⊥
EndsInFault cuts nodes links ran old new (fault.Unfit u) = HasFinishedUnfit cuts nodes links ran old new u

-- An observer was shown such an end: with want of memory it stays, or was shown what some nodes left.
abbrev pub ShowsEnd : (saw : Shown → Type 0) (stays : Type 0) → List (Holding Cut) → List Node → List Link → List RunNodeNow → (old new : SeenFabric) → RunFault → Type 0
ShowsEnd saw stays cuts nodes links ran old new fault.NoMemory = stays ⊎ ((shown : Shown) × saw shown)
ShowsEnd saw stays cuts nodes links ran old new (fault.Bind node) = ⊥
ShowsEnd saw stays cuts nodes links ran old new (fault.Unfit u) = (f : HasFinishedUnfit cuts nodes links ran old new u) × saw (shown_of f.kept f.ends)

-- ---- a run

-- There is a kept run of the scenario, of this fabric before and after, and of this clock, in which the fabric counted no fault. The logs
-- are its nodes', in order, of nodes alone, and so many posts are left; each link has its history; and nothing is left, or the run has
-- stalled.
pub record HasRan (may_give : ℕ → Type 0) (limit : ℕ) (nodes : List Node) (links : List Link) (lines : List Line) (old new : SeenFabric) (o : Outcome) : Type 0 where
  pub kept : List KeptNow
  pub start : ℕ
  pub stop : ℕ
  pub run : IsKeptRun may_give nodes links lines kept start stop old new
  pub faults : new.faults ≡ old.faults
  pub ends : List EndedNow
  pub are_ends : AreEndsOf kept ends
  pub logs : SideBySide AreHeardAtEnd (nodes_of kept) (map heard_in o.logs.items)
  pub told : AreLogsOf nodes o.logs.items
  pub left : o.left ≡ left_of links (nodes_of kept)
  pub woven : HaveHistories ends (loose_of kept) links
  pub over : (o.left ≡ 0) ⊎ (HasStalled limit nodes (nodes_of kept) start stop × AllRest kept)

-- There is such a run, but that a link, the first in the scenario's order, has no history.
pub record IsUnfitRun (may_give : ℕ → Type 0) (nodes : List Node) (links : List Link) (lines : List Line) (old new : SeenFabric) (u : Unfit) : Type 0 where
  pub kept : List KeptNow
  pub start : ℕ
  pub stop : ℕ
  pub run : IsKeptRun may_give nodes links lines kept start stop old new
  pub faults : new.faults ≡ old.faults
  pub ends : List EndedNow
  pub are_ends : AreEndsOf kept ends
  pub stops : StopsAtLink ends (loose_of kept) links u

-- why nothing came of a run; with want of memory the fabric counted no fault
abbrev pub IsFaultOf : (may_give : ℕ → Type 0) → List Node → List Link → List Line → (old new : SeenFabric) → RunFault → Type 0
IsFaultOf may_give nodes links lines old new fault.NoMemory = new.faults ≡ old.faults
IsFaultOf may_give nodes links lines old new (fault.Bind node) = IsBindFault node nodes old new
IsFaultOf may_give nodes links lines old new (fault.Unfit u) = IsUnfitRun may_give nodes links lines old new u

-- What an observer was shown of a run of which nothing came. Where a node couldn't listen it stays; with want of memory it stays, or was
-- shown what some nodes left; and where a link has no history it was shown what the run left.
abbrev pub ShowsFault : (saw : Shown → Type 0) (stays : Type 0) (may_give : ℕ → Type 0) → List Node → List Link → List Line → (old new : SeenFabric) → RunFault → Type 0
ShowsFault saw stays may_give nodes links lines old new fault.NoMemory = stays ⊎ ((shown : Shown) × saw shown)
ShowsFault saw stays may_give nodes links lines old new (fault.Bind node) = stays
ShowsFault saw stays may_give nodes links lines old new (fault.Unfit u) = (r : IsUnfitRun may_give nodes links lines old new u) × saw (shown_of r.kept r.ends)
