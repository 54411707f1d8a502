-- Event threads of a run. This project's own.
use Rattle.std.specs.Prelude.{◌≡◌, ◌⊎◌, ℕ, ◌≤◌, Bool, true, false, List, [], ◌∷◌, drop, fold, length, map, max, take}
use Rattle.std.specs.List.{AllByRecursion}
use Rattle.m2_script.specs.m2_center.Center.{CenterNow}
use Rattle.m2_dispatch.specs.declared.logged.Logged.{Logged}
use Rattle.m2_dispatch.specs.m2_shared.Numbers.{SeenNumbers}
use Rattle.m2_dispatch.specs.m2_shared.declared.throttles.Throttles.{Throttles}
use Rattle.m2_links_go_on.specs.ClusterTold.{OneByOne}
use Rattle.m2_edge.specs.Clock.{IsNextMoment}
use Rattle.m2_scenario.specs.declared.node.Node.{Node}
use Rattle.m2_node.specs.Nodes.{RunNodeNow}
use Rattle.m2_node.specs.Sharing.{ShareNow}
use Rattle.m2_node.specs.Watching.{RunsSo, WatchNow, told}
use Rattle.m2_node.specs.Way.{GoesOn, PollsSo, StepsSo}

-- a center, what it shares with the others of its node, whether its thread takes turns, the moment of its last turn, and what the thread was
-- told
pub record WorkerNow : Type 0 where
  pub center : CenterNow (List Logged)
  pub numbers : SeenNumbers
  pub throttles : Throttles
  pub started : Bool
  pub moment : ℕ
  pub watch : WatchNow

abbrev pub center_of : WorkerNow → CenterNow (List Logged)
center_of w = w.center

-- a worker whose moment was given goes on to one that is given too
pub record Works (may_give : ℕ → Type 0) (old new : WorkerNow) : Type 0 where
  pub numbers : new.numbers ≡ old.numbers
  pub throttles : new.throttles ≡ old.throttles
  pub started : new.started ≡ old.started
  pub later : old.moment ≤ new.moment
  pub given : may_give old.moment → may_give new.moment
  pub goes : may_give old.moment → GoesOn may_give old.moment new.moment old.started old.center new.center

-- all of them, one by one
abbrev pub AllWork : (may_give : ℕ → Type 0) → (old new : List WorkerNow) → Type 0
AllWork may_give old new = OneByOne (Works may_give) old new

-- ---- step by step

-- It was told to go on, and took a turn at the clock's moment, or at that of its last turn where the clock went back; behind it its thread may
-- wait at the port.
pub record TurnsOnce (E : Type 0) (may_give : ℕ → Type 0) (old new : WorkerNow) : Type 0 where
  pub moment : IsNextMoment may_give old.moment new.moment
  pub steps : StepsSo E new.moment old.numbers old.throttles old.center new.center
  pub same : new ≡ record old { center = new.center; moment = new.moment; watch = told true old.watch }

-- it was told to go on, and its thread waited at the port
pub record WaitsOnce (old new : WorkerNow) : Type 0 where
  pub polls : PollsSo old.center new.center
  pub same : new ≡ record old { center = new.center; watch = told true old.watch }

-- it was told to stop
abbrev pub Stops : (old new : WorkerNow) → Type 0
Stops old new = new ≡ record old { watch = told false old.watch }

-- Its thread took a turn, or waited, exactly as often as it was told to go on, until it was told to stop; of a node that is off it did nothing.
abbrev pub Runs : (E : Type 0) → (may_give : ℕ → Type 0) → (old new : WorkerNow) → Type 0
Runs E may_give old new = RunsSo (λ (v w : WorkerNow). TurnsOnce E may_give v w ⊎ WaitsOnce v w) Stops old.started old new

-- ---- those of nodes

-- the node of these workers, which share this
abbrev pub node_of : ShareNow → List WorkerNow → RunNodeNow
node_of s ws = record { centers = map center_of ws; numbers = s.numbers; throttles = s.throttles }

-- the nodes of these workers, of which those of each node share this
abbrev pub nodes_of_workers : List Node → List ShareNow → List WorkerNow → List RunNodeNow
nodes_of_workers [] shares ws = []
nodes_of_workers (x ∷ nodes) [] ws = []
nodes_of_workers (x ∷ nodes) (s ∷ shares) ws = node_of s (take x.centers ws) ∷ nodes_of_workers nodes shares (drop x.centers ws)

-- those of one node: as many as it has centers, which share this, and each of which takes turns where the node is started
pub record IsGroup (x : Node) (s : ShareNow) (ws : List WorkerNow) : Type 0 where
  pub count : length ws ≡ x.centers
  pub started : AllByRecursion (λ (w : WorkerNow). w.started ≡ x.started) ws
  pub numbers : AllByRecursion (λ (w : WorkerNow). w.numbers ≡ s.numbers) ws
  pub throttles : AllByRecursion (λ (w : WorkerNow). w.throttles ≡ s.throttles) ws

-- those of these nodes, node by node, and no more
abbrev pub AreGrouped : List Node → List ShareNow → List WorkerNow → Type 0
AreGrouped [] [] ws = ws ≡ []
AreGrouped (x ∷ nodes) (s ∷ shares) ws = IsGroup x s (take x.centers ws) × AreGrouped nodes shares (drop x.centers ws)
AreGrouped nodes shares ws = ⊥

-- and they are at this moment
pub record AreWorkersOf (nodes : List Node) (shares : List ShareNow) (moment : ℕ) (ws : List WorkerNow) : Type 0 where
  pub groups : AreGrouped nodes shares ws
  pub moments : AllByRecursion (λ (w : WorkerNow). w.moment ≡ moment) ws

-- the latest moment of these, or this one where it is later
abbrev pub latest : (start : ℕ) → List WorkerNow → ℕ
latest start workers = fold (λ m (w : WorkerNow). max m w.moment) start workers
