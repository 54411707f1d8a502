-- What is promised of a center's turn and of a step that is planned there, and of the cluster of which it is a node.
use Rattle.std.specs.Prelude.{◌≡◌, ℕ, false, List, None, IsSome}
use Rattle.m2_dispatch.specs.Heard.{Heard}
use Rattle.m2_fabric.specs.declared.socket.SocketId.{SocketId}
use Rattle.m2_fabric.specs.Sockets.{goes_to}
use Rattle.m2_weave.specs.m2_journal.declared.facts.PlanStep.{PlanStep}
use Rattle.m2_history.specs.m2_record.Sources.{end_at}
use Rattle.m2_dispatch.specs.m2_shared.declared.throttles.Throttles.{Throttles}
use Rattle.m2_cluster.specs.m2_center.Center.{CenterNow}
use Rattle.m2_cluster.specs.m2_center.CenterTurn.{Answer, TakesTurn}
use Rattle.m2_cluster.specs.m2_center.Plans.{PlansIn}
use Rattle.m2_cluster.specs.Cluster.{ClusterNow, OneDoes}
use Rattle.m2_cluster.specs.Node.{NodePlans, NodeTurns}
use Rattle.m2_growth.specs.Holding.{AreOwn, Grows, all_ends}
use Rattle.m2_cluster.specs.m2_center.m2_turn.RecordTurn.{Means}
use Rattle.m2_links_go_on.specs.Center.{holding_of}
use Rattle.m2_links_go_on.specs.Cluster.{GrowsInMemory}

-- ---- a center

abbrev pub TurnGrows : (D E : Type 0) → Type 0
TurnGrows D E = (heard : D → List Heard) (m : Means) (answer : Answer) (old new : CenterNow D) → TakesTurn E heard m answer old new →
    AreOwn (holding_of old) → Grows (holding_of old) (holding_of new)

abbrev pub PlanGrows : Type 0 → Type 0
PlanGrows D = (answer : Answer) (peer : ℕ) (step : PlanStep) (now : ℕ) (throttles : Throttles) (old new : CenterNow D) → PlansIn answer peer step now throttles old new →
    AreOwn (holding_of old) → Grows (holding_of old) (holding_of new)

-- ---- what it brings

-- A socket that has an end now and had none goes elsewhere; at a port in memory, where the ends that it will accept wait.
abbrev pub BringsElsewhere : {D : Type 0} → (old new : CenterNow D) → Type 0
BringsElsewhere old new = (k : SocketId) → end_at (all_ends (holding_of old)) k ≡ None → IsSome (end_at (all_ends (holding_of new)) k) → goes_to old.port.at k ≡ false

abbrev pub TurnBringsElsewhere : (D E : Type 0) → Type 0
TurnBringsElsewhere D E = (heard : D → List Heard) (m : Means) (answer : Answer) (old new : CenterNow D) → TakesTurn E heard m answer old new →
    IsSome old.port.waiting → AreOwn (holding_of old) → BringsElsewhere old new

abbrev pub PlanBringsElsewhere : Type 0 → Type 0
PlanBringsElsewhere D = (answer : Answer) (peer : ℕ) (step : PlanStep) (now : ℕ) (throttles : Throttles) (old new : CenterNow D) → PlansIn answer peer step now throttles old new →
    AreOwn (holding_of old) → BringsElsewhere old new

-- ---- a cluster of which one node acts

abbrev pub NodeTurnGrows : (D E : Type 0) → Type 0
NodeTurnGrows D E = (heard : D → List Heard) (now : ℕ) (answer : Answer) (node : ℕ) (old new : ClusterNow D) (turns : OneDoes node (NodeTurns E heard now answer) old new) →
    AreOwn (holding_of turns.before.center) → GrowsInMemory old new

abbrev pub NodePlanGrows : Type 0 → Type 0
NodePlanGrows D = (answer : Answer) (peer : ℕ) (step : PlanStep) (now : ℕ) (node : ℕ) (old new : ClusterNow D) (plans : OneDoes node (NodePlans answer peer step now) old new) →
    AreOwn (holding_of plans.before.center) → GrowsInMemory old new
