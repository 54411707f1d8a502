-- What is promised of runs of nodes in memory before their first deed, and where one node acts.
use Rattle.std.specs.Prelude.{◌≡◌, ℕ, List, length, slice_get, Some, IsSome}
use Rattle.std.specs.List.{AllByRecursion}
use Rattle.m2_fabric.specs.m2_addr.declared.addr.Addr.{Addr}
use Rattle.m2_dispatch.specs.Heard.{Heard}
use Rattle.m2_fabric.specs.CutPort.{fresh_cut_port}
use Rattle.m2_fabric.specs.declared.port.Cut.{Cut}
use Rattle.m2_links_go_on.specs.m2_weave.m2_journal.declared.facts.PlanStep.{PlanStep}
use Rattle.m2_links_go_on.specs.m2_weave.m2_journal.SideFacts.{SideFacts}
use Rattle.m2_script.specs.m2_center.CenterTurn.{Answer}
use Rattle.m2_script.specs.m2_center.Making.{CanBegin, new_center}
use Rattle.m2_script.specs.m2_cluster.Cluster.{ClusterNow, OneDoes, held_by}
use Rattle.m2_script.specs.m2_cluster.Node.{NodeNow, NodePlans, NodeTurns}
use Rattle.m2_links_go_on.specs.Center.{holding_of}
use Rattle.m2_links_go_on.specs.Cluster.{AllInMemory, BringInMemory}
use Rattle.m2_links_go_on.specs.m2_growth.Holding.{AreOwn}
use Rattle.m2_script.specs.m2_record.IsRecord.{IsRecord, new_record}
use Rattle.m2_script.specs.m2_record.RecordNow.{RecordNow, Rooms}
use Rattle.m2_promise.specs.Running.{HaveOrders, HoldsAll, IsNodeAt, IsRecordAt, IsRunning, NodeActs, RunNow}
use Rattle.m2_dispatch.specs.m2_shared.Numbers.{SeenNumberPass}
use Rattle.m2_dispatch.specs.m2_shared.declared.peer_type.PeerType.{PeerType}
use Rattle.m2_dispatch.specs.m2_shared.declared.throttles.TakePasses.{TakePasses}
use Rattle.m2_fabric.specs.InStep.{SeenFabric}
use Rattle.m2_fabric.specs.SimFabric.{AreApart, fresh_fabric}
use Rattle.m2_promise.specs.Acting.{run_of}
use Rattle.m2_promise.specs.Beginning.{IsBeginning, IsNewAt, IsUnused}

-- ---- before the first deed

-- What holds always of a run holds before its first deed.
abbrev pub BeginningsRun : Type 0
BeginningsRun = (x : RunNow) → IsBeginning x → IsRunning x

-- And all that was done on each link, which is nothing, has an order.
abbrev pub BeginningsHaveOrders : Type 0
BeginningsHaveOrders = (x : RunNow) → IsBeginning x → HaveOrders x

abbrev pub NewRecordsAreUnused : Type 0
NewRecordsAreUnused = (f : SideFacts) (place : ℕ) (peer : PeerType) (room : Rooms) → IsRecord (record (new_record f place peer) { room = room }) → IsUnused (record (new_record f place peer) { room = room })

-- ---- a cluster

-- A center that is new has a new port in memory, with any cuts, and new records, each between its node and another.
abbrev pub NewCentersAreNew : Type 0 → Type 0
NewCentersAreNew D = (addrs : List Addr) (i : ℕ) (entity : ℕ) (at : Addr) (cuts : List Cut) (records : List RecordNow) (fast queued : D) (bytes : TakePasses) (numbers : SeenNumberPass) →
    slice_get addrs i ≡ Some at → AllByRecursion IsUnused records → AllByRecursion (IsRecordAt addrs i) records → CanBegin entity (fresh_cut_port at cuts) records bytes numbers →
    IsNewAt addrs i (holding_of (new_center entity (fresh_cut_port at cuts) records fast queued bytes numbers))

-- Nodes of new centers, as many as there are addresses, begin beside a fabric that had no call yet.
abbrev pub NewClustersBegin : Type 0 → Type 0
NewClustersBegin D = (addrs : List Addr) (nodes : List (NodeNow D)) → AreApart addrs → length nodes ≡ length addrs →
    ((i : ℕ) (n : NodeNow D) → slice_get nodes i ≡ Some n → IsNewAt addrs i (holding_of n.center)) → IsBeginning (run_of nodes (fresh_fabric addrs))

-- As the holder of all ends it has those that its nodes hold.
abbrev pub ClustersHoldAll : Type 0 → Type 0
ClustersHoldAll D = (nodes : List (NodeNow D)) (fabric : SeenFabric) → HoldsAll (run_of nodes fabric)

-- ---- a cluster of which one node acts

-- Its port and all its ends were in memory, and so are those that came; and the node is one behind it, as its type says.
abbrev pub OneTurnActs : (D E : Type 0) → Type 0
OneTurnActs D E = (heard : D → List Heard) (now : ℕ) (answer : Answer) (i : ℕ) (fabric : SeenFabric) (old new : ClusterNow D) (turns : OneDoes i (NodeTurns E heard now answer) old new) →
    IsSome turns.before.center.port.waiting → AreOwn (holding_of turns.before.center) → IsNodeAt fabric.nodes i (holding_of turns.behind.center) →
    AllInMemory (held_by old.nodes) → BringInMemory (held_by old.nodes) (held_by new.nodes) →
    NodeActs i (run_of old.nodes fabric) (run_of new.nodes fabric)

abbrev pub OnePlanActs : Type 0 → Type 0
OnePlanActs D = (answer : Answer) (peer : ℕ) (step : PlanStep) (now : ℕ) (i : ℕ) (fabric : SeenFabric) (old new : ClusterNow D) (plans : OneDoes i (NodePlans answer peer step now) old new) →
    IsSome plans.before.center.port.waiting → AreOwn (holding_of plans.before.center) → IsNodeAt fabric.nodes i (holding_of plans.behind.center) →
    AllInMemory (held_by old.nodes) → BringInMemory (held_by old.nodes) (held_by new.nodes) →
    NodeActs i (run_of old.nodes fabric) (run_of new.nodes fabric)
