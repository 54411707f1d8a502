-- What is promised of centers, and of a cluster, where ends are told of the other side; and of the ends that wait, in a turn too.
use Rattle.std.specs.Prelude.{◌≡◌, ℕ, List}
use Rattle.std.specs.List.{AllByRecursion}
use Rattle.m2_dispatch.specs.Heard.{Heard}
use Rattle.m2_fabric.specs.declared.end.News.{News}
use Rattle.m2_fabric.specs.declared.socket.SocketId.{SocketId}
use Rattle.m2_fabric.specs.Port.{SeenPort, with_incoming, with_news}
use Rattle.m2_weave.specs.m2_journal.declared.facts.PlanStep.{PlanStep}
use Rattle.m2_dispatch.specs.m2_shared.declared.throttles.Throttles.{Throttles}
use Rattle.m2_cluster.specs.m2_center.m2_turn.RecordTurn.{Means}
use Rattle.m2_cluster.specs.m2_center.Center.{CenterNow}
use Rattle.m2_cluster.specs.m2_center.CenterTurn.{Answer, TakesTurn}
use Rattle.m2_cluster.specs.m2_center.Plans.{PlansIn}
use Rattle.m2_cluster.specs.m2_center.Reaching.{after_hearing, rest_in}
use Rattle.m2_cluster.specs.Cluster.{ClusterNow, rest_of}
use Rattle.m2_growth.specs.Holding.{AreOwn, HaveTheirHalves}
use Rattle.m2_links_go_on.specs.Center.{holding_of}
use Rattle.m2_links_go_on.specs.Cluster.{AllHaveHalves}
use Rattle.m2_links_go_on.specs.ClusterTold.{AreUnused, KeepsSockets, OneByOne, SameCenter, SameNode, StayToCome}

-- ---- a center

abbrev pub ToldCenterIsSame : Type 0 → Type 0
ToldCenterIsSame D = (old new : CenterNow D) → rest_in new ≡ rest_in old → SameCenter old new

abbrev pub ToldStaysOwn : Type 0 → Type 0
ToldStaysOwn D = (old new : CenterNow D) → rest_in new ≡ rest_in old → StayToCome old.port new.port → AreOwn (holding_of old) → AreOwn (holding_of new)

abbrev pub ToldStaysJudged : Type 0 → Type 0
ToldStaysJudged D = (old new : CenterNow D) → rest_in new ≡ rest_in old → HaveTheirHalves (holding_of old) → HaveTheirHalves (holding_of new)

-- ---- its port

abbrev pub IncomingIsToCome : Type 0
IncomingIsToCome = (id : SocketId) (p : SeenPort) → StayToCome p (with_incoming id p)

abbrev pub NewsAreToCome : Type 0
NewsAreToCome = (id : SocketId) (news : News) (bytes : List ℕ) (p : SeenPort) → StayToCome p (with_news id news bytes p)

-- ---- what comes to it, and what it is told

abbrev pub IncomingStaysOwn : Type 0 → Type 0
IncomingStaysOwn D = (id : SocketId) (c : CenterNow D) → AreOwn (holding_of c) → AreOwn (holding_of (record c { port = with_incoming id c.port }))

abbrev pub HearingStaysOwn : Type 0 → Type 0
HearingStaysOwn D = (id : SocketId) (news : News) (bytes : List ℕ) (c : CenterNow D) → AreOwn (holding_of c) → AreOwn (holding_of (after_hearing id news bytes c))

-- ---- a turn, and a step that is planned

abbrev pub TurnStaysUnused : (D E : Type 0) → Type 0
TurnStaysUnused D E = (heard : D → List Heard) (m : Means) (answer : Answer) (old new : CenterNow D) → TakesTurn E heard m answer old new → AreUnused old.port → AreUnused new.port

abbrev pub PlanStaysUnused : Type 0 → Type 0
PlanStaysUnused D = (answer : Answer) (peer : ℕ) (step : PlanStep) (now : ℕ) (throttles : Throttles) (old new : CenterNow D) → PlansIn answer peer step now throttles old new →
    AreUnused old.port → AreUnused new.port

-- ---- a cluster

abbrev pub ToldClusterIsSame : Type 0 → Type 0
ToldClusterIsSame D = (old new : ClusterNow D) → rest_of new ≡ rest_of old → OneByOne SameNode old.nodes new.nodes

abbrev pub ToldClusterStaysOwn : Type 0 → Type 0
ToldClusterStaysOwn D = (old new : ClusterNow D) → rest_of new ≡ rest_of old → AllByRecursion KeepsSockets old.nodes → AllByRecursion KeepsSockets new.nodes

abbrev pub ToldClusterStaysJudged : Type 0 → Type 0
ToldClusterStaysJudged D = (old new : ClusterNow D) → rest_of new ≡ rest_of old → AllHaveHalves old.nodes → AllHaveHalves new.nodes
