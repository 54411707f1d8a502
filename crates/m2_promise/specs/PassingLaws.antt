-- What is promised of a run of nodes in memory where something passes between them.
use Rattle.std.specs.Prelude.{◌≡◌, ℕ, List, None, IsSome}
use Rattle.m2_fabric.specs.m2_addr.declared.addr.Addr.{Addr}
use Rattle.m2_script.specs.m2_cluster.Cluster.{ClusterNow, rest_of}
use Rattle.m2_links_go_on.specs.ClusterTold.{AreUnused, OneByOne}
use Rattle.m2_links_go_on.specs.m2_growth.Holding.{Holding}
use Rattle.m2_links_go_on.specs.m2_growth.Passed.{AllPortsStand, HasItsEnds, WaitingAreOpen}
use Rattle.m2_links_go_on.specs.Linked.{IsNode}
use Rattle.m2_promise.specs.Running.{HaveOrders, IsNodeAt, IsRunning, NodeActs, RunNow}
use Rattle.m2_fabric.specs.SimFabric.{Faults, Flows, Meets, flow_of}
use Rattle.m2_promise.specs.Acting.{holdings_of}
use Rattle.m2_promise.specs.Passed.{IsAtRest, NodesHear, SameHolding, network_of}

-- ---- what nodes hold

-- A cluster with the same rest holds the same but for what ends were told.
abbrev pub ToldNodesHear : Type 0 → Type 0
ToldNodesHear D = (old new : ClusterNow D) → rest_of new ≡ rest_of old → OneByOne SameHolding (holdings_of old.nodes) (holdings_of new.nodes)

-- Each is a node at its place still, where it is a node in memory and the ends that wait there did nothing yet.
abbrev pub HearingStaysAt : Type 0
HearingStaysAt = (addrs : List Addr) (i : ℕ) (old new : Holding) → SameHolding old new → IsNode new → IsSome new.port.waiting → AreUnused new.port → IsNodeAt addrs i old → IsNodeAt addrs i new

-- Where nothing is told, what each node holds is the same: each run that holds what holds always hears so, and a flow on a socket
-- that isn't there passes nothing.
pub record NothingIsHeard : Type 0 where
  pub hears : (x : RunNow) → IsRunning x → NodesHear x x
  pub flows : (a b socket most : ℕ) (x : RunNow) → flow_of a b socket most x.fabric.pairs ≡ None → Flows a b socket most (network_of x) (network_of x)

-- ---- runs

-- Where nodes hold the same but for what their ends were told, and all that was done on each link had an order, it has one still.
abbrev pub HearingKeepsOrders : Type 0
HearingKeepsOrders = (old new : RunNow) → OneByOne SameHolding old.holdings new.holdings → HaveOrders old → HaveOrders new

-- Behind a meeting of a node what holds always holds still: the sockets that it opened are kept between it and the nodes at which
-- they arrive.
abbrev pub MeetingKeepsRunning : Type 0
MeetingKeepsRunning = (node : ℕ) (old new : RunNow) → Meets node (network_of old) (network_of new) → NodesHear old new → HasItsEnds (network_of old) →
    IsRunning old → IsRunning new

-- So it does behind a flow,
abbrev pub FlowKeepsRunning : Type 0
FlowKeepsRunning = (a b socket most : ℕ) (old new : RunNow) → Flows a b socket most (network_of old) (network_of new) → NodesHear old new → WaitingAreOpen old.holder →
    IsRunning old → IsRunning new

-- and behind a fault.
abbrev pub FaultKeepsRunning : Type 0
FaultKeepsRunning = (a b socket : ℕ) (old new : RunNow) → Faults a b socket (network_of old) (network_of new) → NodesHear old new → IsRunning old → IsRunning new

-- ---- deeds one after another

-- So a run stays at rest behind each deed: a node acts, or something passes.
pub record RestStays : Type 0 where
  pub turns : (i : ℕ) (old new : RunNow) → NodeActs i old new → AllPortsStand old.holder new.holder → IsAtRest old → IsAtRest new
  pub meetings : (node : ℕ) (old new : RunNow) → Meets node (network_of old) (network_of new) → NodesHear old new → IsAtRest old → IsAtRest new
  pub flows : (a b socket most : ℕ) (old new : RunNow) → Flows a b socket most (network_of old) (network_of new) → NodesHear old new → IsAtRest old → IsAtRest new
  pub faults : (a b socket : ℕ) (old new : RunNow) → Faults a b socket (network_of old) (network_of new) → NodesHear old new → IsAtRest old → IsAtRest new
