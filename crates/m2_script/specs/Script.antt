-- What the lines of a scenario have a cluster do: deeds, one after another. This project's own.
use Rattle.std.specs.Prelude.{◌≡◌, ◌==◌, ◌&&◌, ℕ, ◌+◌, ◌^◌, ◌-◌, ◌<◌, min, ◌⊎◌, true, if◌then◌else◌, List, [], ◌∷◌, ◌++◌, zero, suc, flat_map, length, slice_get, None, Ok, Err, IfSome, IsSome, OnOk}
use Rattle.std.specs.List.{AllByRecursion}
use Rattle.m2_bytes.specs.declared.memory.NoMemory as memory
use Rattle.m2_dispatch.specs.Heard.{Heard}
use Rattle.m2_journal.specs.declared.facts.PlanStep.{PlanStep}
use Rattle.m2_journal.specs.declared.facts.PlanStep.TheVariants as step
use Rattle.m2_record.specs.IsRecord.{CanBePlanned}
use Rattle.m2_cluster.specs.m2_center.CenterTurn.{Answer}
use Rattle.m2_cluster.specs.m2_center.Plans.{IsReadyFor}
use Rattle.m2_scenario.specs.declared.line.Line.{Line}
use Rattle.m2_scenario.specs.declared.line.Line.TheVariants as line
use Rattle.m2_scenario.specs.declared.link.Link.{Link}
use Rattle.m2_scenario.specs.Draft.{are_joined}
use Rattle.m2_script.specs.declared.calls.TurnCalls.{TurnCalls}
use Rattle.m2_fabric.specs.InStep.{IsInStep, Network, SeenFabric}
use Rattle.m2_fabric.specs.SimFabric.{Faults, Flows, Meets}
use Rattle.m2_cluster.specs.Cluster.{ClusterNow, OneDoes, held_by, rest_of}
use Rattle.m2_cluster.specs.Node.{IsWholeNode, NodeNow, NodePlans, NodeTurns}

-- ---- what a run has

-- the nodes, what flows between them, the moment of the next deed, in milliseconds, and how many calls dispatchers had in the turns
-- so far, without turns in which they had none
pub record RunNow (D : Type 0) : Type 0 where
  pub cluster : ClusterNow D
  pub fabric : SeenFabric
  pub now : ℕ
  pub calls : List TurnCalls

-- what flows between them, and the nodes as the holder of all ends
abbrev pub network_of : {D : Type 0} → RunNow D → Network
network_of s = record { fabric = s.fabric; holder = held_by s.cluster.nodes }

-- ---- deeds

-- a step of the plan of node a's record towards b; a turn of a node; a meeting of a node, behind which the others learn
-- what it did; a flow from a to b; a fault of a's end of a socket to b
pub data Deed : Type 0 where
  plan : ℕ → ℕ → PlanStep → Deed
  turn : ℕ → Deed
  meet : ℕ → Deed
  flow : ℕ → ℕ → ℕ → ℕ → Deed
  fault : ℕ → ℕ → ℕ → Deed

-- a node takes a turn, and the others learn of it
abbrev pub turn_and_meet : ℕ → List Deed
turn_and_meet a = turn a ∷ meet a ∷ []

-- so do so many nodes, from one on
abbrev pub turns_from : (node count : ℕ) → List Deed
turns_from node zero = []
turns_from node (suc count) = turn_and_meet node ++ turns_from (suc node) count

-- there is no limit to a flow
abbrev pub MOST : ℕ
MOST = 2 ^ 64 - 1

-- everything flows over a link, from its first node and then from its second
abbrev pub both_flow : Link → List Deed
both_flow l = flow l.a l.b 0 MOST ∷ flow l.b l.a 0 MOST ∷ []

-- everything flows over all links in their order, and then each node takes a turn, in order
abbrev pub round_of : List Link → ℕ → List Deed
round_of links nodes = flat_map both_flow links ++ turns_from 0 nodes

abbrev pub rounds_of : List Link → ℕ → (count : ℕ) → List Deed
rounds_of links nodes zero = []
rounds_of links nodes (suc count) = round_of links nodes ++ rounds_of links nodes count

-- what a line has the cluster do; a cut was told its node before the first line
abbrev pub deeds_of : List Link → ℕ → Line → List Deed
deeds_of links nodes (line.Post a b message) = plan a b (step.Post message) ∷ []
deeds_of links nodes (line.Dial a b) = plan a b step.Dial ∷ []
deeds_of links nodes (line.Down a b) = plan a b step.Down ∷ meet a ∷ []
deeds_of links nodes (line.Cut a b bytes) = []
deeds_of links nodes (line.Turn a) = turn_and_meet a
deeds_of links nodes (line.Flow a b socket most) = flow a b socket most ∷ []
deeds_of links nodes (line.Fault a b socket) = fault a b socket ∷ []
deeds_of links nodes (line.Settle rounds) = rounds_of links nodes rounds

-- ---- what a deed does

-- Of a turn the moment is a millisecond later, as far as it can be.
abbrev pub next_moment : ℕ → ℕ
next_moment now = min (now + 1) (2 ^ 64 - 1)

-- how many calls a node's dispatcher of fast kinds had, and the one behind its queue
abbrev pub fast_calls : {D : Type 0} → (D → List Heard) → NodeNow D → ℕ
fast_calls heard n = length (heard n.center.out.fast)

abbrev pub queued_calls : {D : Type 0} → (D → List Heard) → NodeNow D → ℕ
queued_calls heard n = length (heard n.center.queued.inner)

-- a turn without calls isn't noted
abbrev pub noted : TurnCalls → List TurnCalls
noted c = if (c.fast == 0) && (c.queued == 0) then [] else c ∷ []

-- how many calls the node at this place had between what it was and what it is
abbrev pub calls_between : {D : Type 0} → (D → List Heard) → ℕ → (before behind : NodeNow D) → List TurnCalls
calls_between heard node before behind = noted (record {
  node = node;
  fast = fast_calls heard behind - fast_calls heard before;
  queued = queued_calls heard behind - queued_calls heard before;
})

-- a record plans the step and takes it; nothing flows
pub record PlansStep {D : Type 0} (answer : Answer) (a b : ℕ) (x : PlanStep) (old new : RunNow D) : Type 0 where
  pub acts : OneDoes a (NodePlans answer b x old.now) old.cluster new.cluster
  pub fabric : new.fabric ≡ old.fabric
  pub now : new.now ≡ old.now
  pub calls : new.calls ≡ old.calls

-- A node takes a turn, behind which the moment is the next one and no letter is held for want of memory; nothing flows.
pub record TakesTurn {D : Type 0} (E : Type 0) (heard : D → List Heard) (a : ℕ) (old new : RunNow D) : Type 0 where
  pub acts : OneDoes a (NodeTurns E heard old.now (Ok tt)) old.cluster new.cluster
  pub fabric : new.fabric ≡ old.fabric
  pub now : new.now ≡ next_moment old.now
  pub calls : new.calls ≡ old.calls ++ calls_between heard a acts.before acts.behind
  pub none_held : acts.behind.center.out.held ≡ None

-- the turn stops, or holds a letter
abbrev pub LacksMemory : {D : Type 0} → (E : Type 0) → (D → List Heard) → ℕ → memory.NoMemory → NodeNow D → NodeNow D → Type 0
LacksMemory E heard now e old new = NodeTurns E heard now (Err e) old new ⊎ (NodeTurns E heard now (Ok tt) old new × IsSome new.center.out.held)

-- a node finds no memory in its turn
pub record StopsTurn {D : Type 0} (E : Type 0) (heard : D → List Heard) (e : memory.NoMemory) (a : ℕ) (old new : RunNow D) : Type 0 where
  pub acts : OneDoes a (LacksMemory E heard old.now e) old.cluster new.cluster
  pub only : new ≡ record old { cluster = new.cluster }

-- Where there is no memory it isn't begun, or the node finds none.
abbrev pub Turns : {D : Type 0} → (E : Type 0) → (D → List Heard) → Answer → ℕ → RunNow D → RunNow D → Type 0
Turns E heard (Ok _) a old new = TakesTurn E heard a old new
Turns E heard (Err e) a old new = (new ≡ old) ⊎ StopsTurn E heard e a old new

-- Something is passed on so, and the network is in step then, unless memory ran out; the nodes are the same but for what
-- their ends were told and for the sockets that wait.
pub record IsPassed {D : Type 0} (answer : Answer) (how : Network → Network → Type 0) (old new : RunNow D) : Type 0 where
  pub passes : OnOk answer (how (network_of old) (network_of new))
  pub in_step : OnOk answer (IsInStep (network_of new))
  pub rest : rest_of new.cluster ≡ rest_of old.cluster
  pub now : new.now ≡ old.now
  pub calls : new.calls ≡ old.calls

abbrev pub Does : {D : Type 0} → (E : Type 0) → (D → List Heard) → Answer → Deed → RunNow D → RunNow D → Type 0
Does E heard answer (plan a b x) old new = PlansStep answer a b x old new
Does E heard answer (turn a) old new = Turns E heard answer a old new
Does E heard answer (meet a) old new = IsPassed answer (Meets a) old new
Does E heard answer (flow a b socket most) old new = IsPassed answer (Flows a b socket most) old new
Does E heard answer (fault a b socket) old new = IsPassed answer (Faults a b socket) old new

-- the deed is done, and each node keeps what its types say; or it stops
abbrev pub Happens : {D : Type 0} → (E : Type 0) → (D → List Heard) → Answer → Deed → RunNow D → RunNow D → Type 0
Happens E heard answer d old new = Does E heard answer d old new × OnOk answer (AllByRecursion IsWholeNode new.cluster.nodes)

-- ---- deeds, one after another

-- the one, and then the other
pub record BothHappen {D : Type 0} (one other : RunNow D → RunNow D → Type 0) (old new : RunNow D) : Type 0 where
  pub between : RunNow D
  pub first : one old between
  pub behind : other between new

-- Ok: each deed is done, in order. Err, for want of memory: the first of them are, in order, and the next one stops so.
abbrev pub Ends : {D : Type 0} → (E : Type 0) → (D → List Heard) → Answer → List Deed → RunNow D → RunNow D → Type 0
Ends E heard (Ok _) [] old new = new ≡ old
Ends E heard (Err _) [] old new = ⊥
Ends E heard (Ok _) (d ∷ ds) old new = BothHappen (Happens E heard (Ok tt) d) (Ends E heard (Ok tt) ds) old new
Ends E heard (Err e) (d ∷ ds) old new = Happens E heard (Err e) d old new ⊎ BothHappen (Happens E heard (Ok tt) d) (Ends E heard (Err e) ds) old new

-- what all lines have it do, in order
abbrev pub script_of : List Link → ℕ → List Line → List Deed
script_of links nodes lines = flat_map (deeds_of links nodes) lines

-- ---- what deeds need

-- There is such a node, and the network is in step.
pub record IsMetAt {D : Type 0} (a : ℕ) (s : RunNow D) : Type 0 where
  pub node : a < length s.fabric.nodes
  pub in_step : IsInStep (network_of s)

-- and so is another
pub record AreMetAt {D : Type 0} (a b : ℕ) (s : RunNow D) : Type 0 where
  pub from : a < length s.fabric.nodes
  pub to : b < length s.fabric.nodes
  pub in_step : IsInStep (network_of s)

-- There is such a node, and it has a record towards the peer, of whose plan each step was taken. The step can be planned.
pub record IsReadyAt {D : Type 0} (a b : ℕ) (x : PlanStep) (s : RunNow D) : Type 0 where
  pub node : a < length s.cluster.nodes
  pub ready : IfSome (slice_get s.cluster.nodes a) (λ n. IsReadyFor b n.center.records)
  pub step : CanBePlanned x

abbrev pub CanBeDone : {D : Type 0} → Deed → RunNow D → Type 0
CanBeDone (plan a b x) s = IsReadyAt a b x s
CanBeDone (turn a) s = a < length s.cluster.nodes
CanBeDone (meet a) s = IsMetAt a s
CanBeDone (flow a b socket most) s = AreMetAt a b s
CanBeDone (fault a b socket) s = AreMetAt a b s

-- Each deed can be done where those before it lead.
abbrev pub CanAllBeDone : {D : Type 0} → (E : Type 0) → (D → List Heard) → List Deed → RunNow D → Type 0
CanAllBeDone E heard [] s = Unit {0}
CanAllBeDone {D} E heard (d ∷ ds) s = CanBeDone d s × ((behind : RunNow D) → Happens E heard (Ok tt) d s behind → CanAllBeDone E heard ds behind)

-- ---- what deeds are of

-- a step can be planned, at one of so many nodes towards another with which a link joins it
pub record PlansWithin (links : List Link) (nodes a b : ℕ) (x : PlanStep) : Type 0 where
  pub node : a < nodes
  pub joined : are_joined links a b ≡ true
  pub step : CanBePlanned x

-- the deed is of so many nodes; and of these links, where a record is to plan a step
abbrev pub IsWithin : List Link → ℕ → Deed → Type 0
IsWithin links nodes (plan a b x) = PlansWithin links nodes a b x
IsWithin links nodes (turn a) = a < nodes
IsWithin links nodes (meet a) = a < nodes
IsWithin links nodes (flow a b socket most) = (a < nodes) × (b < nodes)
IsWithin links nodes (fault a b socket) = (a < nodes) × (b < nodes)
