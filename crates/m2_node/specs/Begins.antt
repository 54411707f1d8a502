-- Nodes of a run before their first turn: their ports, and what each center is where it has done nothing. This project's own.
use Rattle.std.specs.Prelude.{◌≡◌, ◌≢◌, ℕ, suc, ◌+◌, ◌<◌, true, false, List, [], ◌∷◌, ◌++◌, drop, length, map, slice_get, take, Option, Some, None}
use Rattle.std.specs.List.{AllByRecursion}
use Rattle.m2_bytes.specs.Items.{Holding}
use Rattle.m2_script.specs.m2_center.Center.{CenterNow}
use Rattle.m2_script.specs.m2_center.Making.{new_center}
use Rattle.m2_addr.specs.declared.addr.Addr.{Addr}
use Rattle.m2_fabric.specs.declared.socket.SocketId.{SocketId}
use Rattle.m2_handover.specs.Door.{DoorNow}
use Rattle.m2_handover.specs.Handed.{OnItsWay}
use Rattle.m2_handover.specs.Home.{HomeNow, weight_at_door}
use Rattle.m2_handover.specs.Way.{WayNow}
use Rattle.m2_links_go_on.specs.Made.{IsBegun, side_made}
use Rattle.m2_handover.specs.m2_mailbox.Passes.{IsGetPassOf, taken_of}
use Rattle.m2_handover.specs.m2_mailbox.declared.inbox.Inbox.{Inbox}
use Rattle.m2_handover.specs.m2_mailbox.declared.passes.GetPass.{GetPass}
use Rattle.m2_handover.specs.m2_mailbox.declared.passes.PutPass.{PutPass}
use Rattle.m2_trail.specs.declared.home.HomeOf.{HomeOf}
use Rattle.m2_dispatch.specs.declared.logged.Logged.{Logged}
use Rattle.m2_dispatch.specs.m2_shared.Numbers.{SeenNumberPass}
use Rattle.m2_dispatch.specs.m2_shared.declared.throttles.TakePasses.{TakePasses}
use Rattle.m2_fabric.specs.Fabric.{IsUnused, SeenFabric}
use Rattle.m2_fabric.specs.Port.{SeenPort}
use Rattle.m2_script.specs.m2_record.RecordNow.{RecordNow}
use Rattle.m2_scenario.specs.Draft.{DraftLine}
use Rattle.m2_scenario.specs.Valid.{IsSound}
use Rattle.m2_scenario.specs.declared.link.Link.{Link}
use Rattle.m2_scenario.specs.declared.node.Node.{Node}
use Rattle.m2_script.specs.Laws.{bare}
use Rattle.m2_script.specs.Made.{records_of}
use Rattle.m2_node.specs.Homes.{at_home}
use Rattle.m2_node.specs.Planned.{IsSendableStep, plan_of, side_by}
use Rattle.m2_node.specs.Ports.{PortNow, off_port, seen_port}
use Rattle.m2_node.specs.Rooms.{AreRoomsOf, HomeAt}
use Rattle.m2_node.specs.Sharing.{ShareNow}
use Rattle.m2_node.specs.Working.{IsGroup, WorkerNow}
use Rattle.m2_node.specs.declared.planning.StepTowards.{StepTowards}

-- nodes and links of a valid scenario
pub record AreOfSound (nodes : List Node) (links : List Link) : Type 0 where
  pub lines : List DraftLine
  pub sound : IsSound nodes links lines

-- ---- ports

-- each node that is started listens at its address
abbrev pub AreListening : List Node → SeenFabric → Type 0
AreListening nodes f = (k : ℕ) (x : Node) → slice_get nodes k ≡ Some x → x.started ≡ true → f.listens k ≡ Some x.at

-- The port of a thread: it is at its node's address and did nothing so far; that of a node that is off makes nothing.
pub record IsPortFor (x : Node) (p : PortNow) : Type 0 where
  pub at : (seen_port p).at ≡ x.at
  pub unused : IsUnused (seen_port p)
  pub off : x.started ≡ false → seen_port p ≡ off_port x.at

-- those of all its threads
pub record ArePortsForNode (x : Node) (ports : List PortNow) : Type 0 where
  pub count : length ports ≡ x.centers
  pub each : AllByRecursion (IsPortFor x) ports

pub record ArePortsFor (nodes : List Node) (ports : List (List PortNow)) : Type 0 where
  pub count : length ports ≡ length nodes
  pub each : (k : ℕ) (x : Node) (ps : List PortNow) → slice_get nodes k ≡ Some x → slice_get ports k ≡ Some ps → ArePortsForNode x ps

-- as many ports as it has threads are out of the node at place k, where it is started; all else stays
pub record IsOutIf (k : ℕ) (x : Node) (old new : SeenFabric) : Type 0 where
  pub on : x.started ≡ true → new.out k ≡ Some x.centers
  pub others : (n : ℕ) → n ≢ k → new.out n ≡ old.out n
  pub listens : (n : ℕ) → new.listens n ≡ old.listens n
  pub gathered : (n : ℕ) → new.gathered n ≡ old.gathered n
  pub gathers : (n : ℕ) → new.gathers n ≡ old.gathers n

-- so it is of each node before place k
pub record AreOutSoFar (k : ℕ) (nodes : List Node) (old new : SeenFabric) : Type 0 where
  pub out : (j : ℕ) (x : Node) → j < k → slice_get nodes j ≡ Some x → x.started ≡ true → new.out j ≡ Some x.centers
  pub listens : (n : ℕ) → new.listens n ≡ old.listens n
  pub gathered : (n : ℕ) → new.gathered n ≡ old.gathered n
  pub gathers : (n : ℕ) → new.gathers n ≡ old.gathers n

-- ---- doors

-- what the ports of threads are made of: all inboxes, and the rights that no port has yet; and the number of the next thread
pub record DoorsNow : Type 0 where
  pub inboxes : List (Inbox OnItsWay HomeOf)
  pub puts : List (PutPass OnItsWay HomeOf)
  pub gets : List (GetPass OnItsWay HomeOf)
  pub next : ℕ

-- the inboxes of the threads from the next one on, which are these, are named, and there are the rights to them
pub record AreDoorsOf (inbox : ℕ → Option (Inbox OnItsWay HomeOf)) (homes : List HomeAt) (d : DoorsNow) : Type 0 where
  pub named : (i : ℕ) → inbox i ≡ slice_get d.inboxes i
  pub rooms : AreRoomsOf homes (drop d.next d.inboxes) d.puts d.gets

-- the inbox of a thread, out of which nothing was taken, and the right to take
pub record IsStillFull (inbox : Inbox OnItsWay HomeOf) (get : GetPass OnItsWay HomeOf) : Type 0 where
  pub gets : IsGetPassOf inbox get
  pub nothing_taken : taken_of get ≡ []

-- those of the first of these threads, to which the ways are made and whose ports are to come; and behind them all of the others
abbrev pub AreRoomsAmid : (its rest : List HomeAt) → List (Inbox OnItsWay HomeOf) → List (PutPass OnItsWay HomeOf) → List (GetPass OnItsWay HomeOf) → Type 0
AreRoomsAmid [] rest inboxes puts gets = AreRoomsOf rest inboxes puts gets
AreRoomsAmid (h ∷ its) rest (b ∷ inboxes) puts (g ∷ gets) = IsStillFull b g × AreRoomsAmid its rest inboxes puts gets
AreRoomsAmid (h ∷ its) rest inboxes puts gets = ⊥

pub record AreDoorsAmid (inbox : ℕ → Option (Inbox OnItsWay HomeOf)) (its rest : List HomeAt) (d : DoorsNow) : Type 0 where
  pub named : (i : ℕ) → inbox i ≡ slice_get d.inboxes i
  pub rooms : AreRoomsAmid its rest (drop d.next d.inboxes) d.puts d.gets

-- a way by which nothing was put
abbrev pub IsNewWay : WayNow → Type 0
IsNewWay way = way.put ≡ [] ∷ []

-- nothing is at a node's door, and nothing went through it
abbrev pub IsNewDoor : Option DoorNow → Type 0
IsNewDoor door = (weight : SocketId → ℕ) → weight_at_door weight door ≡ 0

-- the port of a thread over this one, which has made nothing
pub record IsNewHome (inner : SeenPort) (h : HomeNow) : Type 0 where
  pub inside : h.inner ≡ inner
  pub made : h.made ≡ []
  pub quiet : h.quiet ≡ false

-- so many ports of the fabric, which are at this address and did nothing so far
pub record IsNewAt (at : Addr) (p : SeenPort) : Type 0 where
  pub at_address : p.at ≡ at
  pub unused : IsUnused p

pub record AreNewAt (at : Addr) (centers : ℕ) (ports : List SeenPort) : Type 0 where
  pub count : length ports ≡ centers
  pub each : AllByRecursion (IsNewAt at) ports

-- ---- centers

-- The center of thread j of the node at place k, for which this word was drawn, has done nothing: it is new, over the thread's port; its records are over the node's links
-- to peers that are at home there, begun, and are to take those of these steps that are towards their peers.
pub record IsBeginning (nodes : List Node) (links : List Link) (steps : List StepTowards) (k j word : ℕ) (x : Node) (c : CenterNow (List Logged)) : Type 0 where
  pub port : SeenPort
  pub records : List RecordNow
  pub bytes : TakePasses
  pub numbers : SeenNumberPass
  pub center : c ≡ new_center x.entity port records [] [] bytes numbers
  pub at : port.at ≡ x.at
  pub unused : IsUnused port
  pub off : x.started ≡ false → port ≡ off_port x.at
  pub begun : AllByRecursion IsBegun records
  pub over : map bare records ≡ map bare (at_home nodes x.centers j (records_of nodes links k word))
  pub sides : map side_made records ≡ map (side_by (plan_of steps)) (at_home nodes x.centers j (records_of nodes links k word))

-- those of the threads of a node from one on, in order
abbrev pub AreBeginningAt : List Node → List Link → List StepTowards → (k j word : ℕ) → Node → List WorkerNow → Type 0
AreBeginningAt nodes links steps k j word x ws = (i : ℕ) (w : WorkerNow) → slice_get ws i ≡ Some w → IsBeginning nodes links steps k (j + i) word x w.center

-- each node that is made has done nothing: of the workers the first are those of its threads, and so on, from the node at place k on
abbrev pub AreBeginning : List Node → List Link → (steps : ℕ → List StepTowards) → (k : ℕ) → List Node → List WorkerNow → Type 0
AreBeginning nodes links steps k [] ws = Unit {0}
AreBeginning nodes links steps k (x ∷ xs) ws = ((word : ℕ) × AreBeginningAt nodes links (steps k) k 0 word x (take x.centers ws)) × AreBeginning nodes links steps (suc k) xs (drop x.centers ws)

-- the workers of the node at place k go last, as many as it has threads, each of which has done nothing, at this moment
pub record AddsWorkers (nodes : List Node) (links : List Link) (steps : List StepTowards) (k : ℕ) (x : Node) (s : ShareNow) (moment : ℕ) (old new : List WorkerNow) : Type 0 where
  pub behind : List WorkerNow
  pub split : new ≡ old ++ behind
  pub group : IsGroup x s behind
  pub moments : AllByRecursion (λ (w : WorkerNow). w.moment ≡ moment) behind
  pub word : ℕ
  pub beginning : AreBeginningAt nodes links steps k 0 word x behind

abbrev pub items_of : Option (Holding StepTowards) → List StepTowards
items_of (Some s) = s.items
items_of None = []

-- the steps at a place
abbrev pub steps_at : List (Holding StepTowards) → (k : ℕ) → List StepTowards
steps_at all k = items_of (slice_get all k)

-- all of them can be taken
abbrev pub AreSendable : List (Holding StepTowards) → Type 0
AreSendable all = (k : ℕ) (s : Holding StepTowards) → slice_get all k ≡ Some s → AllByRecursion IsSendableStep s.items
