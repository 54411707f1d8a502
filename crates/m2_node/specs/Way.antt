-- Nodes of a scenario that are on their way. This project's own.
use Rattle.std.specs.Prelude.{◌≡◌, ◌⊎◌, ℕ, Bool, true, false, List, [], filter, length, slice_get, Some}
use Rattle.std.specs.List.{AllByRecursion}
use Rattle.m2_script.specs.m2_center.Center.{CenterNow}
use Rattle.m2_script.specs.m2_center.CenterTurn.{Answer, TakesTurn, means_at}
use Rattle.m2_script.specs.m2_center.Making.{new_center}
use Rattle.m2_links_go_on.specs.ClusterTold.{OneByOne}
use Rattle.m2_links_go_on.specs.Course.{IsOnCourse}
use Rattle.m2_links_go_on.specs.Made.{IsBegun, NodeMade, SideMade}
use Rattle.m2_dispatch.specs.Heard.{heard_by}
use Rattle.m2_dispatch.specs.declared.logged.Logged.{Logged}
use Rattle.m2_dispatch.specs.m2_shared.Numbers.{SeenNumbers}
use Rattle.m2_dispatch.specs.m2_shared.declared.throttles.Throttles.{Throttles}
use Rattle.m2_fabric.specs.Fabric.{SeenFabric}
use Rattle.m2_fabric.specs.Port.{with_poll}
use Rattle.m2_links_go_on.specs.LeftLaws.{HaveCome}
use Rattle.m2_links_go_on.specs.LogLaws.{holding_in, logging_in}
use Rattle.m2_links_go_on.specs.Logged.{IsLogged}
use Rattle.m2_links_go_on.specs.OfPeers.{AreOfPeers}
use Rattle.m2_script.specs.m2_record.IsRecord.{IsRecord}
use Rattle.m2_scenario.specs.declared.line.Line.{Line}
use Rattle.m2_scenario.specs.declared.link.Link.{Link}
use Rattle.m2_scenario.specs.declared.node.Node.{Node}
use Rattle.m2_node.specs.Homes.{is_at_home}
use Rattle.m2_node.specs.Nodes.{RunNodeNow}
use Rattle.m2_node.specs.Planned.{sides_in}
use Rattle.m2_node.specs.Ports.{off_port}

-- ---- a center

-- At a moment, which the clock may give. Nothing of what it did is lost; each ask that a record has judged came of its peer; and its
-- dispatchers were called with what its records handed on, each once and in order, and with nothing else.
pub record IsUnderWay (may_give : ℕ → Type 0) (moment : ℕ) (made : NodeMade) (c : CenterNow (List Logged)) : Type 0 where
  pub course : IsOnCourse may_give moment made c
  pub came : HaveCome (holding_in c)
  pub logged : IsLogged heard_by (logging_in c)
  pub peers : AreOfPeers heard_by c.records c.out c.queued

-- It takes a turn at a moment, by what its node shares; its records are records before it and behind it.
pub record TurnsSo (E : Type 0) (now : ℕ) (numbers : SeenNumbers) (throttles : Throttles) (old new : CenterNow (List Logged)) : Type 0 where
  pub answer : Answer
  pub turns : TakesTurn E heard_by (means_at now numbers throttles) answer old new
  pub before : AllByRecursion IsRecord old.records
  pub behind : AllByRecursion IsRecord new.records

-- it has waited at its port, which may have failed
abbrev pub PollsSo : CenterNow (List Logged) → CenterNow (List Logged) → Type 0
PollsSo old new = new ≡ record old { port = with_poll new.port.faults old.port }

-- it takes a turn, and may wait at its port behind it
pub record StepsSo (E : Type 0) (now : ℕ) (numbers : SeenNumbers) (throttles : Throttles) (old new : CenterNow (List Logged)) : Type 0 where
  pub mid : CenterNow (List Logged)
  pub turns : TurnsSo E now numbers throttles old mid
  pub waits : (new ≡ mid) ⊎ PollsSo mid new

-- It goes on from one moment to another: whatever it was made, it is under way where it was; and one that is off is as it was.
pub record GoesOn (may_give : ℕ → Type 0) (from to : ℕ) (started : Bool) (old new : CenterNow (List Logged)) : Type 0 where
  pub way : (made : NodeMade) → IsUnderWay may_give from made old → IsUnderWay may_give to made new
  pub off : started ≡ false → new ≡ old

-- ---- a node

-- so does each of its centers, and what they share is the same
pub record NodeTurnsSo (E : Type 0) (now : ℕ) (old new : RunNodeNow) : Type 0 where
  pub each : OneByOne (TurnsSo E now old.numbers old.throttles) old.centers new.centers
  pub shared : new ≡ record old { centers = new.centers }

pub record NodePollsSo (old new : RunNodeNow) : Type 0 where
  pub each : OneByOne PollsSo old.centers new.centers
  pub shared : new ≡ record old { centers = new.centers }

pub record NodeGoesOn (may_give : ℕ → Type 0) (from to : ℕ) (started : Bool) (old new : RunNodeNow) : Type 0 where
  pub each : OneByOne (GoesOn may_give from to started) old.centers new.centers
  pub shared : new ≡ record old { centers = new.centers }

-- ---- all nodes

-- each that is on takes a turn, and the others are as they were
pub record AllTurn (E : Type 0) (now : ℕ) (nodes : List Node) (old new : List RunNodeNow) : Type 0 where
  pub count : length new ≡ length old
  pub on : (k : ℕ) (x : Node) (n m : RunNodeNow) → slice_get nodes k ≡ Some x → slice_get old k ≡ Some n → slice_get new k ≡ Some m → x.started ≡ true → NodeTurnsSo E now n m
  pub off : (k : ℕ) (x : Node) (n m : RunNodeNow) → slice_get nodes k ≡ Some x → slice_get old k ≡ Some n → slice_get new k ≡ Some m → x.started ≡ false → m ≡ n

-- each that is on has waited at its ports, and the others are as they were
pub record AllPoll (nodes : List Node) (old new : List RunNodeNow) : Type 0 where
  pub count : length new ≡ length old
  pub on : (k : ℕ) (x : Node) (n m : RunNodeNow) → slice_get nodes k ≡ Some x → slice_get old k ≡ Some n → slice_get new k ≡ Some m → x.started ≡ true → NodePollsSo n m
  pub off : (k : ℕ) (x : Node) (n m : RunNodeNow) → slice_get nodes k ≡ Some x → slice_get old k ≡ Some n → slice_get new k ≡ Some m → x.started ≡ false → m ≡ n

-- all go on
pub record AllGoOn (may_give : ℕ → Type 0) (from to : ℕ) (nodes : List Node) (old new : List RunNodeNow) : Type 0 where
  pub count : length new ≡ length old
  pub each : (k : ℕ) (x : Node) (n m : RunNodeNow) → slice_get nodes k ≡ Some x → slice_get old k ≡ Some n → slice_get new k ≡ Some m → NodeGoesOn may_give from to x.started n m

-- ---- a node of the scenario

-- a center of a node that is off: it is new, over a port that makes nothing, of records that have done nothing
pub record IsOff (c : CenterNow (List Logged)) : Type 0 where
  pub records : AllByRecursion IsBegun c.records
  pub new_one : c ≡ new_center c.entity (off_port c.port.at) c.records [] [] c.bytes c.numbers

-- As what thread j of the node at place k begins, where this word was drawn for the node: the sides are those whose peers are at home
-- there.
abbrev pub made_in : List Node → List Link → List Line → (k j word : ℕ) → Node → NodeMade
made_in nodes links lines k j word x = record {
  entity = x.entity;
  at = x.at;
  sides = filter (λ (s : SideMade). is_at_home nodes x.centers j s.place) (sides_in nodes links lines k word);
}

-- the center of that thread at a moment: it was made as the scenario says, and is under way; or it is off
pub record IsCenterOf (may_give : ℕ → Type 0) (moment : ℕ) (nodes : List Node) (links : List Link) (lines : List Line) (k j word : ℕ) (x : Node) (c : CenterNow (List Logged)) : Type 0 where
  pub way : IsUnderWay may_give moment (made_in nodes links lines k j word x) c
  pub off : x.started ≡ false → IsOff c

-- the node at place k: it has as many centers as the scenario says, each of which is so, by one word that was drawn for the node
pub record IsNodeOf (may_give : ℕ → Type 0) (moment : ℕ) (nodes : List Node) (links : List Link) (lines : List Line) (k : ℕ) (x : Node) (n : RunNodeNow) : Type 0 where
  pub word : ℕ
  pub count : length n.centers ≡ x.centers
  pub each : (j : ℕ) (c : CenterNow (List Logged)) → slice_get n.centers j ≡ Some c → IsCenterOf may_give moment nodes links lines k j word x c

-- all of them, in order
pub record AreNodesOf (may_give : ℕ → Type 0) (moment : ℕ) (nodes : List Node) (links : List Link) (lines : List Line) (all : List RunNodeNow) : Type 0 where
  pub count : length all ≡ length nodes
  pub each : (k : ℕ) (x : Node) (n : RunNodeNow) → slice_get nodes k ≡ Some x → slice_get all k ≡ Some n → IsNodeOf may_give moment nodes links lines k x n

-- ---- what the fabric has of them

-- of each node that is on as many ports are out as the scenario says
abbrev pub ArePortsOut : List Node → SeenFabric → Type 0
ArePortsOut nodes f = (k : ℕ) (x : Node) → slice_get nodes k ≡ Some x → x.started ≡ true → f.out k ≡ Some x.centers

-- so it is; and the others listen where they did, and nothing was gathered
pub record AreOut (nodes : List Node) (old new : SeenFabric) : Type 0 where
  pub out : ArePortsOut nodes new
  pub off : (k : ℕ) (x : Node) → slice_get nodes k ≡ Some x → x.started ≡ false → new.listens k ≡ old.listens k
  pub gathered : (k : ℕ) → new.gathered k ≡ old.gathered k
  pub gathers : (k : ℕ) → new.gathers k ≡ old.gathers k
