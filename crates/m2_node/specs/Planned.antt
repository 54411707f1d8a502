-- What the lines of a scenario have each record do, and as what each record begins. This project's own; the waits are a rule of the
-- runtime.
use Rattle.std.specs.Prelude.{◌≡◌, ℕ, ◌==◌, ◌&&◌, false, if◌then◌else◌, List, [], ◌∷◌, ◌++◌, length, map, slice_get, Option, Some, None}
use Rattle.std.specs.List.{AllByRecursion, filter_map}
use Rattle.std.specs.Option.{option_to_list}
use Rattle.m2_bytes.specs.Items.{Holding}
use Rattle.m2_links_go_on.specs.Made.{SideMade}
use Rattle.m2_journal.specs.SideFacts.{SideFacts}
use Rattle.m2_journal.specs.declared.facts.NodeFacts.{NodeFacts}
use Rattle.m2_journal.specs.declared.facts.PlanStep.{PlanStep}
use Rattle.m2_journal.specs.declared.facts.PlanStep.TheVariants as step
use Rattle.m2_script.specs.m2_record.IsRecord.{CanBePlanned, new_record}
use Rattle.m2_script.specs.m2_record.RecordNow.{RecordNow}
use Rattle.m2_scenario.specs.declared.line.Line.{Line}
use Rattle.m2_scenario.specs.declared.line.Line.TheVariants as line
use Rattle.m2_scenario.specs.declared.link.Link.{Link}
use Rattle.m2_scenario.specs.declared.node.Node.{Node}
use Rattle.m2_script.specs.Made.{facts_of, records_of, roomless}
use Rattle.m2_node.specs.Homes.{at_home}
use Rattle.m2_node.specs.declared.planning.StepTowards.{StepTowards}

-- ---- what the lines have a record do

-- the step that a line plans for the record of the node at place k towards that at place j
abbrev pub step_in : (k j : ℕ) → Line → Option PlanStep
step_in k j (line.Post a b message) = if (a == k) && (b == j) then Some (step.Post message) else None
step_in k j (line.Dial a b) = if (a == k) && (b == j) then Some step.Dial else None
step_in k j (line.Down a b) = if (a == k) && (b == j) then Some step.Down else None
step_in k j _ = None

-- all of them, in the order of the lines; lines that drive sockets in memory plan nothing
abbrev pub plan_in : List Line → (k j : ℕ) → List PlanStep
plan_in lines k j = filter_map (step_in k j) lines

-- ---- as what records begin

-- the facts of a record of a run: it waits 20 milliseconds before the first new connect and at most 1,000
abbrev pub waiting : SideFacts → SideFacts
waiting f = record f { node = record f.node { first_wait = 20; most_wait = 1000 } }

-- what a node of a run tells its records
abbrev pub node_facts : Node → (number word : ℕ) → NodeFacts
node_facts x number word = record (facts_of x number word) { first_wait = 20; most_wait = 1000 }

-- as what a record of a run begins that is to do this
abbrev pub side_by : (plan : ℕ → List PlanStep) → RecordNow → SideMade
side_by plan r = record { place = r.place; facts = waiting r.core.facts; plan = plan r.place }

-- As what a record of the node at place k begins: `records_of` has its peer, addresses, policy and facts; and it is to do
-- what the lines plan.
abbrev pub side_in : List Line → (k : ℕ) → RecordNow → SideMade
side_in lines k r = side_by (plan_in lines k) r

-- each of the node's, in the order of its links; `word` is the word that was drawn for the node
abbrev pub sides_in : List Node → List Link → List Line → (k word : ℕ) → List SideMade
sides_in nodes links lines k word = map (side_in lines k) (records_of nodes links k word)

-- ---- what each node is to do

-- what a line has the node at place k do, and towards whom
abbrev pub step_of : (k : ℕ) → Line → Option StepTowards
step_of k (line.Post a b message) = if a == k then Some (record { peer = b; step = step.Post message }) else None
step_of k (line.Dial a b) = if a == k then Some (record { peer = b; step = step.Dial }) else None
step_of k (line.Down a b) = if a == k then Some (record { peer = b; step = step.Down }) else None
step_of k _ = None

-- what all lines have it do, in their order
abbrev pub steps_in : List Line → (k : ℕ) → List StepTowards
steps_in lines k = filter_map (step_of k) lines

-- of so many nodes, in order
pub record AreStepsOf (nodes : ℕ) (lines : List Line) (all : List (Holding StepTowards)) : Type 0 where
  pub count : length all ≡ nodes
  pub each : (k : ℕ) (steps : Holding StepTowards) → slice_get all k ≡ Some steps → steps.items ≡ steps_in lines k

-- a step goes last among those of the node at this place, and the others' stay
pub record AddsStep (node : ℕ) (step : StepTowards) (old new : List (Holding StepTowards)) : Type 0 where
  pub count : length new ≡ length old
  pub each : (k : ℕ) (before behind : Holding StepTowards) → slice_get old k ≡ Some before → slice_get new k ≡ Some behind →
      behind.items ≡ (if node == k then before.items ++ step ∷ [] else before.items)

-- what a line has a node do goes last among its steps, and the others' stay
pub record AddsStepOf (line : Line) (old new : List (Holding StepTowards)) : Type 0 where
  pub count : length new ≡ length old
  pub each : (k : ℕ) (before behind : Holding StepTowards) → slice_get old k ≡ Some before → slice_get new k ≡ Some behind → behind.items ≡ before.items ++ option_to_list (step_of k line)

-- of steps those towards the node at place j
abbrev pub towards_in : (j : ℕ) → StepTowards → Option PlanStep
towards_in j s = if s.peer == j then Some s.step else None

abbrev pub plan_of : List StepTowards → (j : ℕ) → List PlanStep
plan_of steps j = filter_map (towards_in j) steps

-- its message, where it is one, can be sent
abbrev pub IsSendableStep : StepTowards → Type 0
IsSendableStep s = CanBePlanned s.step

-- ---- records that are planned

-- as this one begins, which `sim` has, one of a run does
abbrev pub begun_as : RecordNow → RecordNow
begun_as r = new_record (waiting r.core.facts) r.place r.core.live.granted.peer

-- the records of thread j of so many of the node at place k before anything is planned, but for room
abbrev pub AreNewRecords : List Node → List Link → (k centers j word : ℕ) → List RecordNow → Type 0
AreNewRecords nodes links k centers j word rs = map roomless rs ≡ map (λ (r : RecordNow). roomless (begun_as r)) (at_home nodes centers j (records_of nodes links k word))

-- a record is as it was, but that its plan goes on by those of these steps that are towards its peer, and for room
abbrev pub IsPlannedBy : List StepTowards → (old new : RecordNow) → Type 0
IsPlannedBy steps old new = new ≡ record old { plan = old.plan ++ plan_of steps old.place; room = new.room }

-- none of these records is towards the node at place j
abbrev pub NoneTowards : (j : ℕ) → List RecordNow → Type 0
NoneTowards j rs = AllByRecursion (λ (r : RecordNow). (r.place == j) ≡ false) rs

-- the one at this place is
pub record IsPlaceTowards (j : ℕ) (rs : List RecordNow) (place : ℕ) : Type 0 where
  pub side : RecordNow
  pub there : slice_get rs place ≡ Some side
  pub towards : side.place ≡ j
