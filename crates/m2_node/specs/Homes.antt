-- With which event thread of a node a peer is at home. This project's own; which it is is a rule of the runtime (`m2_center`).
use Rattle.std.specs.Prelude.{◌≡◌, ℕ, ◌==◌, Bool, List, filter, length, slice_get, Option, Some, None}
use Rattle.m2_bytes.specs.Items.{Holding}
use Rattle.m2_script.specs.m2_center.Home.{home_of}
use Rattle.m2_script.specs.m2_record.RecordNow.{RecordNow}
use Rattle.m2_scenario.specs.declared.node.Node.{Node}
use Rattle.m2_node.specs.declared.planning.StepTowards.{StepTowards}

-- of so many threads, that of this node; the first one where there is none
abbrev pub home_of_node : (centers : ℕ) → Option Node → ℕ
home_of_node centers None = 0
home_of_node centers (Some x) = home_of x.at centers

-- that of the node at a place
abbrev pub home_at : List Node → (centers place : ℕ) → ℕ
home_at nodes centers place = home_of_node centers (slice_get nodes place)

-- the node at a place is at home with thread j of so many
abbrev pub is_at_home : List Node → (centers j place : ℕ) → Bool
is_at_home nodes centers j place = home_at nodes centers place == j

-- of a node's records those whose peers are
abbrev pub at_home : List Node → (centers j : ℕ) → List RecordNow → List RecordNow
at_home nodes centers j rs = filter (λ (r : RecordNow). is_at_home nodes centers j r.place) rs

-- of a node's steps those towards peers that are
abbrev pub steps_at_home : List Node → (centers j : ℕ) → List StepTowards → List StepTowards
steps_at_home nodes centers j steps = filter (λ (s : StepTowards). is_at_home nodes centers j s.peer) steps

-- those of each thread, in order
pub record AreStepsByHome (nodes : List Node) (centers : ℕ) (steps : List StepTowards) (all : List (Holding StepTowards)) : Type 0 where
  pub count : length all ≡ centers
  pub each : (j : ℕ) (its : Holding StepTowards) → slice_get all j ≡ Some its → its.items ≡ steps_at_home nodes centers j steps
