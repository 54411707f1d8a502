-- A step that is added to the plan of a record and taken at once. This project's own.
use Rattle.std.specs.Prelude.{ℕ, ◌⊎◌, Some, Result, Ok, Err}
use Rattle.m2_bytes.specs.declared.memory.NoMemory as memory
use Rattle.m2_feed.specs.m2_journal.declared.facts.PlanStep.{PlanStep}
use Rattle.m2_record.specs.Calls.{IsSameButRoom, TakesNext, planned_too}
use Rattle.m2_record.specs.RecordNow.{RecordNow}

-- behind room that was made, the step is the plan's last, and is taken
pub record TakesNew (x : PlanStep) (now : ℕ) (old new : RecordNow) : Type 0 where
  pub mid : RecordNow
  pub room : IsSameButRoom old mid
  pub takes : TakesNext (Some x) (Ok tt) now (planned_too x mid) new

-- For want of memory the step is no step of the plan, or its last and not taken; all else but room is the same.
abbrev pub PlansNow : Result (Unit {0}) memory.NoMemory → PlanStep → (now : ℕ) → RecordNow → RecordNow → Type 0
PlansNow (Ok _) x now old new = TakesNew x now old new
PlansNow (Err _) x now old new = IsSameButRoom old new ⊎ IsSameButRoom (planned_too x old) new
