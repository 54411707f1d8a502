-- with the lines of what is left it is the whole text
use Rattle.std.proofs.Common.{◌≡◌, ◌++◌, drop}
use Rattle.std.specs.List.{flat_map}
use Rattle.m2_trace.specs.Sides.{step_line}
use Rattle.m2_trace.proofs.sides.put_plan.Given as goal

abbrev pub invariant-loop-step : goal.invariant-loop-step
invariant-loop-step l = let lines = flat_map (step_line l.side) in l.out.bytes ++ lines (drop l.step-index l.plan) ≡ l.fn.out.bytes ++ lines l.plan
