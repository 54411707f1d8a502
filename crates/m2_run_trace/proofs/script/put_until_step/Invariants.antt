-- With the lines that are left it is the whole text, and they have the next step and what is behind it.
use Rattle.std.proofs.Common.{◌≡◌, ◌++◌, length}
use Rattle.std.specs.List.{flat_map}
use Rattle.m2_run_trace.specs.Script.{lines_above, lines_behind, next_step, quiet_text}
use Rattle.m2_scenario.specs.Text.{pieces}
use Rattle.m2_run_trace.proofs.script.put_until_step.Given as goal

abbrev pub invariant-lines : goal.invariant-lines
invariant-lines l =
    let quiet = flat_map (quiet_text l.nodes l.cluster.nodes) in
    record {
      text : l.out.bytes ++ quiet (lines_above (pieces 10 l.rest)) ≡ l.fn.out.bytes ++ quiet (lines_above (pieces 10 l.text));
      step : next_step (pieces 10 l.rest) ≡ next_step (pieces 10 l.text);
      behind : lines_behind (pieces 10 l.rest) ≡ lines_behind (pieces 10 l.text);
    }

abbrev pub decreases-lines : goal.decreases-lines
decreases-lines l = length l.rest
