-- the lines so far have made the draft, and what is left makes of it what all make
use Rattle.std.proofs.Common.{◌≡◌, ◌+◌, ◌≤◌, length}
use Rattle.m2_scenario.specs.Text.{pieces}
use Rattle.m2_scenario.specs.Draft.{no_lines}
use Rattle.m2_scenario_text.specs.declared.reading.TheConstants.{MOST_BYTES}
use Rattle.m2_scenario_text.specs.Reading.{lines_from}
use Rattle.m2_scenario_text.proofs.reading.all_lines.Given as goal

abbrev pub invariant-lines : goal.invariant-lines
invariant-lines l = record {
  all : lines_from l.form l.past 1 no_lines (pieces 10 l.text) ≡ lines_from l.form l.past l.line l.draft (pieces 10 l.rest);
  within : l.line + length l.rest ≤ MOST_BYTES + 1;
}

abbrev pub decreases-lines : goal.decreases-lines
decreases-lines l = length l.rest
