-- None of those so far is one.
use Rattle.std.proofs.Common.{◌≡◌}
use Rattle.std.specs.List.{list_any}
use Rattle.m2_script.specs.Outcome.{is_down_entry}
use Rattle.m2_script.proofs.ways.says_down.Given as goal

abbrev pub invariant-loop-entry : goal.invariant-loop-entry
invariant-loop-entry l = list_any is_down_entry l.entry-iterator ≡ list_any is_down_entry l.journal.items
