-- the options so far, and those of the words that are left, are all
use Rattle.std.proofs.Common.{◌≡◌, ◌≤◌, length}
use Rattle.m2_scenario_text.specs.NodeOption.{options_in}
use Rattle.m2_scenario_text.proofs.Options.{and_then}
use Rattle.m2_scenario_text.proofs.node_option.options.Given as goal

abbrev pub invariant-options : goal.invariant-options
invariant-options l = record {
  all : and_then l.given.items (options_in l.count l.words) ≡ options_in l.count l.fn.words;
  within : length l.words ≤ l.count;
}

abbrev pub decreases-options : goal.decreases-options
decreases-options l = length l.words
