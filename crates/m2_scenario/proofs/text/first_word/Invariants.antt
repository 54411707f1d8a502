-- what was passed has no word
use Rattle.std.proofs.Common.{◌≡◌, ◌≤◌, length}
use Rattle.m2_scenario.specs.Text.{words_of}
use Rattle.m2_scenario.proofs.text.first_word.Given as goal

abbrev pub invariant-spaces : goal.invariant-spaces
invariant-spaces l = record {
  words : words_of l.rest ≡ words_of l.fn.bytes;
  within : length l.rest ≤ length l.fn.bytes;
}

abbrev pub decreases-spaces : goal.decreases-spaces
decreases-spaces l = length l.rest
