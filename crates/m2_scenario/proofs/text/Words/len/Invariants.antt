-- the words counted and the words left are all; a word takes a byte at least
use Rattle.std.proofs.Common.{◌≡◌, ◌+◌, ◌≤◌, length}
use Rattle.m2_scenario.specs.Text.{words_of}
use Rattle.m2_scenario.proofs.text.Words.len.Given as goal

abbrev pub invariant-words : goal.invariant-words
invariant-words l = record {
  all : l.count + length (words_of l.rest) ≡ length l.fn.self;
  within : l.count + length l.rest ≤ l.bytes;
}

abbrev pub decreases-words : goal.decreases-words
decreases-words l = length l.rest
