-- With the words that are left it is the whole text.
use Rattle.std.proofs.Common.{◌≡◌, ◌++◌, length}
use Rattle.std.specs.List.{flat_map}
use Rattle.m2_run_trace.specs.Script.{spaced}
use Rattle.m2_run_trace.proofs.script.put_spaced.Given as goal

abbrev pub invariant-words : goal.invariant-words
invariant-words l = l.out.bytes ++ flat_map spaced l.words ≡ l.fn.out.bytes ++ flat_map spaced l.initial.words

abbrev pub decreases-words : goal.decreases-words
decreases-words l = length l.words
