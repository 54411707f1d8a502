-- The calls so far and those that are left are all.
use Rattle.std.proofs.Common.{◌≡◌, ◌++◌}
use Rattle.m2_script.proofs.turns.move_rest.Given as goal

abbrev pub invariant-loop-call : goal.invariant-loop-call
invariant-loop-call l = l.into.items ++ l.call-iterator.rest.items ≡ l.initial.into.items ++ l.initial.call-iterator.rest.items
