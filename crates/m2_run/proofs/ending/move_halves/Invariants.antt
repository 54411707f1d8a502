-- The halves so far and those that are left are all.
use Rattle.std.proofs.Common.{◌≡◌, ◌++◌}
use Rattle.m2_run.proofs.ending.move_halves.Given as goal

abbrev pub invariant-halves : goal.invariant-halves
invariant-halves g l = l.into.items ++ l.half-iterator.rest.items ≡ l.initial.into.items ++ l.initial.half-iterator.rest.items
