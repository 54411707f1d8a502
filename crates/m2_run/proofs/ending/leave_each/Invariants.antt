-- The halves so far and those that are left are all.
use Rattle.std.proofs.Common.{◌≡◌, ◌++◌, map}
use Rattle.m2_run.specs.Opened.{untold}
use Rattle.m2_run.proofs.ending.leave_each.Given as goal

abbrev pub invariant-halves : goal.invariant-halves
invariant-halves g l = l.into.items ++ map untold l.half-iterator.rest.items ≡ l.initial.into.items ++ map untold l.initial.half-iterator.rest.items
