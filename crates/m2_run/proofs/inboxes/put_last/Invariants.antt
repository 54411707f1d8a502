use Rattle.std.proofs.Common.{◌≡◌, ◌++◌}
use Rattle.m2_run.proofs.inboxes.put_last.Given as goal

abbrev pub invariant-halves : goal.invariant-halves
invariant-halves g l = l.into.items ++ l.half-iterator.rest.items ≡ l.fn.into.items ++ l.fn.halves.items
