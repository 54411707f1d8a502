-- The calls so far and those that are left are all.
use Rattle.std.proofs.Common.{◌≡◌, ◌++◌}
use Rattle.m2_run.proofs.gathering.add_log.Given as goal

abbrev pub invariant-calls : goal.invariant-calls
invariant-calls l = l.into.items ++ l.call-iterator.rest.items ≡ l.initial.into.items ++ l.initial.call-iterator.rest.items
