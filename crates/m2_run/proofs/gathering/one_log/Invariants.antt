-- The calls so far and those that are left are all.
use Rattle.std.proofs.Common.{◌≡◌, ◌++◌}
use Rattle.m2_run.proofs.gathering.one_log.Given as goal

abbrev pub invariant-calls : goal.invariant-calls
invariant-calls l = l.log.items ++ l.call-iterator.rest.items ≡ l.fn.fast.items ++ l.fn.queued.items
