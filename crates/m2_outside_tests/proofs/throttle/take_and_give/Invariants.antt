-- The pass stays one of the throttle's.
use Rattle.std.proofs.Common.{◌≡◌}
use Rattle.m2_outside_tests.proofs.throttle.take_and_give.Given as goal

abbrev pub invariant-loop : goal.invariant-loop
invariant-loop l = l.pass.place ≡ l.throttle.place
