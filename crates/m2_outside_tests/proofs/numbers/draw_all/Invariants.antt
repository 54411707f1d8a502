-- The pass stays one of the counter's.
use Rattle.std.proofs.Common.{◌≡◌}
use Rattle.m2_outside_tests.proofs.numbers.draw_all.Given as goal

abbrev pub invariant-loop : goal.invariant-loop
invariant-loop l = l.pass.place ≡ l.numbers.place
