use Rattle.m2_mailbox.specs.Passes.{IsGetPassOf}
use Rattle.m2_outside_tests.proofs.inbox.take_all.Given as goal

abbrev pub invariant-loop : goal.invariant-loop
invariant-loop g l = IsGetPassOf l.inbox l.pass
