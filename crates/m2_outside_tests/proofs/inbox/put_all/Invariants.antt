use Rattle.std.proofs.Common.{◌≡◌}
use Rattle.m2_mailbox.specs.Passes.{IsPutPassOf, parts_of}
use Rattle.m2_outside_tests.proofs.inbox.put_all.Given as goal

abbrev pub invariant-loop : goal.invariant-loop
invariant-loop g l = IsPutPassOf l.inbox l.pass × (parts_of l.pass ≡ parts_of l.initial.pass)
