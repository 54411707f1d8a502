use Rattle.std.proofs.Common.{◌≡◌, length}
use Rattle.m2_weave.proofs.users.no_users.Given as goal

abbrev pub invariant-loop : goal.invariant-loop
invariant-loop l = length l.users.items ≡ l.counter
