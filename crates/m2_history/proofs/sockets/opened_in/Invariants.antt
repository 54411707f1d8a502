use Rattle.std.proofs.Common.{◌≡◌, ◌++◌}
use Rattle.m2_history.specs.Sockets.{opened_in}
use Rattle.m2_history.proofs.sockets.opened_in.Given as goal

-- those so far, and those of what is left
abbrev pub invariant-loop-e : goal.invariant-loop-e
invariant-loop-e l = l.names.items ++ opened_in l.e-iterator ≡ opened_in l.journal.items
