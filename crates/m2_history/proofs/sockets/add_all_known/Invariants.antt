use Rattle.std.proofs.Common.{◌≡◌, ◌++◌}
use Rattle.m2_history.specs.Sockets.{known_in}
use Rattle.m2_history.proofs.sockets.add_all_known.Given as goal

-- those so far, and those of what is left
abbrev pub invariant-loop-e : goal.invariant-loop-e
invariant-loop-e l = l.names.items ++ known_in l.e-iterator ≡ l.initial.names.items ++ known_in l.journal.items
