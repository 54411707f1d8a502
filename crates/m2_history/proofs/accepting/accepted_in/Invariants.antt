use Rattle.std.proofs.Common.{◌≡◌, ◌≤◌, ◌+◌, length}
use Rattle.m2_history.specs.Counted.{accepted}
use Rattle.m2_history.proofs.accepting.accepted_in.Given as goal

-- those so far, and those of what is left
abbrev pub invariant-loop-e : goal.invariant-loop-e
invariant-loop-e l = record {
  count : l.count + accepted l.key l.e-iterator ≡ accepted l.key l.journal.items;
  few : l.count + length l.e-iterator ≤ length l.journal.items;
}
