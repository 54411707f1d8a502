-- The rights to put so far are those of all ways but the ones that are left.
use Rattle.std.specs.Prelude.{slice_get}
use Rattle.std.proofs.Common.{◌≡◌}
use Rattle.m2_run.proofs.Apart.{ArePutAway}
use Rattle.m2_run.proofs.ending.end_port.Given as goal

abbrev pub invariant-ways : goal.invariant-ways
invariant-ways g l = record {
  gets : l.rights.gets.items ≡ l.initial.rights.gets.items;
  away : ArePutAway (slice_get g.B.Inboxes.inboxes) l.first l.initial.way-iterator.rest.items l.way-iterator.rest.items l.initial.rights.puts.items l.rights.puts.items;
}
