-- The entries that are left put the bytes before this place.
use Rattle.std.proofs.Common.{◌≡◌, ◌-◌}
use Rattle.m2_journal.specs.Items.{runs_on}
use Rattle.m2_trail.specs.Trails.{written_by}
use Rattle.m2_run_trace.proofs.entries.start_on.Given as goal

abbrev pub invariant-loop-entry : goal.invariant-loop-entry
invariant-loop-entry l = l.start - written_by (runs_on l.socket l.entry-iterator) ≡ l.fn.put - written_by (runs_on l.socket l.fn.entries)
