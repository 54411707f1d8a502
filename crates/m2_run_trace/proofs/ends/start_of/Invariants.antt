-- The runs that are left put the bytes before this place.
use Rattle.std.proofs.Common.{◌≡◌, ◌-◌, drop}
use Rattle.m2_trail.specs.Trails.{written_by}
use Rattle.m2_run_trace.proofs.ends.start_of.Given as goal

abbrev pub invariant-loop-run : goal.invariant-loop-run
invariant-loop-run l = l.start - written_by (drop l.run-index l.runs) ≡ l.fn.put - written_by l.runs
