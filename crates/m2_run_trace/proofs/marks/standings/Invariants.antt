-- With those of the records that are left they are all.
use Rattle.std.proofs.Common.{◌≡◌, ◌++◌, drop, map}
use Rattle.m2_run_trace.specs.Standing.{standing_of}
use Rattle.m2_run_trace.proofs.marks.standings.Given as goal

abbrev pub invariant-loop-record : goal.invariant-loop-record
invariant-loop-record l = l.marks.items ++ map standing_of (drop l.record-index l.center.records) ≡ map standing_of l.center.records
