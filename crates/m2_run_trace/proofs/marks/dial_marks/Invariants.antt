-- With those of the records that are left they are all.
use Rattle.std.proofs.Common.{◌≡◌, ◌++◌, drop, map}
use Rattle.m2_run_trace.specs.Dials.{dial_mark_of}
use Rattle.m2_run_trace.proofs.marks.dial_marks.Given as goal

abbrev pub invariant-loop-record : goal.invariant-loop-record
invariant-loop-record l = l.marks.items ++ map dial_mark_of (drop l.record-index l.center.records) ≡ map dial_mark_of l.center.records
