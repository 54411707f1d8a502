-- With those of the records that are left they are all.
use Rattle.std.proofs.Common.{◌≡◌, ◌++◌, drop, length, map}
use Rattle.m2_promise.specs.m2_script.m2_record.RecordNow.{RecordNow}
use Rattle.m2_run_trace.proofs.marks.journal_marks.Given as goal

abbrev pub invariant-loop-record : goal.invariant-loop-record
invariant-loop-record l =
    let counts = map (λ (r : RecordNow). length r.journal) in l.marks.items ++ counts (drop l.record-index l.center.records) ≡ counts l.center.records
