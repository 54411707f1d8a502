-- With what is said of the records that are left it is all that is said.
use Rattle.std.proofs.Common.{◌≡◌, ◌++◌, ◌-◌, length}
use Rattle.m2_run_trace.specs.Standing.{changed_lines}
use Rattle.m2_run_trace.proofs.standing.put_all_changed.Given as goal

abbrev pub invariant-records : goal.invariant-records
invariant-records l =
    let count = length l.teller.center.records in
    l.out.bytes ++ changed_lines l.teller l.olds l.place (count - l.place) ≡ l.fn.out.bytes ++ changed_lines l.teller l.olds 0 count
