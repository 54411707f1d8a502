-- With the lines of what is left it is the whole text.
use Rattle.std.proofs.Common.{◌≡◌, ◌++◌, ◌-◌}
use Rattle.m2_fabric.specs.Log.{log_of}
use Rattle.m2_run_trace.specs.Ends.{run_lines}
use Rattle.m2_run_trace.proofs.ends.put_runs.Given as goal

abbrev pub invariant-runs : goal.invariant-runs
invariant-runs l =
    let lines = run_lines l.teller l.socket (log_of l.log) in
    l.out.bytes ++ lines l.at (l.to - l.at) ≡ l.fn.out.bytes ++ lines l.from (l.to - l.from)
