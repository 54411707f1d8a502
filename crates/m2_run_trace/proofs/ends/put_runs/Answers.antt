-- One read or write more.
use Rattle.std.proofs.Common.{drop}
use Rattle.m2_fabric.specs.Log.{log_of}
use Rattle.m2_run_trace.specs.Ends.{run_line}
use Rattle.m2_run_trace.proofs.Lines.{next_run, one_done}
use Rattle.m2_run_trace.proofs.ends.put_runs.Goals as goal

pub runs-preserved : goal.runs-preserved
runs-preserved c =
    let l = c.runs in
    let log = log_of c.args.log.now in
    one_done c.put_run.new.out.bytes l.out.bytes (run_line c.args.teller.now c.args.socket.now log.put (drop l.at log.runs)) _ _ _
    (rw (c.as_slice.ensures, c.behind.ensures, c.as_slice-in-runs.ensures) at c.in_ok-put_run.ensures)
    (next_run c.args.teller.now c.args.socket.now log l.at c.args.to c.runs-test.true) l.invariant
