-- with the lines of what is left it is the whole text
use Rattle.std.proofs.Common.{◌≡◌, ◌++◌, drop}
use Rattle.std.specs.List.{flat_map}
use Rattle.m2_trace.specs.Ends.{run_line}
use Rattle.m2_trace.proofs.ends.put_runs.Given as goal

abbrev pub invariant-loop-run : goal.invariant-loop-run
invariant-loop-run l = let lines = flat_map (run_line l.side l.what l.socket) in l.out.bytes ++ lines (drop l.run-index l.runs) ≡ l.fn.out.bytes ++ lines l.runs
