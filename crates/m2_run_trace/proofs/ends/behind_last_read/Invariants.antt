-- With the runs that are left it is the last of all.
use Rattle.std.proofs.Common.{◌≡◌, drop}
use Rattle.m2_run_trace.specs.Ends.{behind_read}
use Rattle.m2_run_trace.proofs.ends.behind_last_read.Given as goal

abbrev pub invariant-runs : goal.invariant-runs
invariant-runs l = behind_read (drop l.place l.runs) l.place l.last ≡ behind_read (drop l.from l.runs) l.from l.from
