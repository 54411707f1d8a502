use Rattle.std.proofs.Common.{length}
use Rattle.m2_run_trace.proofs.sockets.+trail_in.Given as goal

abbrev pub decreases-trail_in : goal.decreases-trail_in
decreases-trail_in g l = length l.records.now
