-- None of those so far is of the socket.
use Rattle.std.proofs.Common.{◌≡◌, drop, map}
use Rattle.m2_promise.specs.m2_script.m2_record.Sources.{trail_at}
use Rattle.m2_trail.specs.Trails.{trail_now}
use Rattle.m2_run_trace.proofs.sockets.trail_on.Given as goal

abbrev pub invariant-loop-trail : goal.invariant-loop-trail
invariant-loop-trail l = trail_at (map trail_now (drop l.trail-index l.trails)) l.socket ≡ trail_at (map trail_now l.trails) l.socket
