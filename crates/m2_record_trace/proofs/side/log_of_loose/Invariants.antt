use Rattle.std.proofs.Common.{◌≡◌, drop, map}
use Rattle.m2_trail.specs.Arrivals.{LooseNow}
use Rattle.m2_record_trace.specs.SideNow.{log_in}
use Rattle.m2_record_trace.proofs.side.log_of_loose.Given as goal

-- none of those so far is one of the socket
abbrev pub invariant-loop-half : goal.invariant-loop-half
invariant-loop-half l = let ends = map (λ (h : LooseNow). h.end) in log_in (ends (drop l.half-index l.loose)) l.socket ≡ log_in (ends l.loose) l.socket
