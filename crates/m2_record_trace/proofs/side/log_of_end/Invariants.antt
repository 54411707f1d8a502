use Rattle.std.proofs.Common.{◌≡◌, drop}
use Rattle.m2_record_trace.specs.SideNow.{log_in}
use Rattle.m2_record_trace.proofs.side.log_of_end.Given as goal

-- none of those so far is one of the socket
abbrev pub invariant-loop-end : goal.invariant-loop-end
invariant-loop-end l = log_in (drop l.end-index l.ends) l.socket ≡ log_in l.ends l.socket
