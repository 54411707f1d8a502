use Rattle.std.proofs.Common.{◌≡◌, drop}
use Rattle.m2_fabric.specs.Sockets.{is_among}
use Rattle.m2_record.specs.RecordNow.{ids_of}
use Rattle.m2_record_trace.proofs.connecting.is_spent.Given as goal

-- none of those so far
abbrev pub invariant-loop-end : goal.invariant-loop-end
invariant-loop-end l = is_among l.socket (ids_of (drop l.end-index l.ends)) ≡ is_among l.socket (ids_of l.ends)
