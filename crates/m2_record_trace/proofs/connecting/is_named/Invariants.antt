use Rattle.std.proofs.Common.{◌≡◌}
use Rattle.m2_fabric.specs.Sockets.{is_among}
use Rattle.m2_record.specs.IsRecord.{named_in}
use Rattle.m2_record_trace.proofs.connecting.is_named.Given as goal

-- none of those so far
abbrev pub invariant-loop-e : goal.invariant-loop-e
invariant-loop-e l = is_among l.socket (named_in l.e-iterator) ≡ is_among l.socket (named_in l.journal.items)
