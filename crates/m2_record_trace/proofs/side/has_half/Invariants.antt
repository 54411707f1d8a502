use Rattle.std.proofs.Common.{◌≡◌, drop}
use Rattle.std.specs.List.{list_any}
use Rattle.m2_fabric.specs.Sockets.{same_socket}
use Rattle.m2_trail.specs.Incoming.{IncomingNow}
use Rattle.m2_record_trace.proofs.side.has_half.Given as goal

-- none of those so far
abbrev pub invariant-loop-half : goal.invariant-loop-half
invariant-loop-half l =
    list_any (λ (v : IncomingNow). same_socket l.socket v.end.id) (drop l.half-index l.halves) ≡ list_any (λ (v : IncomingNow). same_socket l.socket v.end.id) l.halves
