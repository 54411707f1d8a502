use Rattle.std.proofs.Common.{◌≡◌, drop, map}
use Rattle.m2_fabric.specs.Sockets.{is_among}
use Rattle.m2_trail.specs.Arrivals.{LooseNow}
use Rattle.m2_history.proofs.link.is_left.Given as goal

-- none of those so far
abbrev pub invariant-loop-half : goal.invariant-loop-half
invariant-loop-half g l = let sockets = map (λ (h : LooseNow). h.trail.socket) in is_among l.socket (sockets (drop l.half-index l.loose)) ≡ is_among l.socket (sockets l.loose)
