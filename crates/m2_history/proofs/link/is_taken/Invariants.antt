use Rattle.std.proofs.Common.{◌≡◌, drop, map}
use Rattle.m2_fabric.specs.Sockets.{is_among}
use Rattle.m2_trail.specs.Trails.{TrailNow, trail_now}
use Rattle.m2_history.proofs.link.is_taken.Given as goal

-- none of those so far
abbrev pub invariant-loop-trail : goal.invariant-loop-trail
invariant-loop-trail l =
    is_among l.socket (map (λ (t : TrailNow). t.socket) (map trail_now (drop l.trail-index l.trails)))
    ≡ is_among l.socket (map (λ (t : TrailNow). t.socket) (map trail_now l.trails))
