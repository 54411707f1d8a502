use Rattle.std.proofs.Common.{◌≡◌, ◌++◌, map, drop}
use Rattle.m2_history.specs.HalfStrands.{strand_of}
use Rattle.m2_trail.specs.Trails.{trail_now}
use Rattle.m2_weave.specs.Strands.{strand_now}
use Rattle.m2_history.proofs.strands.add_halves.Given as goal

-- those so far, and those that are left
abbrev pub invariant-loop-trail : goal.invariant-loop-trail
invariant-loop-trail l =
    map strand_now l.strands.items ++ map strand_of (map trail_now (drop l.trail-index l.trails)) ≡ map strand_now l.initial.strands.items ++ map strand_of (map trail_now l.trails)
