-- with the lines of what is left it is the whole text
use Rattle.std.proofs.Common.{◌≡◌, ◌++◌, codes, drop, map}
use Rattle.std.specs.List.{flat_map}
use Rattle.m2_trace.specs.Ends.{trail_lines}
use Rattle.m2_trail.specs.Trails.{trail_now}
use Rattle.m2_record_trace.proofs.text.put_trails.Given as goal

abbrev pub invariant-loop-trail : goal.invariant-loop-trail
invariant-loop-trail l =
    let lines = flat_map (trail_lines l.side (codes "trail")) in
    l.out.bytes ++ lines (map trail_now (drop l.trail-index l.trails)) ≡ l.fn.out.bytes ++ lines (map trail_now l.trails)
