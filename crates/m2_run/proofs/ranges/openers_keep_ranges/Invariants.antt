-- The openers so far do.
use Rattle.std.proofs.Common.{take}
use Rattle.std.specs.List.{AllByRecursion}
use Rattle.m2_trail.specs.Trails.{trail_now}
use Rattle.m2_run.specs.Types.{HasOpenerRanges}
use Rattle.m2_run.proofs.ranges.openers_keep_ranges.Given as goal

abbrev pub invariant-trails : goal.invariant-trails
invariant-trails l = AllByRecursion (λ t. HasOpenerRanges (trail_now t)) (take l.trail-index l.trails)
