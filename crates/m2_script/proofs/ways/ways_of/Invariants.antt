-- The ways so far, and those over the links that are left, are all.
use Rattle.std.proofs.Common.{◌≡◌, [], ◌++◌, drop}
use Rattle.std.specs.Prelude.{flat_map}
use Rattle.m2_script.specs.Ended.{ended}
use Rattle.m2_script.specs.Ways.{ways_over}
use Rattle.m2_script.proofs.ways.ways_of.Given as goal

abbrev pub invariant-loop-link : goal.invariant-loop-link
invariant-loop-link g l = l.ways.items ++ flat_map (ways_over (ended l.cluster [])) (drop l.link-index l.links) ≡ flat_map (ways_over (ended l.cluster [])) l.links
