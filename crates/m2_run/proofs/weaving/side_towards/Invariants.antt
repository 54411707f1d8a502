-- The first side of all is the first from here on.
use Rattle.std.proofs.Common.{◌≡◌, drop}
use Rattle.m2_run.specs.Weaving.{side_towards}
use Rattle.m2_run.proofs.weaving.side_towards.Given as goal

abbrev pub invariant-centers : goal.invariant-centers
invariant-centers g l = side_towards l.peer l.centers ≡ side_towards l.peer (drop l.center-index l.centers)
