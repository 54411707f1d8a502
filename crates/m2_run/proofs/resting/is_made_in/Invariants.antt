-- It is among all where it is among those from here on.
use Rattle.std.proofs.Common.{◌≡◌, drop}
use Rattle.m2_fabric.specs.Sockets.{is_among}
use Rattle.m2_run.specs.Opened.{made_in}
use Rattle.m2_run.proofs.resting.is_made_in.Given as goal

abbrev pub invariant-centers : goal.invariant-centers
invariant-centers g l = is_among l.id (made_in l.centers) ≡ is_among l.id (made_in (drop l.center-index l.centers))
