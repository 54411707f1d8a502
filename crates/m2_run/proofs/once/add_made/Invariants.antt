-- Those of the threads so far stand last.
use Rattle.std.proofs.Common.{◌≡◌, ◌++◌, take}
use Rattle.m2_run.specs.Opened.{made_in}
use Rattle.m2_run.proofs.once.add_made.Given as goal

abbrev pub invariant-centers : goal.invariant-centers
invariant-centers g l = l.into.items ≡ l.fn.into.items ++ made_in (take l.center-index l.centers)
