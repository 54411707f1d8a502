-- There is one less each time.
use Rattle.std.proofs.Common.{length}
use Rattle.m2_run.proofs.ending.throw_away_centers.Given as goal

abbrev pub decreases-centers : goal.decreases-centers
decreases-centers g l = length l.centers.items
