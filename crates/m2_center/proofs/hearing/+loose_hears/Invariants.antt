use Rattle.std.proofs.Common.{length}
use Rattle.m2_center.proofs.hearing.+loose_hears.Given as goal

abbrev pub decreases-loose_hears : goal.decreases-loose_hears
decreases-loose_hears g l = length l.loose.now
