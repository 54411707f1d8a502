use Rattle.std.proofs.Common.{length}
use Rattle.m2_record.proofs.news.+one_hears.Given as goal

abbrev pub decreases-one_hears : goal.decreases-one_hears
decreases-one_hears g l = length l.ends.now
