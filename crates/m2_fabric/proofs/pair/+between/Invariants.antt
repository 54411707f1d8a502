use Rattle.std.proofs.Common.{length}
use Rattle.m2_fabric.proofs.pair.+between.Given as goal

abbrev pub decreases-between : goal.decreases-between
decreases-between l = length l.pairs.now
