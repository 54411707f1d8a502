use Rattle.std.proofs.Common.{length}
use Rattle.m2_fabric.proofs.pair.+add.Given as goal

abbrev pub decreases-add : goal.decreases-add
decreases-add l = length l.pairs.now
