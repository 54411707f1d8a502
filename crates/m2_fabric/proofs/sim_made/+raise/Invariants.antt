use Rattle.std.proofs.Common.{length}
use Rattle.m2_fabric.proofs.sim_made.+raise.Given as goal

abbrev pub decreases-raise : goal.decreases-raise
decreases-raise l = length l.newest.now
