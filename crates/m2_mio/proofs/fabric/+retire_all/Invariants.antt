use Rattle.std.proofs.Common.{length}
use Rattle.m2_mio.proofs.fabric.+retire_all.Given as goal

abbrev pub decreases-retire_all : goal.decreases-retire_all
decreases-retire_all g l = length l.ports.now
