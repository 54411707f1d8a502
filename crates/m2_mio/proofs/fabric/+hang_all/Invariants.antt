use Rattle.std.proofs.Common.{length}
use Rattle.m2_mio.proofs.fabric.+hang_all.Given as goal

abbrev pub decreases-hang_all : goal.decreases-hang_all
decreases-hang_all g l = length l.ports.now
