use Rattle.std.proofs.Common.{length}
use Rattle.m2_fabric.proofs.sim_port.+one_hears.Given as goal

abbrev pub decreases-one_hears : goal.decreases-one_hears
decreases-one_hears l = length l.ends.now
