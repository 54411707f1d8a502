use Rattle.std.proofs.Common.{length}
use Rattle.m2_fabric.proofs.sim_fabric.SimFabric.+enter_each.Given as goal

abbrev pub decreases-enter_each : goal.decreases-enter_each
decreases-enter_each g l = length l.ids.now
