use Rattle.std.proofs.Common.{length}
use Rattle.m2_script.proofs.ending.throw_away.Given as goal

abbrev pub decreases-nodes : goal.decreases-nodes
decreases-nodes g l = length l.cluster.nodes
