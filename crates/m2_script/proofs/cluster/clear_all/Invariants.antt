-- There is one node less each time.
use Rattle.std.proofs.Common.{length}
use Rattle.m2_script.proofs.cluster.clear_all.Given as goal

abbrev pub decreases-nodes : goal.decreases-nodes
decreases-nodes l = length l.cluster.nodes
