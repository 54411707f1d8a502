-- There are those of one node less each time.
use Rattle.std.proofs.Common.{length}
use Rattle.m2_node.proofs.node.clear_shares.Given as goal

abbrev pub decreases-nodes : goal.decreases-nodes
decreases-nodes l = length l.shares.items
