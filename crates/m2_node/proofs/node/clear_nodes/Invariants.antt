-- There is one node less each time.
use Rattle.std.proofs.Common.{length}
use Rattle.m2_node.proofs.node.clear_nodes.Given as goal

abbrev pub decreases-nodes : goal.decreases-nodes
decreases-nodes g l = length l.nodes.items
