-- The threads of the nodes so far share these.
use Rattle.std.proofs.Common.{take}
use Rattle.m2_node.specs.Sharing.{AreSharesOf}
use Rattle.m2_node.proofs.sharing.shared_by.Given as goal

abbrev pub invariant-nodes : goal.invariant-nodes
invariant-nodes l = AreSharesOf (take l.node-index l.nodes) l.of.shares.items l.of.passes.items
