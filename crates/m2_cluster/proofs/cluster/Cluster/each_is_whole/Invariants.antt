use Rattle.std.specs.Prelude.{take}
use Rattle.std.specs.List.{All}
use Rattle.m2_cluster.specs.Node.{IsWholeNode}
use Rattle.m2_cluster.proofs.cluster.Cluster.each_is_whole.Given as goal

-- so far
abbrev pub invariant-nodes : goal.invariant-nodes
invariant-nodes g l = All IsWholeNode (take l.node-index l.nodes)
