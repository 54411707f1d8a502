-- The nodes so far do.
use Rattle.std.proofs.Common.{take}
use Rattle.std.specs.List.{AllByRecursion}
use Rattle.m2_script.specs.Nodes.{HasNodeRanges}
use Rattle.m2_script.proofs.ranges.keep_ranges.Given as goal

abbrev pub invariant-nodes : goal.invariant-nodes
invariant-nodes l = AllByRecursion HasNodeRanges (take l.node-index l.nodes)
