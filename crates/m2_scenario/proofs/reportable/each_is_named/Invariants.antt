-- the nodes so far do
use Rattle.std.proofs.Common.{All, take}
use Rattle.m2_scenario.specs.Printed.{IsNamed}
use Rattle.m2_scenario.proofs.reportable.each_is_named.Given as goal

abbrev pub invariant-loop-node : goal.invariant-loop-node
invariant-loop-node l = All IsNamed (take l.node-index l.nodes)
