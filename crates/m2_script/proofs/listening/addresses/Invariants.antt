-- The addresses so far are those of the nodes so far.
use Rattle.std.proofs.Common.{◌≡◌, map, take}
use Rattle.m2_script.specs.Nodes.{address_of}
use Rattle.m2_script.proofs.listening.addresses.Given as goal

abbrev pub invariant-loop-node : goal.invariant-loop-node
invariant-loop-node l = l.addrs.items ≡ map address_of (take l.node-index l.nodes)
