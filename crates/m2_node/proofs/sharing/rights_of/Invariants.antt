-- Of the nodes so far there are rights, and the first passes are as they were.
use Rattle.std.proofs.Common.{◌≡◌, take}
use Rattle.m2_node.specs.Sharing.{AreRights}
use Rattle.m2_node.proofs.sharing.rights_of.Given as goal

abbrev pub invariant-nodes : goal.invariant-nodes
invariant-nodes l = record {
  same : l.passes.items ≡ l.fn.passes.items;
  rights : AreRights (take l.k l.shares) l.rights.items;
}
