-- The nodes so far, and those of the workers that are left, are all; and there is room for them.
use Rattle.std.proofs.Common.{◌≡◌, ◌+◌, ◌-◌, ◌≤◌, ◌++◌, drop, length, reverse}
use Rattle.std.specs.Prelude.{vec_capacity, vec_len}
use Rattle.m2_node.specs.Posts.{AreDispatched}
use Rattle.m2_node.specs.Working.{AreGrouped, nodes_of_workers}
use Rattle.m2_node.proofs.threads.join_nodes.Given as goal

abbrev pub invariant-nodes : goal.invariant-nodes
invariant-nodes g l = record {
  so_far : l.all.items ++ nodes_of_workers (drop l.k l.nodes) (drop l.k l.shares) (reverse l.workers.items) ≡ nodes_of_workers l.nodes l.shares (reverse l.fn.workers.items);
  left : AreGrouped (drop l.k l.nodes) (drop l.k l.shares) (reverse l.workers.items);
  dispatched : AreDispatched (drop l.k l.nodes) (drop l.k l.shares) (reverse l.workers.items) (reverse l.dispatchers.items);
  room : length l.nodes ≤ (vec_capacity l.all - vec_len l.all) + l.k;
}
