-- The centers so far, and those of the workers that are left, are those of the node; and there is room for them.
use Rattle.std.proofs.Common.{◌+◌, ◌-◌, ◌≤◌, drop, reverse, take}
use Rattle.std.specs.Prelude.{vec_capacity, vec_len}
use Rattle.m2_node.proofs.Workers.{AreJoined}
use Rattle.m2_node.proofs.threads.join_centers.Given as goal

abbrev pub invariant-centers : goal.invariant-centers
invariant-centers g l = record {
  joined : AreJoined l.shares (l.node.centers - l.counter) l.centers.items (reverse l.workers.items) (take l.node.centers (reverse l.fn.workers.items)) (drop l.node.centers (reverse l.fn.workers.items));
  room : l.node.centers ≤ (vec_capacity l.centers - vec_len l.centers) + l.counter;
}
