-- The nodes that are left, and what those had that are ended, the last one first, are all; and there is room for all.
use Rattle.std.proofs.Common.{◌≡◌, ◌-◌, ◌≤◌, ◌++◌, length, map, reverse}
use Rattle.std.specs.Prelude.{vec_capacity, vec_len}
use Rattle.m2_script.specs.Ended.{both_in, both_of}
use Rattle.m2_script.proofs.ending.end_all.Given as goal

abbrev pub invariant-nodes : goal.invariant-nodes
invariant-nodes g l = record {
  all : map both_of l.cluster.nodes ++ map both_in (reverse l.all.items) ≡ map both_of l.fn.cluster.nodes;
  room : length l.cluster.nodes ≤ vec_capacity l.all - vec_len l.all;
}

abbrev pub decreases-nodes : goal.decreases-nodes
decreases-nodes g l = length l.cluster.nodes
