-- The nodes so far are new ones, one for each word that was given; and there is room for those that are left.
use Rattle.std.proofs.Common.{◌≡◌, ◌+◌, ◌≤◌, length}
use Rattle.m2_script.proofs.SoFar.{AreNewSoFar}
use Rattle.m2_script.proofs.cluster.cluster_of.Given as goal

abbrev pub invariant-nodes : goal.invariant-nodes
invariant-nodes l = record {
  count : length l.cluster.nodes ≡ l.number;
  each : AreNewSoFar l.nodes l.links l.lines l.cluster.nodes;
  words : l.words ≡ l.number;
  room : length l.nodes ≤ l.cluster.room + l.number;
}
