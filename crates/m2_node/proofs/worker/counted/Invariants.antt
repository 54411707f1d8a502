-- Those so far and those that are left are all.
use Rattle.std.proofs.Common.{◌≤◌, drop}
use Rattle.m2_node.specs.Counting.{count_in, most}
use Rattle.m2_node.proofs.Counted.{CountedSoFar}
use Rattle.m2_node.proofs.worker.counted.Given as goal

abbrev pub invariant-calls : goal.invariant-calls
invariant-calls l = record {
  counted : CountedSoFar l.counts l.log l.k l.count (count_in l.counts (drop l.fn.from l.log));
  below : l.count ≤ most;
}
