-- The nodes so far have theirs.
use Rattle.std.proofs.Common.{◌≡◌, ℕ, ◌<◌, length}
use Rattle.m2_run.specs.Cuts.{cuts_at}
use Rattle.m2_node.specs.m2_script.Nodes.{cuts_of}
use Rattle.m2_run.proofs.cuts.cuts_of_all.Given as goal

abbrev pub invariant-nodes : goal.invariant-nodes
invariant-nodes l = record {
  count : length l.all.items ≡ l.k;
  each : (j : ℕ) → j < l.k → cuts_at l.all.items j ≡ cuts_of l.nodes l.lines j;
}
