-- The inboxes of the nodes so far are closed, and those of the others are left.
use Rattle.std.proofs.Common.{reverse}
use Rattle.m2_run.proofs.Closes.{AreClosedSoFar}
use Rattle.m2_run.proofs.inboxes.close_each.Given as goal

abbrev pub invariant-nodes : goal.invariant-nodes
invariant-nodes g l = AreClosedSoFar l.k l.fn.ends l.ends (reverse l.inboxes.items)
