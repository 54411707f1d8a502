use Rattle.std.proofs.Common.{length}
use Rattle.m2_node.proofs.rooms.let_inboxes_go.Given as goal

abbrev pub invariant-inboxes : goal.invariant-inboxes
invariant-inboxes g l = Unit {0}

abbrev pub decreases-inboxes : goal.decreases-inboxes
decreases-inboxes g l = length l.inboxes.items
