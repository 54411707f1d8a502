-- There is one mail less each time.
use Rattle.std.proofs.Common.{length}
use Rattle.m2_node.proofs.mails.let_mails_go.Given as goal

abbrev pub invariant-mails : goal.invariant-mails
invariant-mails l = Unit {0}

abbrev pub decreases-mails : goal.decreases-mails
decreases-mails l = length l.mails.items
