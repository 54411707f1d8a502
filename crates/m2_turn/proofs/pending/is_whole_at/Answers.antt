use Rattle.std.proofs.Common.{IfSome, Option, subst}
use Rattle.m2_turn.specs.Halves.{IsWholeHere}
use Rattle.m2_turn.specs.Sessions.{PendingNow}
use Rattle.m2_turn.proofs.pending.is_whole_at.Goals as goal

pub returns-in-Some : goal.returns-in-Some
returns-in-Some g c = subst (λ (o : Option PendingNow). IfSome o IsWholeHere) c.in-Some.ensures (subst IsWholeHere c.pending.view_is c.is_whole.ensures.whole)
