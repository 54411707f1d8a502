use Rattle.std.proofs.Common.{IfSome, Option, subst}
use Rattle.m2_fabric.specs.Kinds.{IsInMemory}
use Rattle.m2_turn.specs.Hearing.{IsHalfInMemory}
use Rattle.m2_turn.specs.Sessions.{PendingNow}
use Rattle.m2_turn.proofs.pending.in_memory_at.Goals as goal

pub returns-in-Some : goal.returns-in-Some
returns-in-Some g c = subst (λ (o : Option PendingNow). IfSome o IsHalfInMemory) c.in-Some.ensures (subst IsHalfInMemory c.pending.view_is (subst IsInMemory c.end.ensures c.is_in_memory.ensures))
