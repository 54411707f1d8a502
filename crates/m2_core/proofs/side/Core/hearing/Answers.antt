use Rattle.m2_core.proofs.Taken.{fault_at}
use Rattle.m2_core.proofs.side.Core.hearing.Goals as goal

pub returns-clause-fault : goal.returns-clause-fault
returns-clause-fault g c = fault_at c.laws_of_hearing.ensures.finds c.laws_of_hearing.ensures.frames _ _ _ c.self.view_is c.hearing.ensures.value
