use Rattle.std.proofs.Common.{refl}
use Rattle.m2_record.proofs.Texts.{fault-then, shaken}
use Rattle.m2_record.proofs.record.Record.shake.Goals as goal

pub invariant_of-self : goal.invariant_of-self
invariant_of-self g c = shaken _ c.self.invariant c.shake.new.self _ refl c.shake.result c.shake.ensures.shaken

pub returns-clause-fault : goal.returns-clause-fault
returns-clause-fault g c = fault-then _ c.shake.new.self _ c.shake.result c.self.invariant c.shake.ensures.shaken
