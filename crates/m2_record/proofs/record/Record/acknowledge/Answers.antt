use Rattle.std.proofs.Common.{refl}
use Rattle.m2_record.proofs.Texts.{acknowledged}
use Rattle.m2_record.proofs.record.Record.acknowledge.Goals as goal

pub invariant_of-self : goal.invariant_of-self
invariant_of-self g c = acknowledged _ c.self.invariant c.acknowledge.new.self _ refl c.acknowledge.result c.acknowledge.ensures.acknowledged
