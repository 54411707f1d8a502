use Rattle.std.proofs.Common.{refl}
use Rattle.m2_record.proofs.Texts.{answered}
use Rattle.m2_record.proofs.record.Record.answer_keepalive.Goals as goal

pub invariant_of-self : goal.invariant_of-self
invariant_of-self g c = answered _ c.self.invariant c.answer_keepalive.new.self _ refl c.answer_keepalive.result c.answer_keepalive.ensures.answered
