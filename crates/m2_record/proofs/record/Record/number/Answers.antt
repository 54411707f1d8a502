use Rattle.std.proofs.Common.{refl}
use Rattle.m2_record.proofs.Texts.{numbered-after}
use Rattle.m2_record.proofs.record.Record.number.Goals as goal

pub invariant_of-self : goal.invariant_of-self
invariant_of-self g c = numbered-after _ c.number-answer.new.self _ _ c.number-answer.result c.self.invariant refl c.number-answer.ensures.numbered c.note_numbered.ensures
