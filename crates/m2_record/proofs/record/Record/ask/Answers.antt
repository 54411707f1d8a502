use Rattle.std.proofs.Common.{refl}
use Rattle.m2_record.proofs.Dues.{ask-may}
use Rattle.m2_record.proofs.Texts.{asked-after}
use Rattle.m2_record.proofs.record.Record.ask.Goals as goal

pub invariant_of-self : goal.invariant_of-self
invariant_of-self g c = asked-after _ c.ask-answer.new.self _ _ c.ask-answer.result c.self.invariant refl c.ask-answer.ensures.asked c.ask-answer.ensures.leaves c.note_asked.ensures

pub ask-answer-requires-clause-may : goal.ask-answer-requires-clause-may
ask-answer-requires-clause-may g c = ask-may _ _ c.self.invariant c.self.view_is c.requires.due c.requires.quiet c.requires.fits
