use Rattle.std.proofs.Common.{refl}
use Rattle.m2_record.proofs.DueSteps.{same-nothing}
use Rattle.m2_record.proofs.Handed.{handed_owned}
use Rattle.m2_record.proofs.Reached.{due-reached}
use Rattle.m2_record.proofs.Wanting.{step-at}
use Rattle.m2_record.proofs.record.Record.step.Goals as goal

pub returns-in-Ok-clause-steps : goal.returns-in-Ok-clause-steps
returns-in-Ok-clause-steps g c = step-at c.take_due.result _ c.args.self.now c.reserve.new.self c.take_due.new.self refl c.reserve.ensures.only c.take_due.ensures.due c.take_due.ensures.memory

pub returns-in-Err-clause-steps : goal.returns-in-Err-clause-steps
returns-in-Err-clause-steps g c = record { nothing = same-nothing c.args.self.now c.reserve.new.self c.reserve.ensures.only; bytes = λ gate alone. refl; numbers = refl }

pub returns-in-Ok-clause-handed : goal.returns-in-Ok-clause-handed
returns-in-Ok-clause-handed g c = handed_owned _ _ c.args.self.now c.reserve.new.self c.take_due.new.self c.reserve.ensures.only c.requires.owned c.take_due.ensures.due

pub returns-in-Ok-clause-reached : goal.returns-in-Ok-clause-reached
returns-in-Ok-clause-reached g c = due-reached _ c.reserve.new.self c.take_due.new.self c.take_due.ensures.due

pub returns-in-Err-clause-reached : goal.returns-in-Err-clause-reached
returns-in-Err-clause-reached g c n fits h = h
