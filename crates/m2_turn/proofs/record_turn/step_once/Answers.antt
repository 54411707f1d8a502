use Rattle.std.proofs.Common.{ap, refl}
use Rattle.m2_record.specs.declared.stepped.Stepped.TheVariants as stepped
use Rattle.m2_record.specs.RecordNow.{RecordNow}
use Rattle.m2_turn.proofs.Handed.{steps}
use Rattle.m2_turn.proofs.Known.{step_stays}
use Rattle.m2_turn.proofs.MoreHanded.{says_hand, says_same}
use Rattle.m2_turn.proofs.record_turn.step_once.Goals as goal

pub returns-in-Moved-clause-stays : goal.returns-in-Moved-clause-stays
returns-in-Moved-clause-stays g c = step_stays _ _ c.args.side.now c.step-stepped.new.self c.step-stepped.ensures.steps c.is_record.ensures c.is_record-2.ensures

pub returns-in-Hand-clause-stays : goal.returns-in-Hand-clause-stays
returns-in-Hand-clause-stays g c = step_stays _ _ c.args.side.now c.step-stepped.new.self c.step-stepped.ensures.steps c.is_record.ensures c.is_record-2.ensures

pub returns-in-Dry-clause-stays : goal.returns-in-Dry-clause-stays
returns-in-Dry-clause-stays g c = step_stays _ _ c.args.side.now c.step-stepped.new.self c.step-stepped.ensures.steps c.is_record.ensures c.is_record-2.ensures

pub returns-in-Full-clause-stays : goal.returns-in-Full-clause-stays
returns-in-Full-clause-stays g c = step_stays _ _ c.args.side.now c.step-stepped.new.self c.step-stepped.ensures.steps c.is_record.ensures c.is_record-2.ensures

pub returns-in-Again-clause-stays : goal.returns-in-Again-clause-stays
returns-in-Again-clause-stays g c = step_stays _ _ c.args.side.now c.step-stepped.new.self c.step-stepped.ensures.steps c.is_record.ensures c.is_record-2.ensures

pub returns-in-Spent-clause-stays : goal.returns-in-Spent-clause-stays
returns-in-Spent-clause-stays g c = step_stays _ _ c.args.side.now c.step-stepped.new.self c.step-stepped.ensures.steps c.is_record.ensures c.is_record-2.ensures

pub returns-in-Faulted-clause-stays : goal.returns-in-Faulted-clause-stays
returns-in-Faulted-clause-stays g c = step_stays _ _ c.args.side.now c.step-stepped.new.self c.step-stepped.ensures.steps c.is_record.ensures c.is_record-2.ensures

pub returns-in-Moved-clause-handed : goal.returns-in-Moved-clause-handed
returns-in-Moved-clause-handed g c = says_same c.args.handed.now _ _ (steps stepped.Moved _ c.args.side.now c.step-stepped.new.self refl c.in-Moved.ensures.steps)

pub returns-in-Dry-clause-handed : goal.returns-in-Dry-clause-handed
returns-in-Dry-clause-handed g c = says_same c.args.handed.now _ _ (steps stepped.Dry _ c.args.side.now c.step-stepped.new.self refl c.in-Dry.ensures.steps)

pub returns-in-Full-clause-handed : goal.returns-in-Full-clause-handed
returns-in-Full-clause-handed g c = says_same c.args.handed.now _ _ (steps (stepped.Full c.in-Full.stage c.in-Full.held) _ c.args.side.now c.step-stepped.new.self refl c.in-Full.ensures.steps)

pub returns-in-Again-clause-handed : goal.returns-in-Again-clause-handed
returns-in-Again-clause-handed g c = says_same c.args.handed.now _ _ (steps (stepped.Again c.in-Again.stage c.in-Again.seen c.in-Again.now) _ c.args.side.now c.step-stepped.new.self refl c.in-Again.ensures.steps)

pub returns-in-Spent-clause-handed : goal.returns-in-Spent-clause-handed
returns-in-Spent-clause-handed g c = says_same c.args.handed.now _ _ (steps stepped.Spent _ c.args.side.now c.step-stepped.new.self refl c.in-Spent.ensures.steps)

pub returns-in-Faulted-clause-handed : goal.returns-in-Faulted-clause-handed
returns-in-Faulted-clause-handed g c = says_same c.args.handed.now _ _ (steps (stepped.Faulted c.in-Faulted.cause) _ c.args.side.now c.step-stepped.new.self refl c.in-Faulted.ensures.steps)

pub returns-in-NoMemory-clause-handed : goal.returns-in-NoMemory-clause-handed
returns-in-NoMemory-clause-handed g c = says_same c.args.handed.now c.args.side.now.handed c.step-stepped.new.self.handed (ap (λ (r : RecordNow). r.handed) c.in-NoMemory.ensures.steps.nothing.only)

pub returns-in-Hand-clause-handed : goal.returns-in-Hand-clause-handed
returns-in-Hand-clause-handed g c = says_hand c.args.handed.now c.in-Hand.parcel _ c.args.side.now c.step-stepped.new.self refl c.in-Hand.ensures.steps
