use Rattle.std.proofs.Common.{subst}
use Rattle.m2_shared.specs.Gates.{Return}
use Rattle.m2_center.proofs.Planned.{on_ok, planned_stays, returned_new, took_new, top_planned}
use Rattle.m2_center.proofs.planning.plan_at.Goals as goal

pub returns-clause-plans : goal.returns-clause-plans
returns-clause-plans g c =
    took_new c.args.side.now c.reserve.new.self c.add_step.new.side c.args.step c.is_record.ensures c.requires.taken c.reserve.ensures.only c.in_ok-add_step.ensures.ok
    c.take_next.new.side c.take_next.result c.args.now c.take_next.ensures.taken

pub returns-clause-stays : goal.returns-clause-stays
returns-clause-stays g c =
    planned_stays c.args.side.now c.take_next.new.side c.args.step c.take_next.result c.args.now c.is_record.ensures c.take_next.ensures.is_record
    (took_new c.args.side.now c.reserve.new.self c.add_step.new.side c.args.step c.is_record.ensures c.requires.taken c.reserve.ensures.only c.in_ok-add_step.ensures.ok
    c.take_next.new.side c.take_next.result c.args.now c.take_next.ensures.taken)

pub returns-clause-top : goal.returns-clause-top
returns-clause-top g c =
    top_planned c.args.side.now c.take_next.new.side c.args.step c.take_next.result c.args.now
    (took_new c.args.side.now c.reserve.new.self c.add_step.new.side c.args.step c.is_record.ensures c.requires.taken c.reserve.ensures.only c.in_ok-add_step.ensures.ok
    c.take_next.new.side c.take_next.result c.args.now c.take_next.ensures.taken)

pub returns-clause-word : goal.returns-clause-word
returns-clause-word g c =
    on_ok c.take_next.result
    (subst (λ n. Return n c.args.work.now.throttles.now c.args.work.now.passes.now c.take_next.new.work.passes.now)
    (returned_new c.args.side.now c.reserve.new.self c.add_step.new.side c.args.step c.is_record.ensures c.requires.taken c.reserve.ensures.only c.in_ok-add_step.ensures.ok)
    c.take_next.ensures.word)
