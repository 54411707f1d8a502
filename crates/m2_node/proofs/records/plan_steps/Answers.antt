-- One step more, and at the end all.
use Rattle.std.proofs.Common.{◌≡◌, ◌∙◌, [], ◌∷◌, sym, subst, arith}
use Rattle.std.specs.List.{AllByRecursion}
use Rattle.std.proofs.lemmas.List.{nil_from_length}
use Rattle.m2_node.specs.Planned.{IsSendableStep}
use Rattle.m2_node.proofs.Plans.{all_planned, none_yet, one_step_more, peers_stay}
use Rattle.m2_node.proofs.records.plan_steps.Goals as goal

pub steps-init : goal.steps-init
steps-init g c =
    let all : c.into_iter-step-iterator.result.rest.items ≡ c.args.steps.items = c.into_iter-step-iterator.ensures.into_iter_gives.0 ∙ c.into_vec-step-items.ensures in
    record {
      peers = c.requires.peers;
      begun = c.requires.begun;
      left = subst (AllByRecursion IsSendableStep) (sym all) c.requires.steps;
      planned = none_yet c.into_iter-step-iterator.result.rest.items c.args.steps.items all c.args.records.now.items;
    }

pub plan_step-requires-clause-step : goal.plan_step-requires-clause-step
plan_step-requires-clause-step g c = (subst (AllByRecursion IsSendableStep) c.in-Some.ensures.steps.0 c.steps.invariant.left).0

pub steps-preserved : goal.steps-preserved
steps-preserved g c =
    let l = c.steps in
    let rest = c.next.new.self.rest.items in
    let old = l.records.items in
    let new = c.plan_step.new.records.items in
    record {
      peers = peers_stay (c.in-Some.step ∷ []) old new c.in_ok-plan_step.ensures.ok l.invariant.peers;
      begun = c.plan_step.ensures.begun;
      left = (subst (AllByRecursion IsSendableStep) c.in-Some.ensures.steps.0 l.invariant.left).1;
      planned = one_step_more c.in-Some.step l.step-iterator.rest.items rest c.args.steps.items c.in-Some.ensures.steps.0 c.args.records.now.items old new l.invariant.planned c.in_ok-plan_step.ensures.ok;
    }

pub returns-clause-ok : goal.returns-clause-ok
returns-clause-ok g c =
    let l = c.steps in
    let rest = l.step-iterator.rest in
    let empty : rest.items ≡ [] = nil_from_length rest.items (let e = c.in-None.ensures.steps.0 in let k = rest.ok in omega (arith, e, k)) in
    all_planned rest.items c.args.steps.items empty c.args.records.now.items l.records.items l.invariant.planned
