-- One step more, and at the end all.
use Rattle.std.proofs.Common.{◌≡◌, ◌∙◌, [], arith}
use Rattle.std.proofs.lemmas.List.{nil_from_length}
use Rattle.m2_node.proofs.StepLists.{all_by_home, none_by_home, one_by_home_more}
use Rattle.m2_node.proofs.planning.steps_by_home.Goals as goal

pub steps-init : goal.steps-init
steps-init c = none_by_home c.args.nodes.now c.args.centers _ c.args.steps.items c.in_ok-all.all.items (c.into_iter-step-iterator.ensures.into_iter_gives.0 ∙ c.into_vec-step-items.ensures) c.in_ok-all.ensures

pub steps-preserved : goal.steps-preserved
steps-preserved c =
    let l = c.steps in
    one_by_home_more c.args.nodes.now c.args.centers c.home_at.result c.in-Some.step l.step-iterator.rest.items c.next.new.self.rest.items c.args.steps.items l.all.items c.add_step.new.all.items
    c.home_at.ensures c.in-Some.ensures.steps.0 l.invariant c.in_ok-add_step.ensures

pub returns : goal.returns
returns c =
    let l = c.steps in
    let rest = l.step-iterator.rest in
    let empty : rest.items ≡ [] = nil_from_length rest.items (let e = c.in-None.ensures.steps.0 in let k = rest.ok in omega (arith, e, k)) in
    all_by_home c.args.nodes.now c.args.centers rest.items c.args.steps.items l.all.items empty l.invariant
