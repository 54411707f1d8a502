-- One worker more.
use Rattle.std.proofs.Common.{◌≡◌, ◌∙◌, List, Some, refl, ap, sym, subst, arith}
use Rattle.std.specs.Prelude.{slice_get}
use Rattle.std.specs.List.{AllByRecursion}
use Rattle.std.proofs.lemmas.Option.{slice_get-get_or}
use Rattle.m2_dispatch.specs.declared.logged.Logged.{Logged}
use Rattle.m2_scenario.specs.declared.node.Node.{Node}
use Rattle.m2_script.proofs.SoFar.{of_some}
use Rattle.m2_script.specs.m2_center.Center.{CenterNow}
use Rattle.m2_node.specs.Begins.{AddsWorkers, ArePortsForNode, IsBeginning, IsPortFor}
use Rattle.m2_node.specs.Homes.{is_at_home, steps_at_home}
use Rattle.m2_node.specs.Planned.{IsSendableStep}
use Rattle.m2_node.specs.Working.{WorkerNow}
use Rattle.m2_node.specs.declared.planning.StepTowards.{StepTowards}
use Rattle.m2_node.proofs.OutPorts.{if_some}
use Rattle.m2_node.proofs.StepLists.{first_steps, next_steps, these_steps}
use Rattle.m2_node.proofs.WorkersBegin.{all_added, none_added, one_added_more}
use Rattle.m2_node.proofs.beginning.add_workers.Goals as goal
use Rattle.m2_bytes.proofs.m2_lemmas.Lists.{all_filter}

pub centers-init : goal.centers-init
centers-init g c =
    let nodes = c.args.nodes.now in
    let k = c.args.k in
    let x : Node = c.index-nodes-k.result in
    let there : slice_get nodes k ≡ Some x = slice_get-get_or nodes k x c.requires.place ∙ ap Some (sym c.index-nodes-k.is) in
    let part = c.args.part in
    record {
      ports = subst (AllByRecursion (IsPortFor x)) (sym c.into_iter-ports.ensures.rest) (of_some (slice_get nodes k) (λ y. ArePortsForNode y part.ports.items) x there c.requires.ports).each;
      steps = first_steps nodes x.centers part.steps.items c.in_ok-steps_by_home.field-0.items c.into_iter-steps.result.rest.items c.into_iter-steps.ensures.rest c.in_ok-steps_by_home.ensures;
      passes = refl;
      added = none_added nodes c.args.links.now part.steps.items k c.next-word.result x c.args.shares.now c.args.start c.args.workers.now.items c.reserve.new.self.items c.reserve.ensures.items;
      room = omega (arith, c.in_ok-reserve.ensures.ok);
    }

pub center_of-requires-clause-port : goal.center_of-requires-clause-port
center_of-requires-clause-port g c =
    let nodes = c.args.nodes.now in
    let k = c.args.k in
    let x : Node = c.index-nodes-k.result in
    let there : slice_get nodes k ≡ Some x = slice_get-get_or nodes k x c.requires.place ∙ ap Some (sym c.index-nodes-k.is) in
    if_some (slice_get nodes k) (λ y. IsPortFor y c.in-Some.port) x there (subst (AllByRecursion (IsPortFor x)) c.in-Some.ensures.items c.centers.invariant.ports).0

pub center_of-requires-clause-steps : goal.center_of-requires-clause-steps
center_of-requires-clause-steps g c =
    let l = c.centers in
    let nodes = c.args.nodes.now in
    let x : Node = c.index-nodes-k.result in
    let steps = c.args.part.steps.items in
    let these = these_steps nodes x.centers steps l.center l.steps.rest.items c.in-Some-next.its c.next-in-centers.new.self.rest.items c.in-Some-next.ensures.items l.invariant.steps in
    subst (AllByRecursion IsSendableStep) (sym these) (all_filter IsSendableStep (λ (s : StepTowards). is_at_home nodes x.centers l.center s.peer) steps c.requires.steps)

pub centers-preserved : goal.centers-preserved
centers-preserved g c =
    let l = c.centers in
    let nodes = c.args.nodes.now in
    let links = c.args.links.now in
    let k = c.args.k in
    let x : Node = c.index-nodes-k.result in
    let there : slice_get nodes k ≡ Some x = slice_get-get_or nodes k x c.requires.place ∙ ap Some (sym c.index-nodes-k.is) in
    let steps = c.args.part.steps.items in
    let its = c.in-Some-next.its in
    let rest = c.next-in-centers.new.self.rest.items in
    let word = c.next-word.result in
    let made : CenterNow (List Logged) = c.in_ok-made.made in
    let these = these_steps nodes x.centers steps l.center l.steps.rest.items its rest c.in-Some-next.ensures.items l.invariant.steps in
    let begins =
    of_some (slice_get nodes k) (λ y. (all : List StepTowards) → its.items ≡ steps_at_home nodes y.centers l.center all → IsBeginning nodes links all k l.center word y made) x there
    c.in_ok-made.ensures.beginning steps these in
    record {
      ports = (subst (AllByRecursion (IsPortFor x)) c.in-Some.ensures.items l.invariant.ports).1;
      steps = next_steps nodes x.centers steps l.center l.steps.rest.items its rest c.in-Some-next.ensures.items l.invariant.steps;
      passes = c.in_ok-made.ensures.passes ∙ l.invariant.passes;
      added = one_added_more nodes links steps k word x c.args.shares.now c.args.start l.center c.new.result c.args.workers.now.items l.workers.items c.push_reserved.new.self.items l.invariant.added
          c.push_reserved.ensures.items (ap (λ (v : WorkerNow). v.started) c.new.ensures) (ap (λ (v : WorkerNow). v.numbers) c.new.ensures) (ap (λ (v : WorkerNow). v.throttles) c.new.ensures)
          (ap (λ (v : WorkerNow). v.moment) c.new.ensures)
          (subst (IsBeginning nodes links steps k l.center word x) (sym (ap (λ (v : WorkerNow). v.center) c.new.ensures)) begins);
      room = omega (arith, l.invariant.room, c.push_reserved.ensures.len, c.push_reserved.ensures.capacity);
    }

pub returns : goal.returns
returns g c =
    let l = c.centers in
    let nodes = c.args.nodes.now in
    let links = c.args.links.now in
    let k = c.args.k in
    let x : Node = c.index-nodes-k.result in
    let there : slice_get nodes k ≡ Some x = slice_get-get_or nodes k x c.requires.place ∙ ap Some (sym c.index-nodes-k.is) in
    let steps = c.args.part.steps.items in
    let s = c.args.shares.now in
    let all : l.center ≡ x.centers = let most = l.auto.center-end in let past = c.centers-test.false in omega (arith, most, past) in
    if_some (slice_get nodes k) (λ y. AddsWorkers nodes links steps k y s c.args.start c.args.workers.now.items l.workers.items) x there
    (all_added nodes links steps k c.next-word.result x s c.args.start l.center c.args.workers.now.items l.workers.items all l.invariant.added)
