-- The workers of one node more.
use Rattle.std.proofs.Common.{◌≡◌, ◌∙◌, ◌<◌, List, Some, length, ap, sym, subst, arith}
use Rattle.std.specs.Prelude.{slice_get}
use Rattle.std.proofs.lemmas.Option.{slice_get-get_or}
use Rattle.m2_bytes.proofs.m2_lemmas.Lists.{all_at, get_map}
use Rattle.m2_script.proofs.SoFar.{if_some, of_some}
use Rattle.m2_node.specs.Begins.{AddsWorkers, ArePortsForNode, items_of, steps_at}
use Rattle.m2_node.specs.Sharing.{AreFirstOf, IsShare, ShareNow}
use Rattle.m2_node.specs.declared.planning.StepTowards.{StepTowards}
use Rattle.m2_node.proofs.Beside.{side_get}
use Rattle.m2_node.proofs.Places.{there_at}
use Rattle.m2_node.proofs.WorkersBegin.{all_made, next_there, none_made, one_made_more, rest_next}
use Rattle.m2_node.proofs.beginning.workers_of.Goals as goal

pub nodes-init : goal.nodes-init
nodes-init g c = record {
  ports = c.into_iter.ensures.rest;
  steps = c.into_iter-2.ensures.rest;
  passes = c.into_iter-4.ensures.rest;
  made = none_made c.args.nodes.now c.args.links.now (steps_at c.args.steps.items) c.args.shares.now c.args.start c.new-workers.result.items c.new-workers.ensures.items;
}

pub add_workers-added-requires-clause-ports : goal.add_workers-added-requires-clause-ports
add_workers-added-requires-clause-ports g c =
    let l = c.nodes in
    let part = c.in-Some.part in
    let here = next_there c.args.ports.items _ part.ports l.k (sym l.invariant.ports ∙ c.in-Some.ensures.ports) in
    if_some (slice_get c.args.nodes.now l.k) (λ x. ArePortsForNode x part.ports.items)
    (λ x there. c.requires.ports.each l.k x part.ports.items there (get_map (λ ps. ps.items) c.args.ports.items l.k part.ports here))

pub add_workers-added-requires-clause-steps : goal.add_workers-added-requires-clause-steps
add_workers-added-requires-clause-steps g c =
    let l = c.nodes in
    let part = c.in-Some.part in
    c.requires.steps l.k part.steps (next_there c.args.steps.items _ part.steps l.k (sym l.invariant.steps ∙ c.in-Some.ensures.steps))

pub add_workers-added-requires-clause-share : goal.add_workers-added-requires-clause-share
add_workers-added-requires-clause-share g c =
    let shares = c.args.shares.now in
    let k = c.nodes.k in
    let s : ShareNow = c.index-shares-k.result in
    let within : k < length shares = let count = c.requires.shares.count in let test = c.nodes-test.true in omega (arith, count, test) in
    all_at IsShare shares k s (slice_get-get_or shares k s within ∙ ap Some (sym c.index-shares-k.is)) c.requires.shares.shared

pub add_workers-added-requires-clause-passes : goal.add_workers-added-requires-clause-passes
add_workers-added-requires-clause-passes g c =
    let l = c.nodes in
    let shares = c.args.shares.now in
    let s : ShareNow = c.index-shares-k.result in
    let part = c.in-Some.part in
    let within : l.k < length shares = let count = c.requires.shares.count in let test = c.nodes-test.true in omega (arith, count, test) in
    side_get AreFirstOf shares c.args.passes.items c.requires.shares.first l.k s part.passes (slice_get-get_or shares l.k s within ∙ ap Some (sym c.index-shares-k.is))
    (next_there c.args.passes.items _ part.passes l.k (sym l.invariant.passes ∙ c.in-Some.ensures.passes))

pub nodes-preserved : goal.nodes-preserved
nodes-preserved g c =
    let l = c.nodes in
    let nodes = c.args.nodes.now in
    let links = c.args.links.now in
    let shares = c.args.shares.now in
    let start = c.args.start in
    let part = c.in-Some.part in
    let s : ShareNow = c.index-shares-k.result in
    let within : l.k < length shares = let count = c.requires.shares.count in let test = c.nodes-test.true in omega (arith, count, test) in
    let share : slice_get shares l.k ≡ Some s = slice_get-get_or shares l.k s within ∙ ap Some (sym c.index-shares-k.is) in
    let x = there_at nodes l.k c.nodes-test.true in
    let steps_next = sym l.invariant.steps ∙ c.in-Some.ensures.steps in
    let here = ap items_of (next_there c.args.steps.items _ part.steps l.k steps_next) in
    let old = l.workers.items in
    let new = c.add_workers-added.new.workers.items in
    let adds = of_some (slice_get nodes l.k) (λ y. AddsWorkers nodes links part.steps.items l.k y s start old new) x.item x.there c.in_default-added.ensures in
    record {
      ports = rest_next c.args.ports.items _ part.ports l.k (sym l.invariant.ports ∙ c.in-Some.ensures.ports);
      steps = rest_next c.args.steps.items _ part.steps l.k steps_next;
      passes = rest_next c.args.passes.items _ part.passes l.k (sym l.invariant.passes ∙ c.in-Some.ensures.passes);
      made = one_made_more nodes links (steps_at c.args.steps.items) shares start l.k x.item s old new x.there share l.invariant.made
          (subst (λ (ss : List StepTowards). AddsWorkers nodes links ss l.k x.item s start old new) (sym here) adds);
    }

pub returns-clause-nodes : goal.returns-clause-nodes
returns-clause-nodes g c = (all_made c.args.nodes.now c.args.links.now (steps_at c.args.steps.items) c.args.shares.now c.args.start c.nodes.k c.nodes.workers.items c.nodes-test.false c.requires.shares.count c.nodes.invariant.made).0

pub returns-clause-workers : goal.returns-clause-workers
returns-clause-workers g c = (all_made c.args.nodes.now c.args.links.now (steps_at c.args.steps.items) c.args.shares.now c.args.start c.nodes.k c.nodes.workers.items c.nodes-test.false c.requires.shares.count c.nodes.invariant.made).1
