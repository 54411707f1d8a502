-- Those of one node more.
use Rattle.std.proofs.Common.{◌∙◌, ap, drop, length, reverse, refl, subst, sym, arith}
use Rattle.std.specs.Prelude.{slice_get}
use Rattle.m2_run.specs.Opened.{AreRightsTo, IsClosed, OpenedNow, WeighsUp}
use Rattle.m2_run.proofs.Closes.{all_closed, node_left, one_closed}
use Rattle.m2_run.proofs.inboxes.close_each.Goals as goal

pub nodes-init : goal.nodes-init
nodes-init g c = record { count = refl; closed = tt; same = refl; rooms = c.requires }

pub close_node-requires-clause-rights : goal.close_node-requires-clause-rights
close_node-requires-clause-rights g c =
    let l = c.nodes in
    subst (AreRightsTo (slice_get (reverse l.inboxes.items)) 0) c.index-ends-k.is
    (node_left l.k c.args.ends.now l.ends c.index-ends-k.result (reverse l.inboxes.items) (let at = c.nodes-test.true in let count = l.invariant.count in omega (arith, at, count)) c.index-ends-k.is
    l.invariant).0

pub close_node-requires-clause-weighs : goal.close_node-requires-clause-weighs
close_node-requires-clause-weighs g c =
    let l = c.nodes in
    subst WeighsUp c.index-ends-k.is
    (node_left l.k c.args.ends.now l.ends c.index-ends-k.result (reverse l.inboxes.items) (let at = c.nodes-test.true in let count = l.invariant.count in omega (arith, at, count)) c.index-ends-k.is
    l.invariant).1

pub nodes-preserved : goal.nodes-preserved
nodes-preserved g c =
    let l = c.nodes in
    let bs = reverse l.inboxes.items in
    let new = c.close_node.new.node in
    let is = c.index-ends-k.is in
    one_closed l.k c.args.ends.now l.ends c.index-ends-k.result bs (let at = c.nodes-test.true in let count = l.invariant.count in omega (arith, at, count)) is l.invariant
    new (reverse c.close_node.new.inboxes.items) (subst (λ (o : OpenedNow). IsClosed o new) (sym is) c.in_ok-close_node.ensures.closed)
    (c.in_ok-close_node.ensures.left ∙ ap (λ (o : OpenedNow). drop (length o.gets) bs) (sym is))

pub returns : goal.returns
returns g c = all_closed c.nodes.k c.args.ends.now c.nodes.ends (reverse c.nodes.inboxes.items) c.nodes-test.false c.nodes.invariant
