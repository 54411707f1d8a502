-- From the last one on.
use Rattle.std.proofs.Common.{List, ◌∙◌, reverse, ap, sym, subst}
use Rattle.std.proofs.lemmas.List.{reverse-reverse}
use Rattle.m2_node.specs.Dispatching.{DispatcherNow}
use Rattle.m2_node.specs.Posts.{AreDispatched}
use Rattle.m2_node.specs.Working.{AreGrouped, WorkerNow, nodes_of_workers}
use Rattle.m2_node.proofs.threads.join_all.Goals as goal

pub join_nodes-joined-requires-clause-groups : goal.join_nodes-joined-requires-clause-groups
join_nodes-joined-requires-clause-groups g c =
    subst (AreGrouped c.args.nodes.now c.args.shares.now) (sym (ap reverse c.reverse.ensures.items ∙ reverse-reverse c.args.closed.workers.items)) c.requires.groups

pub returns-clause-nodes : goal.returns-clause-nodes
returns-clause-nodes g c =
    c.in_ok-joined.ensures ∙ ap (nodes_of_workers c.args.nodes.now c.args.shares.now) (ap reverse c.reverse.ensures.items ∙ reverse-reverse c.args.closed.workers.items)

pub join_nodes-joined-requires-clause-dispatched : goal.join_nodes-joined-requires-clause-dispatched
join_nodes-joined-requires-clause-dispatched g c =
    let nodes = c.args.nodes.now in
    let shares = c.args.shares.now in
    let closed = c.args.closed in
    subst (λ (ws : List WorkerNow). AreDispatched nodes shares ws (reverse c.reverse-2.new.self.items)) (sym (ap reverse c.reverse.ensures.items ∙ reverse-reverse closed.workers.items))
    (subst (λ (ds : List DispatcherNow). AreDispatched nodes shares closed.workers.items ds) (sym (ap reverse c.reverse-2.ensures.items ∙ reverse-reverse closed.dispatchers.items)) c.requires.dispatched)
