-- One node more, and at the end all.
use Rattle.std.proofs.Common.{◌≡◌, ◌∙◌, ◌+◌, ◌++◌, List, reverse, drop, ap, subst, sym, arith}
use Rattle.std.proofs.lemmas.Option.{slice_get-get_or}
use Rattle.std.specs.Prelude.{Some, slice_get}
use Rattle.m2_node.specs.Sharing.{ShareNow}
use Rattle.m2_node.specs.Posts.{AreDispatched}
use Rattle.m2_node.specs.Working.{AreGrouped, WorkerNow, nodes_of_workers}
use Rattle.m2_scenario.specs.declared.node.Node.{Node}
use Rattle.m2_node.proofs.DispatchedNodes.{first_dispatched}
use Rattle.m2_node.proofs.Places.{reverse_last}
use Rattle.m2_node.proofs.Workers.{all_joined, first_group, one_joined, share_there}
use Rattle.m2_node.proofs.threads.join_nodes.Goals as goal

pub nodes-init : goal.nodes-init
nodes-init g c =
    let whole = nodes_of_workers c.args.nodes.now c.args.shares.now (reverse c.args.workers.now.items) in
    record {
      so_far = ap (λ ns. ns ++ whole) c.in_ok-all.ensures.none;
      left = c.requires.groups;
      dispatched = c.requires.dispatched;
      room = omega (arith, c.in_ok-all.ensures.room);
    }

pub bounds-shares-k : goal.bounds-shares-k
bounds-shares-k g c = share_there c.args.nodes.now c.args.shares.now (reverse c.nodes.workers.items) c.nodes.k c.nodes-test.true c.nodes.invariant.left

pub join_node-requires-clause-dispatched : goal.join_node-requires-clause-dispatched
join_node-requires-clause-dispatched g c =
    let l = c.nodes in
    let nodes = c.args.nodes.now in
    let shares = c.args.shares.now in
    let ws = reverse l.workers.items in
    let x : Node = c.index-nodes-k.result in
    let s : ShareNow = c.index-shares-k.result in
    let here : slice_get nodes l.k ≡ Some x = slice_get-get_or nodes l.k x c.nodes-test.true ∙ ap Some (sym c.index-nodes-k.is) in
    let within = share_there nodes shares ws l.k c.nodes-test.true l.invariant.left in
    let there : slice_get shares l.k ≡ Some s = slice_get-get_or shares l.k s within ∙ ap Some (sym c.index-shares-k.is) in
    (first_dispatched nodes shares ws (reverse l.dispatchers.items) (reverse c.pop.new.self.items) l.k x s c.in-Some.dispatcher here there
    (ap reverse c.in-Some.ensures.items ∙ reverse_last c.pop.new.self.items c.in-Some.dispatcher) l.invariant.dispatched).0

pub nodes-preserved : goal.nodes-preserved
nodes-preserved g c =
    let l = c.nodes in
    let nodes = c.args.nodes.now in
    let shares = c.args.shares.now in
    let ws = reverse l.workers.items in
    let whole = nodes_of_workers nodes shares (reverse c.args.workers.now.items) in
    let x : Node = c.index-nodes-k.result in
    let s : ShareNow = c.index-shares-k.result in
    let here : slice_get nodes l.k ≡ Some x = slice_get-get_or nodes l.k x c.nodes-test.true ∙ ap Some (sym c.index-nodes-k.is) in
    let within = share_there nodes shares ws l.k c.nodes-test.true l.invariant.left in
    let there : slice_get shares l.k ≡ Some s = slice_get-get_or shares l.k s within ∙ ap Some (sym c.index-shares-k.is) in
    record {
      so_far = one_joined nodes shares ws l.k x s here there l.all.items c.push_reserved.new.self.items whole c.in-Ok.node (reverse c.join_node.new.workers.items) l.invariant.so_far
          c.push_reserved.ensures.items c.in-Ok.ensures.node c.in-Ok.ensures.left;
      left = subst (AreGrouped (drop (l.k + 1) nodes) (drop (l.k + 1) shares)) (sym c.in-Ok.ensures.left) (first_group nodes shares ws l.k x s here there l.invariant.left).1;
      dispatched = subst (λ (vs : List WorkerNow). AreDispatched (drop (l.k + 1) nodes) (drop (l.k + 1) shares) vs (reverse c.pop.new.self.items)) (sym c.in-Ok.ensures.left)
          (first_dispatched nodes shares ws (reverse l.dispatchers.items) (reverse c.pop.new.self.items) l.k x s c.in-Some.dispatcher here there
          (ap reverse c.in-Some.ensures.items ∙ reverse_last c.pop.new.self.items c.in-Some.dispatcher) l.invariant.dispatched).1;
      room = omega (arith, l.invariant.room, c.push_reserved.ensures.len, c.push_reserved.ensures.capacity);
    }

pub returns : goal.returns
returns g c =
    let l = c.nodes in
    let nodes = c.args.nodes.now in
    let shares = c.args.shares.now in
    all_joined nodes shares (reverse l.workers.items) l.k l.all.items (nodes_of_workers nodes shares (reverse c.args.workers.now.items)) c.nodes-test.false l.invariant.so_far
