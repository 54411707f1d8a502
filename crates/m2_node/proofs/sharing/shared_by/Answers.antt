-- Those of one node more.
use Rattle.std.proofs.Common.{List, [], ◌∷◌, ◌++◌, ◌∙◌, ap, subst, sym, take}
use Rattle.std.proofs.lemmas.List.{take_all, take_more}
use Rattle.m2_scenario.specs.declared.node.Node.{Node}
use Rattle.m2_node.specs.Sharing.{AreSharesOf}
use Rattle.m2_node.proofs.SharesMade.{none_shared, one_share_more}
use Rattle.m2_node.proofs.sharing.shared_by.Goals as goal

pub nodes-init : goal.nodes-init
nodes-init c = none_shared c.new.result.items c.new-2.result.items c.new.ensures.items c.new-2.ensures.items

pub nodes-preserved : goal.nodes-preserved
nodes-preserved c =
    let l = c.nodes in
    let nodes = c.args.nodes.now in
    let x : Node = c.node-item.result in
    let new = c.add_shares.new.of in
    let so_far = take l.node-index nodes in
    subst (λ (ns : List Node). AreSharesOf ns new.shares.items new.passes.items)
    (sym (take_more nodes l.node-index x c.nodes-test.true ∙ ap (λ (y : Node). so_far ++ y ∷ []) (sym c.node-item.is)))
    (one_share_more so_far x l.of.shares.items new.shares.items l.of.passes.items new.passes.items l.invariant c.in_default.ensures)

pub returns : goal.returns
returns c =
    let l = c.nodes in
    subst (λ (ns : List Node). AreSharesOf ns l.of.shares.items l.of.passes.items) (take_all l.node-index c.args.nodes.now c.nodes-test.false) l.invariant
