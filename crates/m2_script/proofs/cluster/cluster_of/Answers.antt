-- One node more.
use Rattle.std.proofs.Common.{◌+◌, ◌≤◌, [], ◌∷◌, length, sym, ap, subst, ◌∙◌, arith, length-append}
use Rattle.std.specs.Prelude.{slice_get, IfSome}
use Rattle.m2_script.specs.Nodes.{IsNewNode}
use Rattle.m2_script.proofs.SoFar.{AreNewSoFar, one_more}
use Rattle.m2_script.proofs.cluster.cluster_of.Goals as goal

pub nodes-preserved : goal.nodes-preserved
nodes-preserved c =
    let l = c.nodes in
    let nodes = c.args.nodes.now in
    let links = c.args.links.now in
    let lines = c.args.lines.now in
    let old = l.cluster.nodes in
    let n = c.in-Ok.node in
    let few : l.number + 1 ≤ 16 = omega (arith, c.nodes-test.true, c.requires.few_nodes) in
    record {
      count = ap length c.add.ensures.nodes ∙ length-append old (n ∷ []) ∙ ap (λ k. k + 1) l.invariant.count;
      each = subst (AreNewSoFar nodes links lines) (sym c.add.ensures.nodes)
          (one_more nodes links lines old n l.invariant.each (subst (λ k. IfSome (slice_get nodes k) (λ x. IsNewNode nodes links lines k x n)) (sym l.invariant.count) c.in-Ok.ensures));
      words = c.next.ensures.exact.1 ∙ c.next.ensures.rises (omega (arith, l.invariant.words, few)) ∙ ap (λ w. w + 1) l.invariant.words;
      room = omega (arith, l.invariant.room, c.add.ensures.room, c.nodes-test.true, l.invariant.count);
    }
