-- One more.
use Rattle.std.proofs.Common.{[], ◌∷◌, ◌+◌, ap, subst, sym, length, length-append, ◌∙◌}
use Rattle.std.specs.List.{AllByRecursion}
use Rattle.m2_bytes.proofs.m2_lemmas.Lists.{all_last}
use Rattle.m2_node.specs.Begins.{IsPortFor}
use Rattle.m2_node.proofs.OutPorts.{off_for}
use Rattle.m2_node.proofs.beginning.ports_off.Goals as goal

pub centers-preserved : goal.centers-preserved
centers-preserved g c =
    let l = c.centers in
    let x = c.args.node.now in
    let more = c.in_ok-push.ensures.items in
    record {
      count = ap length more ∙ length-append l.ports.items (c.off.result ∷ []) ∙ ap (λ n. n + 1) l.invariant.count;
      each = subst (AllByRecursion (IsPortFor x)) (sym more) (all_last (IsPortFor x) l.ports.items c.off.result l.invariant.each (off_for x c.off.result c.requires c.off.ensures));
    }
