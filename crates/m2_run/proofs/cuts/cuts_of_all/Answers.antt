-- Those of one node more.
use Rattle.std.proofs.Common.{◌+◌, ◌∙◌, [], ◌∷◌, ap, length, length-append}
use Rattle.m2_run.proofs.CutLists.{more_cuts}
use Rattle.m2_run.proofs.cuts.cuts_of_all.Goals as goal

pub nodes-preserved : goal.nodes-preserved
nodes-preserved c =
    let l = c.nodes in
    let longer = c.in_ok-push.ensures.items in
    record {
      count = ap length longer ∙ length-append l.all.items (c.in_ok-cuts.cuts ∷ []) ∙ ap (λ n. n + 1) l.invariant.count;
      each = more_cuts c.args.nodes.now c.args.lines.now l.k l.all.items c.push.new.self.items c.in_ok-cuts.cuts l.invariant.count longer c.in_ok-cuts.ensures l.invariant.each;
    }
