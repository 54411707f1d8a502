-- One item more hasn't.
use Rattle.std.proofs.Common.{◌<◌, ◌∙◌, length, sym, ap, arith}
use Rattle.std.specs.Prelude.{◌||◌}
use Rattle.std.specs.List.{list_any}
use Rattle.m2_weave.specs.Strands.{opens, strand_now}
use Rattle.m2_weave.proofs.Items.{next_at}
use Rattle.m2_weave.proofs.stopping.has_opened.Goals as goal

pub loop-n-preserved : goal.loop-n-preserved
loop-n-preserved c =
    let is = (strand_now c.args.s.now).items in
    let h : c.loop-n.n < length is = omega (arith, c.loop-n-test.true, c.len-n-end.ensures) in
    let at = next_at is c.loop-n.left c.next.new.self c.loop-n.n c.next.result h c.loop-n.invariant.left c.next.ensures in
    record {
      left = at.1;
      none = ap (λ b. b || list_any (opens c.args.k.now) c.next.new.self) (sym c.if-opens.false ∙ c.opens.ensures)
          ∙ ap (list_any (opens c.args.k.now)) (sym c.next.ensures) ∙ c.loop-n.invariant.none;
    }
