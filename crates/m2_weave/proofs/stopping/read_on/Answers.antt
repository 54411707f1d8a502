-- One item more.
use Rattle.std.proofs.Common.{◌<◌, ◌∙◌, length, ap, arith}
use Rattle.m2_weave.specs.Strands.{read_by, strand_now}
use Rattle.m2_weave.proofs.Items.{next_at}
use Rattle.m2_weave.proofs.Tallies.{sum_more}
use Rattle.m2_weave.proofs.stopping.read_on.Goals as goal

pub loop-n-preserved : goal.loop-n-preserved
loop-n-preserved c =
    let is = (strand_now c.args.s.now).items in
    let h : c.loop-n.n < length is = omega (arith, c.loop-n-test.true, c.min-n-end.ensures, c.len.ensures) in
    let at = next_at is c.loop-n.left c.next.new.self c.loop-n.n c.next.result h c.loop-n.invariant.left c.next.ensures in
    record {
      left = at.1;
      sum = sum_more (read_by c.args.k.now) c.loop-n.n is c.next.result _ _ _ h c.in_ok-sum.ensures (c.read_by.ensures ∙ ap (read_by c.args.k.now) at.0) c.loop-n.invariant.sum;
    }
