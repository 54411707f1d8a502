-- One item more is named.
use Rattle.std.proofs.Common.{◌<◌, length, subst, arith}
use Rattle.m2_weave.specs.Counting.{IsNamed}
use Rattle.m2_weave.specs.Strands.{strand_now}
use Rattle.m2_weave.specs.Table.{names_of}
use Rattle.m2_weave.proofs.Items.{all_more, next_at}
use Rattle.m2_weave.proofs.weaving.all_named.Goals as goal

pub loop-n-preserved : goal.loop-n-preserved
loop-n-preserved c =
    let is = (strand_now c.args.s.now).items in
    let h : c.loop-n.n < length is = omega (arith, c.loop-n-test.true, c.len-n-end.ensures) in
    let at = next_at is c.loop-n.left c.next.new.self c.loop-n.n c.next.result h c.loop-n.invariant.left c.next.ensures in
    record {
      left = at.1;
      named = all_more (IsNamed (names_of c.args.sockets.now)) is c.loop-n.n c.next.result h c.loop-n.invariant.named
          (subst (IsNamed (names_of c.args.sockets.now)) at.0 (c.is_named.ensures.0 c.if-not-is_named.false));
    }
