-- One item more.
use Rattle.std.proofs.Common.{◌<◌, ◌∙◌, false, length, ap, arith}
use Rattle.std.specs.Prelude.{◌||◌, slice_index_or}
use Rattle.m2_weave.specs.Counting.{place_in}
use Rattle.m2_weave.specs.Strands.{opens, strand_now}
use Rattle.m2_weave.specs.Table.{names_of}
use Rattle.m2_weave.proofs.Items.{next_at, opened_more}
use Rattle.m2_weave.proofs.tally.set_opened.Goals as goal

pub loop-n-preserved : goal.loop-n-preserved
loop-n-preserved c =
    let is = (strand_now c.args.s.now).items in
    let h : c.loop-n.n < length is = omega (arith, c.loop-n-test.true, c.len-n-end.ensures) in
    let at = next_at is c.loop-n.left c.next.new.self c.loop-n.n c.next.result h c.loop-n.invariant.left c.next.ensures in
    record {
      left = at.1;
      count = c.set_by.ensures.count;
      flags = λ k among.
          opened_more k is c.loop-n.n c.next.result _ _ h
          (c.set_by.ensures.set k among ∙ ap (λ i. opens k i || slice_index_or c.loop-n.flags.items (place_in (names_of c.args.sockets.now) k) false) at.0)
          (c.loop-n.invariant.flags k among);
    }
