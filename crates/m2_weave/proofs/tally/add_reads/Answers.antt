-- One item more.
use Rattle.std.proofs.Common.{◌+◌, ◌<◌, ◌∙◌, length, ap, arith}
use Rattle.std.specs.Prelude.{slice_index}
use Rattle.m2_weave.specs.Counting.{place_in}
use Rattle.m2_weave.specs.Strands.{read_by, strand_now}
use Rattle.m2_weave.specs.Table.{names_of}
use Rattle.m2_weave.proofs.Items.{next_at}
use Rattle.m2_weave.proofs.Tallies.{added_more}
use Rattle.m2_weave.proofs.tally.add_reads.Goals as goal

pub loop-n-preserved : goal.loop-n-preserved
loop-n-preserved c =
    let is = (strand_now c.args.s.now).items in
    let h : c.loop-n.n < length is = omega (arith, c.loop-n-test.true, c.len-n-end.ensures) in
    let at = next_at is c.loop-n.left c.next.new.self c.loop-n.n c.next.result h c.loop-n.invariant.left c.next.ensures in
    record {
      left = at.1;
      count = c.add_read.ensures.count;
      added = λ k among.
          added_more k c.loop-n.n is c.next.result _ _ _ h
          (c.in_ok-add_read.ensures.added k among
          ∙ ap (λ i. slice_index c.loop-n.numbers.items (place_in (names_of c.args.sockets.now) k) + read_by k i) at.0) (c.loop-n.invariant.added k among);
    }
