-- One item more is counted.
use Rattle.std.proofs.Common.{◌≡◌, ◌<◌, length, refl, ap, subst, arith}
use Rattle.std.specs.Prelude.{slice_index_or}
use Rattle.m2_weave.specs.Rule.{strand_at}
use Rattle.m2_weave.specs.Strands.{StrandNow, strand_now}
use Rattle.m2_weave.specs.Table.{woven_of}
use Rattle.m2_weave.specs.Tally.{IsCounted}
use Rattle.m2_weave.proofs.Items.{next_at}
use Rattle.m2_weave.proofs.Whole.{strand_is, counts_next, entries_next}
use Rattle.m2_weave.proofs.weaving.count_items.Goals as goal

pub loop-n-preserved : goal.loop-n-preserved
loop-n-preserved c =
    let strands = c.args.strands.now in
    let sockets = c.args.sockets.now in
    let is = (strand_at (woven_of strands sockets) c.args.k).items in
    let s = c.index-strands-k-2.result in
    let same : is ≡ (strand_now s).items = ap (λ (s : StrandNow). s.items)
    (strand_is strands sockets c.args.k s c.requires.strand c.index-strands-k-2.is) in
    let h : c.loop-n.n < length is = omega (arith, c.loop-n-test.true, c.len-n-end.ensures, ap length same) in
    let at = next_at is c.loop-n.left c.next.new.self c.loop-n.n c.next.result h c.loop-n.invariant.left c.next.ensures in
    let one : IsCounted sockets (slice_index_or is c.loop-n.n c.next.result) c.loop-n.counts c.count.new.self c.in_ok-e.e =
    subst (λ i. IsCounted sockets i c.loop-n.counts c.count.new.self c.in_ok-e.e) at.0 c.in_ok-e.ensures in
    record {
      left = at.1;
      counts = counts_next strands sockets c.args.k c.loop-n.n c.loop-n.counts c.count.new.self c.next.result c.in_ok-e.e is refl h c.loop-n.invariant.counts one;
      entries =
          entries_next strands sockets c.args.k c.loop-n.n c.loop-n.counts c.count.new.self c.next.result c.in_ok-e.e is c.loop-n.entries.items c.push.new.self.items
          refl h c.requires.named c.loop-n.invariant.counts one c.in-Ok.ensures.0 c.loop-n.invariant.entries;
    }
