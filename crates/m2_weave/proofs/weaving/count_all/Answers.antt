-- One strand more is counted.
use Rattle.std.proofs.Common.{◌∙◌, ap}
use Rattle.m2_weave.specs.Counted.{entries_of}
use Rattle.m2_weave.proofs.Whole.{all_more, all_counted}
use Rattle.m2_weave.proofs.weaving.count_all.Goals as goal

pub loop-k-preserved : goal.loop-k-preserved
loop-k-preserved c = record {
  entries =
      ap entries_of c.in_ok-push.ensures.items
      ∙ all_more c.args.strands.now c.args.sockets.now c.loop-k.k c.loop-k.all.items c.in_ok-strand.strand c.loop-k-test.true c.in_ok-strand.ensures.items
      c.loop-k.invariant.entries;
  clear = c.in_ok-strand.ensures.clear;
}

pub returns : goal.returns
returns c = all_counted c.args.strands.now c.args.sockets.now c.loop-k.k (entries_of c.loop-k.all.items) c.loop-k-test.false c.loop-k.invariant.entries
