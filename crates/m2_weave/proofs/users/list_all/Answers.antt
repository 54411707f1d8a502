-- One more entry is listed, and those before it still are.
use Rattle.std.proofs.Common.{arith}
use Rattle.m2_weave.proofs.Listing.{lists-on, listed-more}
use Rattle.m2_weave.proofs.users.list_all.Goals as goal

pub loop-e-preserved : goal.loop-e-preserved
loop-e-preserved c = record {
  more = lists-on c.args.users.now c.loop-e.users c.list.new.users c.loop-e.invariant.more c.in_ok-list.ensures.more;
  listed = listed-more c.loop-e.users c.list.new.users c.args.strand c.args.entries.now c.loop-e.e-index _ (omega arith) c.in_ok-list.ensures.more
      c.loop-e.invariant.listed c.in_ok-list.ensures.listed;
}
