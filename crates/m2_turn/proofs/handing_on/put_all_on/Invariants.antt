use Rattle.m2_shared.specs.Gates.{ArePassesOf, places}
use Rattle.std.proofs.Common.{length}
use Rattle.m2_dispatch.specs.Letters.{AreOwned}
use Rattle.m2_turn.specs.HandingOn.{HandsNoLetter}
use Rattle.m2_turn.specs.Mailing.{PutsSome, mailing}
use Rattle.m2_turn.specs.Outbox.{OwnsAll}
use Rattle.m2_turn.proofs.handing_on.put_all_on.Given as goal

abbrev pub invariant-putting : goal.invariant-putting
invariant-putting g l = record {
  puts : PutsSome g.D.Dispatcher.heard (places l.throttles) (mailing l.fn.out l.fn.queued l.fn.passes) (mailing l.out l.queued l.passes);
  on : HandsNoLetter g.D.Dispatcher.heard (places l.throttles) l.fn.queued.inner l.queued.inner l.fn.into.items l.into.items;
  out : OwnsAll (places l.throttles) l.out;
  letters : AreOwned (places l.throttles) l.queued.waiting;
  passes : ArePassesOf l.throttles l.passes;
}

abbrev pub decreases-putting : goal.decreases-putting
decreases-putting g l = length l.out.mail
