use Rattle.m2_shared.specs.Gates.{ArePassesOf, places}
use Rattle.std.proofs.Common.{length}
use Rattle.m2_dispatch.specs.Letters.{AreOwned}
use Rattle.m2_turn.specs.Mailing.{PutsSome, mailing}
use Rattle.m2_turn.specs.Outbox.{OwnsAll}
use Rattle.m2_turn.proofs.mailing.put_all.Given as goal

abbrev pub invariant-putting : goal.invariant-putting
invariant-putting g l = record {
  puts : PutsSome g.D.Dispatcher.heard (places l.throttles) (mailing l.fn.out l.fn.queued l.fn.passes) (mailing l.out l.queued l.passes);
  out : OwnsAll (places l.throttles) l.out;
  letters : AreOwned (places l.throttles) l.queued.waiting;
  passes : ArePassesOf l.throttles l.passes;
}

abbrev pub decreases-putting : goal.decreases-putting
decreases-putting g l = length l.out.mail
