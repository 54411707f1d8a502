use Rattle.m2_shared.specs.Gates.{ArePassesOf, places}
use Rattle.std.proofs.Common.{◌≡◌, length, not}
use Rattle.m2_dispatch.specs.Letters.{AreOwned}
use Rattle.m2_turn.specs.Mailing.{DispatchesSome, is_none, queueing}
use Rattle.m2_turn.proofs.mailing.dispatch_all.Given as goal

abbrev pub invariant-turning : goal.invariant-turning
invariant-turning g l = record {
  dispatches : DispatchesSome g.D.Dispatcher.heard (places l.throttles) (queueing l.fn.queued l.fn.passes) (queueing l.queued l.passes);
  any : l.any ≡ not (is_none dispatches.dispatched);
  letters : AreOwned (places l.throttles) l.queued.waiting;
  passes : ArePassesOf l.throttles l.passes;
}

abbrev pub decreases-turning : goal.decreases-turning
decreases-turning g l = length l.queued.waiting
