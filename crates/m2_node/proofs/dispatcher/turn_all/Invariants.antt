-- What was dispatched so far; there is one letter less each time.
use Rattle.std.proofs.Common.{length}
use Rattle.m2_dispatch.specs.Letters.{AreOwned}
use Rattle.m2_dispatch.specs.m2_shared.Gates.{ArePassesOf, places}
use Rattle.m2_node.specs.Dispatching.{DispatchesFirst}
use Rattle.m2_node.proofs.dispatcher.turn_all.Given as goal

abbrev pub invariant-turning : goal.invariant-turning
invariant-turning l = record {
  some : DispatchesFirst l.fn.queue l.queue;
  letters : AreOwned (places l.throttles) l.queue.waiting;
  passes : ArePassesOf l.throttles l.passes;
}

abbrev pub decreases-turning : goal.decreases-turning
decreases-turning l = length l.queue.waiting
