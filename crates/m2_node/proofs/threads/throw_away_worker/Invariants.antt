-- What is left was granted by the throttles that it is given back to; and there is one parcel less each time.
use Rattle.std.proofs.Common.{length}
use Rattle.m2_dispatch.specs.Parcel.{AllOwned}
use Rattle.m2_dispatch.specs.m2_shared.Gates.{ArePassesOf, places}
use Rattle.m2_node.proofs.threads.throw_away_worker.Given as goal

abbrev pub invariant-parcels : goal.invariant-parcels
invariant-parcels g l = record {
  passes : ArePassesOf l.shares-inside.shared.throttles l.passes;
  owned : AllOwned (places l.shares-inside.shared.throttles) l.waiting.items;
}

abbrev pub decreases-parcels : goal.decreases-parcels
decreases-parcels g l = length l.waiting.items
