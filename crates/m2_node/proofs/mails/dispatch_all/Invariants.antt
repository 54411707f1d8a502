-- The parcels so far are dispatched; there is one less each time.
use Rattle.std.proofs.Common.{length}
use Rattle.m2_dispatch.specs.Parcel.{AllOwned}
use Rattle.m2_dispatch.specs.m2_shared.Gates.{places}
use Rattle.m2_node.proofs.Dispatched.{DispatchedSoFar}
use Rattle.m2_node.proofs.mails.dispatch_all.Given as goal

abbrev pub invariant-parcels : goal.invariant-parcels
invariant-parcels l = record {
  so_far : DispatchedSoFar l.fn.parcels.items l.parcels.items l.fn.to l.to;
  owned : AllOwned (places l.to.throttles) l.parcels.items;
}

abbrev pub decreases-parcels : goal.decreases-parcels
decreases-parcels l = length l.parcels.items
