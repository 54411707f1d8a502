-- What is left, and the first of it.
use Rattle.std.proofs.Common.{◌≡◌, ◌∙◌, List, ap, subst, sym}
use Rattle.m2_dispatch.specs.Parcel.{AllOwned}
use Rattle.m2_dispatch.specs.declared.parcel.Parcel.{Parcel}
use Rattle.m2_dispatch.specs.m2_shared.Gates.{Places, places}
use Rattle.m2_node.specs.Sharing.{ShareNow}
use Rattle.m2_node.proofs.threads.throw_away_worker.Goals as goal

pub parcels-init : goal.parcels-init
parcels-init g c =
    let same : places c.shares.inside.shared.throttles ≡ places c.args.worker.throttles =
    ap (λ (s : ShareNow). places s.throttles) c.shares.view_is ∙ ap places c.into_parts-center.ensures.shared_throttles in
    record { passes = c.clear_center-passes.ensures; owned = subst (λ (p : Places). AllOwned p c.args.waiting.items) (sym same) c.requires }

pub give_back-requires-clause-passes : goal.give_back-requires-clause-passes
give_back-requires-clause-passes g c = c.parcels.invariant.passes

pub give_back-requires-clause-owned : goal.give_back-requires-clause-owned
give_back-requires-clause-owned g c = (subst (λ (ps : List Parcel). AllOwned (places c.shares.inside.shared.throttles) ps) c.in-Some.ensures.items c.parcels.invariant.owned).0

pub parcels-preserved : goal.parcels-preserved
parcels-preserved g c = record {
  passes = c.give_back.ensures.passes;
  owned = (subst (λ (ps : List Parcel). AllOwned (places c.shares.inside.shared.throttles) ps) c.in-Some.ensures.items c.parcels.invariant.owned).1;
}
