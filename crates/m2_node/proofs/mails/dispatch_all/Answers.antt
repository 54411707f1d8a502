-- One parcel more, and at the end all.
use Rattle.std.proofs.Common.{rules, ◌≡◌, [], List, subst, sym}
use Rattle.m2_dispatch.specs.Parcel.{AllOwned}
use Rattle.m2_dispatch.specs.declared.parcel.Parcel.{Parcel}
use Rattle.m2_dispatch.specs.m2_shared.Gates.{places}
use Rattle.m2_dispatch.specs.m2_shared.declared.throttles.Throttles.{Throttles}
use Rattle.m2_node.proofs.Dispatched.{all_gone, none_gone, one_gone}
use Rattle.m2_node.proofs.mails.dispatch_all.Goals as goal

pub parcels-init : goal.parcels-init
parcels-init c = record { so_far = none_gone c.args.parcels.now.items c.args.to.now; owned = c.requires }

pub dispatch-requires : goal.dispatch-requires
dispatch-requires c = (subst (λ (ps : List Parcel). AllOwned (places c.parcels.to.throttles) ps) c.in-Some.ensures.items c.parcels.invariant.owned).0

pub parcels-preserved : goal.parcels-preserved
parcels-preserved c = record {
  so_far = one_gone c.args.parcels.now.items c.parcels.parcels.items c.pop_front.new.self.items c.in-Some.parcel c.args.to.now c.parcels.to c.dispatch.new.self c.parcels.invariant.so_far
      c.in-Some.ensures.items c.dispatch.ensures;
  owned = subst (λ (t : Throttles). AllOwned (places t) c.pop_front.new.self.items) (sym c.dispatch.ensures.throttles)
      (subst (λ (ps : List Parcel). AllOwned (places c.parcels.to.throttles) ps) c.in-Some.ensures.items c.parcels.invariant.owned).1;
}

pub returns-clause-dispatched : goal.returns-clause-dispatched
returns-clause-dispatched c =
    let none : c.parcels.parcels.items ≡ [] = search rules in
    all_gone c.args.parcels.now.items c.parcels.parcels.items c.args.to.now c.parcels.to c.parcels.invariant.so_far none
