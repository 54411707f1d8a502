-- One parcel more is put, or there is no room for it.
use Rattle.std.proofs.Common.{inr, subst}
use Rattle.m2_dispatch.specs.Parcel.{AllOwned}
use Rattle.m2_dispatch.specs.m2_shared.Gates.{places}
use Rattle.m2_node.specs.Dispatching.{throttles_of}
use Rattle.m2_node.proofs.HandedOn.{full_still, sends_one}
use Rattle.m2_node.proofs.sending.put_all.Goals as goal

pub parcels-init : goal.parcels-init
parcels-init g c = record { ours = c.requires.ours; owned = c.requires.owned; sends = λ w s. s }

pub parcels-preserved : goal.parcels-preserved
parcels-preserved g c =
    let l = c.parcels in
    let mail = c.args.mail.now in
    record {
      ours = c.put.ensures.pass;
      owned = (subst (AllOwned (places (throttles_of mail))) c.in-Some.ensures.items l.invariant.owned).1;
      sends = λ w s. sends_one mail w l.put c.put.new.pass c.in-Some.parcel l.waiting.items c.pop_front.new.self.items c.in-Some.ensures.items c.put.ensures.pass c.put.ensures.parts c.in-Ok.ensures.put
          (l.invariant.sends w s);
    }

pub returns-in-Err-clause-full : goal.returns-in-Err-clause-full
returns-in-Err-clause-full g c = inr (full_still c.args.mail.now c.parcels.put c.put.new.pass c.put.ensures.parts c.in-Err.ensures.same c.in-Err.ensures.full)
