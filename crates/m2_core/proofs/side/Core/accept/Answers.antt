use Rattle.std.proofs.Common.{sym, ap, subst}
use Rattle.m2_feed.specs.declared.frame_heard.FrameHeard.TheVariants.{Brings}
use Rattle.m2_core.specs.CoreNow.{CoreNow}
use Rattle.m2_core.specs.Front.{HearsOn}
use Rattle.m2_core.proofs.Accepted.{accepts_to, keeps_to}
use Rattle.m2_core.proofs.side.Core.accept.Goals as goal

pub invariant_of-self : goal.invariant_of-self
invariant_of-self g c =
    keeps_to _ c.args.number c.in-Ok.message c.in-Ok.grants _ c.self.invariant
    (subst (λ (v : CoreNow). HearsOn v (Brings c.args.number)) (sym c.self.view_is) c.requires.heard) c.in-Ok.ensures

pub returns-in-Ok : goal.returns-in-Ok
returns-in-Ok g c = record {
  accepted = rw (← c.self.view_is)
      (accepts_to c.front_laws.ensures.heard c.front_laws.ensures.brings c.front_laws.ensures.sizes c.front_laws.ensures.takes c.front_laws.ensures.changes
      _ c.args.number _ _ c.in-Ok.message c.in-Ok.grants _ c.self.invariant
      (subst (λ (v : CoreNow). HearsOn v (Brings c.args.number)) (sym c.self.view_is) c.requires.heard) c.in-Ok.ensures (ap (λ x. x.live.life) c.self-inside.view_is) c.key_at.ensures);
}
