use Rattle.std.proofs.Common.{◌≡◌, true, sym, subst}
use Rattle.std.specs.Option.{is_some}
use Rattle.m2_core.specs.CoreNow.{CoreNow}
use Rattle.m2_core.proofs.Faulting as faulting
use Rattle.m2_core.proofs.Sound as sound
use Rattle.m2_core.proofs.side.Core.fault.Goals as goal

pub invariant_of-self : goal.invariant_of-self
invariant_of-self g c = sound.faulted_to _ _ _ c.self.invariant c.waits-waits.ensures c.tell.ensures.live

pub returns-clause-leads : goal.returns-clause-leads
returns-clause-leads g c = rw (← c.self.view_is)
    (faulting.faulted_to _ _ _ (subst (λ (v : CoreNow). is_some v.live.feed ≡ true) (sym c.self.view_is) c.requires.fed)
    c.waits-waits.ensures c.tell.ensures.live)
