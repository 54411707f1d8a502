use Rattle.std.proofs.Common.{subst, sym}
use Rattle.m2_shared.specs.Gates.{AreHeld, places}
use Rattle.m2_core.specs.LiveNow.{LiveNow}
use Rattle.m2_core.proofs.live.Live.ask_stages.Goals as goal

pub returns-in-Whole-clause-owned : goal.returns-in-Whole-clause-owned
returns-in-Whole-clause-owned g c = c.in-Whole.ensures.held (subst (λ (l : LiveNow). AreHeld (places c.args.throttles.now) l.granted) (sym c.self.view_is) c.requires.owned)

pub returns-in-Full-clause-owned : goal.returns-in-Full-clause-owned
returns-in-Full-clause-owned g c = c.in-Full.ensures.held (subst (λ (l : LiveNow). AreHeld (places c.args.throttles.now) l.granted) (sym c.self.view_is) c.requires.owned)

pub returns-in-Again-clause-owned : goal.returns-in-Again-clause-owned
returns-in-Again-clause-owned g c = c.in-Again.ensures.held (subst (λ (l : LiveNow). AreHeld (places c.args.throttles.now) l.granted) (sym c.self.view_is) c.requires.owned)
