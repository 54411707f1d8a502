use Rattle.std.proofs.Common.{subst, sym}
use Rattle.m2_shared.specs.Gates.{AreHeld, places}
use Rattle.m2_core.specs.CoreNow.{CoreNow}
use Rattle.m2_core.proofs.side.Core.down.Goals as goal

pub tell-aftermath-requires-clause-owned : goal.tell-aftermath-requires-clause-owned
tell-aftermath-requires-clause-owned g c = subst (λ (v : CoreNow). AreHeld (places c.args.throttles.now) v.live.granted) (sym c.self.view_is) c.requires.owned
