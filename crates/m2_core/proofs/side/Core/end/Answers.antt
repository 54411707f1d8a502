use Rattle.std.proofs.Common.{subst, sym}
use Rattle.m2_shared.specs.Gates.{AreHeld, places}
use Rattle.m2_core.specs.CoreNow.{CoreNow}
use Rattle.m2_core.proofs.side.Core.end.Goals as goal

pub end-requires-clause-owned : goal.end-requires-clause-owned
end-requires-clause-owned g c = subst (λ (v : CoreNow). AreHeld (places c.args.throttles.now) v.live.granted) (sym c.self.view_is) c.requires.owned
