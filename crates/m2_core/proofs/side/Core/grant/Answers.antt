use Rattle.std.proofs.Common.{◌≡◌, subst, sym, true}
use Rattle.m2_feed.specs.Calls.{Owes}
use Rattle.m2_core.specs.CoreNow.{CoreNow}
use Rattle.m2_core.specs.LiveNow.{OnFeedNow, is_ready}
use Rattle.m2_core.proofs.Granted.{keeps}
use Rattle.m2_core.proofs.side.Core.grant.Goals as goal

pub invariant_of-self : goal.invariant_of-self
invariant_of-self g c =
    keeps _ c.args.n _ _ _ c.self.invariant (subst (λ (v : CoreNow). is_ready v.live ≡ true) (sym c.self.view_is) c.requires.ready)
    (subst (λ (k : CoreNow). OnFeedNow k.live.feed (λ v. Owes v.reading c.args.n)) (sym c.self.view_is) c.requires.owes) c.ask_stages.ensures.asks
