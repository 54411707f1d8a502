-- What is left was granted by the throttles that it is given back to.
use Rattle.m2_shared.specs.Gates.{pass_places}
use Rattle.std.proofs.Common.{ap, sym, subst}
use Rattle.m2_dispatch.specs.Letters.{AreOwned}
use Rattle.m2_turn.specs.Outbox.{OwnsAll}
use Rattle.m2_center.proofs.finishing.CenterRest.clear.Goals as goal

pub clear-fast-requires-clause-all : goal.clear-fast-requires-clause-all
clear-fast-requires-clause-all g c =
    subst (λ p. OwnsAll p c.self.inside.out) c.requires.pass (subst (λ o. OwnsAll (pass_places c.args.self.bytes) o) (ap (λ r. r.out) (sym c.self.view_is)) c.requires.granted.out)

pub finish-queued-requires-clause-letters : goal.finish-queued-requires-clause-letters
finish-queued-requires-clause-letters g c =
    subst (λ p. AreOwned p c.self.inside.queued.waiting) c.requires.pass (subst (λ w. AreOwned (pass_places c.args.self.bytes) w) (ap (λ r. r.queued.waiting) (sym c.self.view_is)) c.requires.granted.queued)
