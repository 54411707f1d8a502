-- What is left of a center was granted by its node's throttles.
use Rattle.m2_shared.specs.Gates.{pass_places}
use Rattle.std.proofs.Common.{ap, subst}
use Rattle.m2_dispatch.specs.Letters.{AreOwned}
use Rattle.m2_center.specs.Finishing.{AllOwn}
use Rattle.m2_turn.specs.Outbox.{OwnsAll}
use Rattle.m2_center.proofs.Granted.{all_own}
use Rattle.m2_center.proofs.center.Center.finished.Goals as goal

pub returns-clause-granted : goal.returns-clause-granted
returns-clause-granted g c =
    let is = c.self.invariant.0 in
    let lie = ap (λ v. pass_places v.bytes) c.self.view_is in
    record {
      records = subst (λ p. AllOwn p c.self.inside.records.items) lie
          (all_own (record { places = pass_places c.self.inside.passes.throttles; least = c.self.inside.passes.numbers.least }) _ c.self.inside.records.items is.consistent.records);
      out = subst (λ p. OwnsAll p c.self.inside.out) lie is.out;
      queued = subst (λ p. AreOwned p c.self.inside.queued.waiting) lie is.queued;
    }
