-- What a center keeps where its mail is emptied.
use Rattle.m2_shared.specs.Gates.{pass_places}
use Rattle.std.proofs.Common.{refl, ap, sym, subst, ◌∙◌}
use Rattle.m2_dispatch.specs.Letters.{AreOwned}
use Rattle.m2_turn.specs.Outbox.{OwnsAll}
use Rattle.m2_center.proofs.Stages.{consistent_at, empties_mail}
use Rattle.m2_center.proofs.center.Center.deliver.Goals as goal

pub empty_mail-requires-clause-out : goal.empty_mail-requires-clause-out
empty_mail-requires-clause-out g c = subst (λ p. OwnsAll p c.self.inside.out) (ap (λ v. pass_places v.bytes) c.self.view_is ∙ c.requires.throttles) c.self.invariant.0.out

pub empty_mail-requires-clause-letters : goal.empty_mail-requires-clause-letters
empty_mail-requires-clause-letters g c = subst (λ p. AreOwned p c.self.inside.queued.waiting) (ap (λ v. pass_places v.bytes) c.self.view_is ∙ c.requires.throttles) c.self.invariant.0.queued

pub invariant_of-self : goal.invariant_of-self
invariant_of-self g c =
    let was = c.self.invariant in
    let there = ap (λ v. pass_places v.bytes) c.self.view_is ∙ c.requires.throttles in
    let back = sym c.empty_mail.ensures.passes in (
      record {
        consistent = consistent_at _ _ _ _ _ _ _ _ (there ∙ back) refl was.0.consistent;
        out = subst (λ p. OwnsAll p c.empty_mail.new.out) back c.empty_mail.ensures.out;
        queued = subst (λ p. AreOwned p c.empty_mail.new.queued.waiting) back c.empty_mail.ensures.letters;
      },
      was.1,
      was.2,
      was.3,
    )

pub returns : goal.returns
returns g c = record {
  delivers = (c.empty_mail.result, c.delivered_so.ensures, empties_mail _ _ c.self.view_is _ _ c.empty_mail.result _ _ _ c.empty_mail.ensures.mails);
  numbers = ap (λ v. v.numbers) c.self.view_is;
  throttles = c.empty_mail.ensures.passes ∙ sym c.requires.throttles;
}
