-- What a center keeps where its mail is emptied and handed on.
use Rattle.m2_shared.specs.Gates.{pass_places}
use Rattle.std.proofs.Common.{refl, ap, sym, subst, ◌∙◌}
use Rattle.m2_dispatch.specs.Letters.{AreOwned}
use Rattle.m2_turn.specs.Outbox.{OwnsAll}
use Rattle.m2_center.proofs.Stages.{consistent_at, empties_mail, hands_letters}
use Rattle.m2_center.proofs.center.Center.hand_on.Goals as goal

pub hand_mail_on-requires-clause-out : goal.hand_mail_on-requires-clause-out
hand_mail_on-requires-clause-out g c = subst (λ p. OwnsAll p c.self.inside.out) (ap (λ v. pass_places v.bytes) c.self.view_is ∙ c.requires.throttles) c.self.invariant.0.out

pub hand_mail_on-requires-clause-letters : goal.hand_mail_on-requires-clause-letters
hand_mail_on-requires-clause-letters g c = subst (λ p. AreOwned p c.self.inside.queued.waiting) (ap (λ v. pass_places v.bytes) c.self.view_is ∙ c.requires.throttles) c.self.invariant.0.queued

pub invariant_of-self : goal.invariant_of-self
invariant_of-self g c =
    let was = c.self.invariant in
    let there = ap (λ v. pass_places v.bytes) c.self.view_is ∙ c.requires.throttles in
    let back = sym c.hand_mail_on.ensures.passes in (
      record {
        consistent = consistent_at _ _ _ _ _ _ _ _ (there ∙ back) refl was.0.consistent;
        out = subst (λ p. OwnsAll p c.hand_mail_on.new.out) back c.hand_mail_on.ensures.out;
        queued = subst (λ p. AreOwned p c.hand_mail_on.new.queued.waiting) back c.hand_mail_on.ensures.letters;
      },
      was.1,
      was.2,
      was.3,
    )

pub returns-clause-delivers : goal.returns-clause-delivers
returns-clause-delivers g c = (
  (c.hand_mail_on.result, c.delivered_so.ensures, empties_mail _ _ c.self.view_is _ _ c.hand_mail_on.result _ _ _ c.hand_mail_on.ensures.mails),
  hands_letters _ _ c.self.view_is _ _ _ _ _ c.hand_mail_on.ensures.dispatched,
)
