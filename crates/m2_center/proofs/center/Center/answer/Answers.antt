-- What a center keeps where its halves take their turns.
use Rattle.m2_shared.specs.Gates.{pass_places, places}
use Rattle.std.proofs.Common.{refl, ap, sym, subst, ◌∙◌}
use Rattle.m2_dispatch.specs.Letters.{AreOwned}
use Rattle.m2_turn.specs.Outbox.{OwnsAll}
use Rattle.m2_center.proofs.Stages.{consistent_at, turns_halves}
use Rattle.m2_center.proofs.center.Center.answer.Goals as goal

pub answer_all-requires-clause-consistent : goal.answer_all-requires-clause-consistent
answer_all-requires-clause-consistent g c =
    (_, (c.self.inside.entity, consistent_at _ _ _ _ _ _ _ _ (ap (λ v. pass_places v.bytes) c.self.view_is ∙ c.requires.throttles) refl c.self.invariant.0.consistent))

pub invariant_of-self : goal.invariant_of-self
invariant_of-self g c =
    let was = c.self.invariant in
    let there = ap (λ v. pass_places v.bytes) c.self.view_is ∙ c.requires.throttles in
    let stays = there ∙ sym (c.answer_all.ensures.takes ∙ ap places c.answer_all.ensures.same.throttles) in (
      record {
        consistent = consistent_at _ _ _ _ _ _ _ _ (ap places c.answer_all.ensures.same.throttles ∙ sym there ∙ stays) refl
            (c.answer_all.ensures.consistent _ c.self.inside.entity (consistent_at _ _ _ _ _ _ _ _ there refl was.0.consistent));
        out = subst (λ p. OwnsAll p c.self.inside.out) stays was.0.out;
        queued = subst (λ p. AreOwned p c.self.inside.queued.waiting) stays was.0.queued;
      },
      was.1 ∙ sym c.answer_all.ensures.peers,
      c.answer_all.ensures.room,
      c.answer_all.ensures.piece ∙ was.3,
    )

pub returns : goal.returns
returns g c = record {
  answers = (c.answer_all.result, c.answered_so.ensures, turns_halves _ _ c.self.view_is _ _ c.answer_all.result _ refl _ _ _ _ c.answer_all.ensures.turns);
  queued = ap (λ v. v.queued) c.self.view_is;
  numbers = c.answer_all.ensures.number_place ∙ ap (λ v. v.numbers.place) c.self.view_is;
  throttles = c.answer_all.ensures.takes ∙ ap places c.answer_all.ensures.same.throttles ∙ sym c.requires.throttles;
}
