-- What a center keeps where its records take their turns.
use Rattle.m2_shared.specs.Gates.{pass_places, places}
use Rattle.std.proofs.Common.{refl, ap, sym, subst, ◌∙◌}
use Rattle.m2_dispatch.specs.Letters.{AreOwned}
use Rattle.m2_turn.specs.Handing.{SaysMore, handed_in}
use Rattle.m2_turn.specs.Outbox.{OwnsAll}
use Rattle.m2_center.proofs.Stages.{consistent_at, turns_records}
use Rattle.m2_turn.proofs.Told.{same_peers}
use Rattle.m2_center.proofs.center.Center.step.Goals as goal

pub step_all-requires-clause-out : goal.step_all-requires-clause-out
step_all-requires-clause-out g c = subst (λ p. OwnsAll p c.self.inside.out) (ap (λ v. pass_places v.bytes) c.self.view_is ∙ c.requires.throttles) c.self.invariant.0.out

pub invariant_of-self : goal.invariant_of-self
invariant_of-self g c =
    let was = c.self.invariant in
    let there = ap (λ v. pass_places v.bytes) c.self.view_is ∙ c.requires.throttles in
    let back = sym (c.step_all.ensures.takes ∙ ap places c.step_all.ensures.same.throttles) in (
      record {
        consistent = consistent_at _ _ _ _ _ _ _ _ (ap places c.step_all.ensures.same.throttles ∙ back) refl
            (c.step_all.ensures.consistent c.self.inside.entity c.self.inside.halves c.self.inside.loose.items
            (consistent_at _ _ _ _ _ _ _ _ there refl was.0.consistent));
        out = subst (λ p. OwnsAll p c.step_all.new.out) back c.step_all.ensures.out;
        queued = subst (λ p. AreOwned p c.self.inside.queued.waiting) (there ∙ back) was.0.queued;
      },
      was.1 ∙ sym (same_peers _ _ _ c.step_all.ensures.keeps),
      was.2,
      was.3,
    )

pub returns : goal.returns
returns g c = record {
  steps = (c.step_all.result, c.stepped_so.ensures, turns_records _ _ c.self.view_is _ _ c.step_all.result _ refl _ _ _ _ _ c.step_all.ensures.turns);
  queued = ap (λ v. v.queued) c.self.view_is;
  handed = subst (λ o. SaysMore c.args.handed.now c.step_all.new.handed (handed_in o.records) (handed_in c.step_all.new.records.items)) c.self.view_is c.step_all.ensures.handed;
  numbers = c.step_all.ensures.number_place ∙ ap (λ v. v.numbers.place) c.self.view_is;
  throttles = c.step_all.ensures.takes ∙ ap places c.step_all.ensures.same.throttles ∙ sym c.requires.throttles;
}
