use Rattle.m2_shared.specs.Gates.{places}
use Rattle.std.proofs.Common.{◌++◌, ◌∷◌, [], Some, arith, refl, subst, ◌∙◌}
use Rattle.m2_record.specs.Calls.{Owns}
use Rattle.m2_turn.specs.Outbox.{OwnsAll}
use Rattle.m2_turn.specs.RecordTurn.{LedOn, StepsOnce, means_of, turning}
use Rattle.m2_turn.proofs.Known.{stays_on}
use Rattle.m2_turn.proofs.MoreHanded.{says_none, says_then}
use Rattle.m2_turn.proofs.Led.{and_one, ends_turn, one_more, same_means}
use Rattle.m2_turn.proofs.record_turn.turn_record.Goals as goal

pub steps-init : goal.steps-init
steps-init g c = record {
  stood = [];
  steps = refl;
  count = refl;
  stays = record { facts = refl; made = (λ made all. all); known = (λ a is. is) };
  handed = says_none c.args.handed.now c.args.side.now.handed;
  top = c.requires.top;
  reached = (λ n fits h. h);
  owned = c.requires.owned;
  out = c.requires.out;
  number_place = refl;
  takes = c.requires.takes;
  same = record { numbers = refl; throttles = refl };
  number_pass = refl;
  passes = refl;
}

pub returns-in-Some-clause-turns : goal.returns-in-Some-clause-turns
returns-in-Some-clause-turns g c =
    ends_turn g.D.Dispatcher.heard (means_of c.args.now c.args.work.now) c.in-Some.end _ (turning c.steps.side c.steps.out c.steps.work) _
    (record { stood = c.steps.invariant.stood; steps = c.steps.invariant.steps; within = omega (arith, c.steps.invariant.count, c.steps-test.true) })
    (subst (λ m. StepsOnce g.D.Dispatcher.heard m (Some c.in-Some.end) (turning c.steps.side c.steps.out c.steps.work) (turning c.step_once.new.side c.step_once.new.out c.step_once.new.work))
    (same_means c.args.now c.args.work.now c.steps.work c.steps.invariant.same) c.in-Some.ensures.steps)

pub returns-in-Some-clause-handed : goal.returns-in-Some-clause-handed
returns-in-Some-clause-handed g c = says_then _ _ _ _ _ _ c.steps.invariant.handed c.step_once.ensures.handed

pub returns-in-Some-clause-reached : goal.returns-in-Some-clause-reached
returns-in-Some-clause-reached g c n fits h = c.step_once.ensures.reached n fits (c.steps.invariant.reached n fits h)

pub returns-in-Some-clause-owned : goal.returns-in-Some-clause-owned
returns-in-Some-clause-owned g c = subst (λ t. Owns (places t) c.step_once.new.side) c.steps.invariant.same.throttles c.step_once.ensures.owned

pub steps-preserved : goal.steps-preserved
steps-preserved g c = record {
  stood = c.steps.invariant.stood ++ turning c.step_once.new.side c.step_once.new.out c.step_once.new.work ∷ [];
  steps = and_one g.D.Dispatcher.heard (means_of c.args.now c.args.work.now) c.steps.invariant.stood _ (turning c.steps.side c.steps.out c.steps.work) _ c.steps.invariant.steps
      (subst (λ m. LedOn g.D.Dispatcher.heard m (turning c.steps.side c.steps.out c.steps.work) (turning c.step_once.new.side c.step_once.new.out c.step_once.new.work))
      (same_means c.args.now c.args.work.now c.steps.work c.steps.invariant.same) c.in_default.ensures.steps);
  count = omega (arith, one_more c.steps.invariant.stood (turning c.step_once.new.side c.step_once.new.out c.step_once.new.work), c.steps.invariant.count);
  stays = stays_on _ _ _ c.steps.invariant.stays c.step_once.ensures.stays;
  handed = says_then _ _ _ _ _ _ c.steps.invariant.handed c.step_once.ensures.handed;
  top = c.step_once.ensures.top;
  reached = (λ n fits h. c.step_once.ensures.reached n fits (c.steps.invariant.reached n fits h));
  owned = subst (λ t. Owns (places t) c.step_once.new.side) c.steps.invariant.same.throttles c.step_once.ensures.owned;
  out = subst (λ t. OwnsAll (places t) c.step_once.new.out) c.steps.invariant.same.throttles c.step_once.ensures.out;
  number_place = c.step_once.ensures.number_place ∙ c.steps.invariant.number_place;
  takes = c.step_once.ensures.takes;
  same = record { numbers = c.step_once.ensures.same.numbers ∙ c.steps.invariant.same.numbers; throttles = c.step_once.ensures.same.throttles ∙ c.steps.invariant.same.throttles };
  number_pass = c.step_once.ensures.number_pass ∙ c.steps.invariant.number_pass;
  passes = c.step_once.ensures.passes ∙ c.steps.invariant.passes;
}
