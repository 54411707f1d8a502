-- What becomes of what a center has of its sockets, in its turn and where one of its records plans a step.
use Rattle.std.proofs.Common.{inl, inr, List, Ok, Err, refl, sym, ap, subst}
use Rattle.std.specs.Prelude.{slice_set}
use Rattle.m2_dispatch.specs.Heard.{Heard}
use Rattle.m2_cluster.specs.m2_center.Center.{CenterNow}
use Rattle.m2_cluster.specs.m2_center.CenterTurn.{AndThen, Answer, AcceptsSo, AnswersSo, DeliversSo, Part, StepsSo, accepting_in, all_amid_in, callers_of, means_at}
use Rattle.m2_cluster.specs.Node.{NodePlans, NodeTurns}
use Rattle.m2_growth.specs.Holding.{AreOwn, Grows}
use Rattle.m2_growth.proofs.Accepts.{accepts_grow}
use Rattle.m2_growth.proofs.Going.{grows_by, grows_then}
use Rattle.m2_growth.proofs.HalfTurns.{halves_grow}
use Rattle.m2_growth.proofs.Plans.{plans_grow}
use Rattle.m2_growth.proofs.RecordTurns.{record_turns}
use Rattle.m2_history.specs.m2_record.RecordNow.{RecordNow}
use Rattle.m2_cluster.specs.m2_center.m2_turn.RecordTurn.{Means}
use Rattle.m2_links_go_on.specs.Center.{holding_of}
use Rattle.m2_links_go_on.specs.ClusterLaws.{NodePlanGrows, NodeTurnGrows, PlanGrows, TurnGrows}
use Rattle.m2_links_go_on.proofs.OneGrows.{acts_so}

-- ---- a turn

module _ {D : Type 0} where
  abbrev GrowsIn : CenterNow D → CenterNow D → Type 0
  GrowsIn old new = AreOwn (holding_of old) → Grows (holding_of old) (holding_of new)

  abbrev AllGrow : Part D → Type 0
  AllGrow part = (a : Answer) (old new : CenterNow D) → part a old new → GrowsIn old new

  chain : (a b c : CenterNow D) → GrowsIn a b → GrowsIn b c → GrowsIn a c
  chain a b c f s own = let g = f own in grows_then (holding_of a) (holding_of b) (holding_of c) g (s g.own)

  and_then : (first second : Part D) → AllGrow first → AllGrow second → AllGrow (AndThen first second)
  and_then first second f s (Ok done) old new h = chain old h.0 new (f (Ok tt) old h.0 h.1) (s (Ok tt) h.0 new h.2)
  and_then first second f s (Err e) old new h =
      elim h [ inl g ↦ f (Err e) old new g | inr g ↦ chain old g.0 new (f (Ok tt) old g.0 g.1) (s (Err e) g.0 new g.2) ]

  pub accepts : AllGrow AcceptsSo
  accepts a old new h = λ own.
      subst (λ rs. Grows (holding_of old) (record { port = new.port; records = rs; halves = new.halves })) (sym (ap (λ (c : CenterNow D). c.records) h.2.only))
      (accepts_grow old.entity h.0 old.records (accepting_in old) (accepting_in new) h.2.accepts own)

  pub answers : (E : Type 0) (m : Means) → AllGrow (AnswersSo E m)
  answers E m a old new h = λ own.
      subst (λ p. Grows (holding_of old) (record { port = p; records = new.records; halves = new.halves })) (sym (ap (λ (c : CenterNow D). c.port) h.2.only))
      (halves_grow E h.0 m old.port (callers_of old) (callers_of new) h.2.turns own)

  pub steps : (heard : D → List Heard) (m : Means) → AllGrow (StepsSo heard m)
  steps heard m a old new h = λ own.
      subst (λ g. Grows (holding_of old) (record { port = new.port; records = new.records; halves = g })) (sym (ap (λ (c : CenterNow D). c.halves) h.2.only))
      (record_turns heard m h.0 old.halves (all_amid_in old) (all_amid_in new) h.2.turns own)

  pub delivers : (heard : D → List Heard) (m : Means) → AllGrow (DeliversSo heard m)
  delivers heard m a old new h = λ own. grows_by (holding_of old) (holding_of new) (ap holding_of h.2.only) own

pub turn_grows : (D E : Type 0) → TurnGrows D E
turn_grows D E heard m =
    and_then AcceptsSo (AndThen (AnswersSo E m) (AndThen (StepsSo heard m) (DeliversSo heard m))) accepts
    (and_then (AnswersSo E m) (AndThen (StepsSo heard m) (DeliversSo heard m)) (answers E m)
    (and_then (StepsSo heard m) (DeliversSo heard m) (steps heard m) (delivers heard m)))

-- ---- a step that is planned

pub plan_grows : (D : Type 0) → PlanGrows D
plan_grows D answer peer step now throttle old new p own =
    let behind : List RecordNow = slice_set old.records p.place p.behind in
    subst (Grows (holding_of old)) (sym (ap holding_of p.only))
    (plans_grow answer step now old.port old.halves old.records behind
    (record { place = p.place; before = p.before; behind = p.behind; side = p.side; plans = p.plans; records = refl }) own)

-- ---- a cluster of which one node acts

pub node_turn_grows : (D E : Type 0) → NodeTurnGrows D E
node_turn_grows D E heard now answer node old new does own =
    acts_so node (NodeTurns E heard now answer) old new does
    (turn_grows D E heard (means_at now does.before.numbers does.before.throttles) answer does.before.center does.behind.center does.does.turns own)

pub node_plan_grows : (D : Type 0) → NodePlanGrows D
node_plan_grows D answer peer step now node old new does own =
    acts_so node (NodePlans answer peer step now) old new does
    (plan_grows D answer peer step now does.before.throttles does.before.center does.behind.center does.does.plans own)
