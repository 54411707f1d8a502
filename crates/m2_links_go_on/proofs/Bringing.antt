-- In a turn of a center, part by part, only sockets that go elsewhere get an end that had none; and so where a record plans a step.
use Rattle.std.proofs.Common.{inl, inr, List, Ok, Err, refl, sym, ap, subst}
use Rattle.std.specs.Prelude.{IsSome, slice_set}
use Rattle.m2_dispatch.specs.Heard.{Heard}
use Rattle.m2_fabric.specs.Port.{SeenPort}
use Rattle.m2_history.specs.m2_record.RecordNow.{RecordNow}
use Rattle.m2_cluster.specs.m2_center.Center.{CenterNow}
use Rattle.m2_cluster.specs.m2_center.CenterTurn.{AndThen, Answer, AcceptsSo, AnswersSo, DeliversSo, Part, StepsSo, accepting_in, all_amid_in, callers_of}
use Rattle.m2_growth.specs.Holding.{AreOwn, Grows, all_ends}
use Rattle.m2_growth.proofs.Plans.{plans_grow}
use Rattle.m2_cluster.specs.m2_center.m2_turn.RecordTurn.{Means}
use Rattle.m2_links_go_on.specs.Center.{holding_of}
use Rattle.m2_links_go_on.specs.ClusterLaws.{PlanBringsElsewhere, TurnBringsElsewhere}
use Rattle.m2_links_go_on.proofs.Brings.{Brings, accepts_bring, by_same, chain, halves_bring, just, just_brings, just_own, records_bring}
use Rattle.m2_links_go_on.proofs.Turning.{accepts, answers, steps}

module _ {D : Type 0} where
  abbrev AllBring : Part D → Type 0
  AllBring part = (a : Answer) (old new : CenterNow D) → part a old new → AreOwn (holding_of old) → Brings (holding_of old) (holding_of new)

  abbrev AllGrow : Part D → Type 0
  AllGrow part = (a : Answer) (old new : CenterNow D) → part a old new → AreOwn (holding_of old) → Grows (holding_of old) (holding_of new)

  -- where this holds of the port
  abbrev AllBringAt : (SeenPort → Type 0) → Part D → Type 0
  AllBringAt P part = (a : Answer) (old new : CenterNow D) → part a old new → P old.port → AreOwn (holding_of old) → Brings (holding_of old) (holding_of new)

  both_at : (P : SeenPort → Type 0) (first second : Part D) → AllGrow first → AllBringAt P first → AllBring second → AllBringAt P (AndThen first second)
  both_at P first second grow f s (Ok done) old new h at own =
      let g = grow (Ok tt) old h.0 h.1 own in
      chain (holding_of old) (holding_of h.0) (holding_of new) g.grows.at (f (Ok tt) old h.0 h.1 at own) (s (Ok tt) h.0 new h.2 g.own)
  both_at P first second grow f s (Err e) old new (inl h) at own = f (Err e) old new h at own
  both_at P first second grow f s (Err e) old new (inr h) at own =
      let g = grow (Ok tt) old h.0 h.1 own in
      chain (holding_of old) (holding_of h.0) (holding_of new) g.grows.at (f (Ok tt) old h.0 h.1 at own) (s (Err e) h.0 new h.2 g.own)

  both : (first second : Part D) → AllGrow first → AllBring first → AllBring second → AllBring (AndThen first second)
  both first second grow f s a old new h own = both_at (λ p. Unit {0}) first second grow (λ a old new h at. f a old new h) s a old new h tt own

  accepts_so : AllBringAt (λ p. IsSome p.waiting) AcceptsSo
  accepts_so a old new h memory own =
      subst (λ rs. Brings (holding_of old) (record { port = new.port; records = rs; halves = new.halves })) (sym (ap (λ (c : CenterNow D). c.records) h.2.only))
      (accepts_bring old.entity h.0 old.records (accepting_in old) (accepting_in new) h.2.accepts memory)

  answers_so : (E : Type 0) (m : Means) → AllBring (AnswersSo E m)
  answers_so E m a old new h own =
      subst (λ p. Brings (holding_of old) (record { port = p; records = new.records; halves = new.halves })) (sym (ap (λ (c : CenterNow D). c.port) h.2.only))
      (halves_bring E h.0 m old.port (callers_of old) (callers_of new) h.2.turns own)

  steps_so : (heard : D → List Heard) (m : Means) → AllBring (StepsSo heard m)
  steps_so heard m a old new h own =
      subst (λ g. Brings (holding_of old) (record { port = new.port; records = new.records; halves = g })) (sym (ap (λ (c : CenterNow D). c.halves) h.2.only))
      (records_bring heard m h.0 old.halves (all_amid_in old) (all_amid_in new) h.2.turns own)

  delivers_so : (heard : D → List Heard) (m : Means) → AllBring (DeliversSo heard m)
  delivers_so heard m a old new h own = by_same (holding_of old) (holding_of new) (ap (λ (c : CenterNow D). all_ends (holding_of c)) h.2.only)

pub turn_brings : (D E : Type 0) → TurnBringsElsewhere D E
turn_brings D E heard m =
    both_at (λ p. IsSome p.waiting) AcceptsSo (AndThen (AnswersSo E m) (AndThen (StepsSo heard m) (DeliversSo heard m))) accepts accepts_so
    (both (AnswersSo E m) (AndThen (StepsSo heard m) (DeliversSo heard m)) (answers E m) (answers_so E m)
    (both (StepsSo heard m) (DeliversSo heard m) (steps heard m) (steps_so heard m) (delivers_so heard m)))

pub plan_brings : (D : Type 0) → PlanBringsElsewhere D
plan_brings D answer peer step now throttle old new p own =
    let behind : List RecordNow = slice_set old.records p.place p.behind in
    subst (Brings (holding_of old)) (sym (ap holding_of p.only))
    (just_brings (holding_of old) behind old.halves own
    (plans_grow answer step now (just (holding_of old)) old.halves old.records behind
    (record { place = p.place; before = p.before; behind = p.behind; side = p.side; plans = p.plans; records = refl }) (just_own (holding_of old) own)))
