-- The turns of records, one after another.
use Rattle.std.proofs.Common.{◌≡◌, inl, inr, Bool, true, false, List, [], ◌∷◌, ◌++◌, None, Ok, Err, refl, sym, ap, subst, ◌∙◌, append-nil, append_assoc}
use Rattle.std.proofs.lemmas.List.Elements.{filter_map-append}
use Rattle.m2_dispatch.specs.Heard.{Heard}
use Rattle.m2_weave.specs.m2_journal.declared.entry.Entry.{Entry}
use Rattle.m2_weave.specs.m2_journal.declared.entry.Entry.TheVariants as entry
use Rattle.m2_turn.specs.m2_record.RecordNow.{RecordNow}
use Rattle.m2_turn.specs.m2_record.TakenTrails.{judgement_of, judgements_in}
use Rattle.m2_turn.specs.declared.record_turn.RecordTurn.{RecordTurn}
use Rattle.m2_turn.specs.declared.record_turn.RecordTurn.TheVariants as one
use Rattle.m2_turn.specs.declared.records_turn.RecordsTurn.{RecordsTurn}
use Rattle.m2_turn.specs.declared.records_turn.RecordsTurn.TheVariants as turn
use Rattle.m2_turn.specs.Halves.{AllHalves}
use Rattle.m2_turn.specs.Outbox.{is_free}
use Rattle.m2_turn.specs.RecordTurn.{EndsBy, Means, Steps, TakesStep, Turning, TurnsAs}
use Rattle.m2_turn.specs.RecordsTurn.{AllAmid, Amid, Around, DialsAndSteps, EachTurns, TurnsIf, TurnsInOrder, TurnsOne, all_amid, amid, at_port, sides_of, turning_amid}
use Rattle.m2_turn.specs.Steps.{BringsNoSocket}
use Rattle.m2_turn.specs.Steps as journal
use Rattle.m2_turn.proofs.GoesOn as journals
use Rattle.m2_growth.specs.Holding.{AreOwn, Grows, Holding}
use Rattle.m2_growth.specs.GrowthLaws.{RecordTurnsGrow, at_records}
use Rattle.m2_growth.proofs.Dials.{dials}
use Rattle.m2_growth.proofs.Ends.{on_by}
use Rattle.m2_growth.proofs.Going.{grows_by, grows_then}
use Rattle.m2_growth.proofs.OneRecord.{Advances, holding, one_advances}
use Rattle.m2_growth.proofs.Standing.{MovesOn, moves_chain, moves_same}
use Rattle.m2_growth.proofs.Steps.{steps}
use Rattle.m2_turn.proofs.Known.{none_judged}

-- ---- what steps one after another do to a record

-- its journal goes on, and it moves on
pub record StepsOn (old new : RecordNow) : Type 0 where
  pub moves : MovesOn old new
  pub journal : journal.GoesOn old new

steps_same : (r s : RecordNow) → s ≡ r → StepsOn r s
steps_same r s e = rw e (record { moves = moves_same r r refl refl; journal = journals.same r r refl refl })

steps_chain : (r s t : RecordNow) → StepsOn r s → StepsOn s t → StepsOn r t
steps_chain r s t p q = record { moves = moves_chain r s t p.moves q.moves; journal = journals.chain r s t p.journal q.journal }

judges_none : (e : Entry) → BringsNoSocket e → judgement_of e ≡ None
judges_none (entry.Opened socket) none = absurd none
judges_none (entry.Judged socket ask number answer) none = absurd none
judges_none _ none = refl

pub advances_on : (r s : RecordNow) → StepsOn r s → Advances r s
advances_on r s on = record {
  grows = record {
    place = ap (λ f. f.place) on.moves.fixed;
    facts = on.journal.facts;
    plan = on_by r.plan s.plan (ap (λ f. f.plan) on.moves.fixed);
    journal = (on.journal.more, on.journal.journal);
    trails = on_by r.trails s.trails (ap (λ f. f.trails) on.moves.fixed);
  };
  judged = ap judgements_in on.journal.journal ∙ filter_map-append judgement_of r.journal on.journal.more
      ∙ ap (λ l. judgements_in r.journal ++ l) (none_judged on.journal.more on.journal.no_socket) ∙ append-nil (judgements_in r.journal);
  trails = ap (λ f. f.trails) on.moves.fixed;
  fed = on.moves.stands.fed;
}

-- ---- the turn of a record

module _ {D : Type 0} (heard : D → List Heard) (m : Means) where
  takes_step : (answer : _) (old new : Turning D) → TakesStep heard m answer old new → StepsOn old.side new.side
  takes_step answer old new t = record { moves = steps answer _ old.side new.side t.steps; journal = journals.steps answer _ old.side new.side t.steps }

  led : (ts : List (Turning D)) (old new : Turning D) → Steps heard m ts old new → StepsOn old.side new.side
  led [] old new e = steps_same old.side new.side (ap (λ (t : Turning D). t.side) (sym e))
  led (t ∷ ts) old new (first, rest) = steps_chain old.side t.side new.side (takes_step first.answer old t first.takes) (led ts t new rest)

  ends_by : (result : RecordTurn) (old new : Turning D) → EndsBy heard m result old new → StepsOn old.side new.side
  ends_by result old new e = steps_chain old.side e.mid.side new.side (led e.led.stood old e.mid e.led.steps) (takes_step e.answer e.mid new e.takes)

  pub turns : (result : RecordTurn) (old new : Turning D) → TurnsAs heard m result old new → StepsOn old.side new.side
  turns one.Busy old new t = led t.stood old new t.steps
  turns one.Stuck old new t = led t.led.stood old new t.led.steps
  turns one.Dry old new t = ends_by one.Dry old new t
  turns (one.Full stage held) old new t = ends_by (one.Full stage held) old new t
  turns (one.Again stage seen at) old new t = ends_by (one.Again stage seen at) old new t
  turns one.Spent old new t = ends_by one.Spent old new t
  turns (one.Faulted cause) old new t = ends_by (one.Faulted cause) old new t
  turns one.NoMemory old new t = ends_by one.NoMemory old new t

  -- ---- among the others

  -- what a center has, with this record between those
  abbrev with_one : List RecordNow → List RecordNow → AllHalves → Amid D → Holding
  with_one before rest halves a = holding a.around.port (before ++ a.side ∷ rest) halves

  dials_and_steps : (result : RecordsTurn) (old new : Amid D) (before rest : List RecordNow) (halves : AllHalves) → DialsAndSteps heard m result old new →
      AreOwn (with_one before rest halves old) → Grows (with_one before rest halves old) (with_one before rest halves new)
  dials_and_steps result old new before rest halves d own =
      let first = dials (Ok tt) m.now (at_port old) d.mid before rest halves d.dials own in
      let stepped = turns d.ended (turning_amid d.mid.side old.around) (turning_amid new.side new.around) d.turns in
      grows_then (with_one before rest halves old) (holding d.mid.port (before ++ d.mid.side ∷ rest) halves) (with_one before rest halves new) first
      (one_advances d.mid.port new.around.port before rest d.mid.side new.side halves (record { at = ap (λ x. x.at) d.port; made = ap (λ x. x.made) d.port; waiting = ap (λ x. x.waiting) d.port })
      (advances_on d.mid.side new.side stepped) stepped.moves.stands.ends first.own)

  turns_if : (free : Bool) (result : RecordsTurn) (old new : Amid D) (before rest : List RecordNow) (halves : AllHalves) → TurnsIf free heard m result old new →
      AreOwn (with_one before rest halves old) → Grows (with_one before rest halves old) (with_one before rest halves new)
  turns_if true turn.Done old new before rest halves d own = dials_and_steps turn.Done old new before rest halves d own
  turns_if true turn.NoMemory old new before rest halves (inl d) own = dials (Err (record {})) m.now (at_port old) (at_port new) before rest halves d.dials own
  turns_if true turn.NoMemory old new before rest halves (inr d) own = dials_and_steps turn.NoMemory old new before rest halves d own
  turns_if false turn.Done old new before rest halves e own = grows_by (with_one before rest halves old) (with_one before rest halves new) (ap (with_one before rest halves) e) own
  turns_if false turn.NoMemory old new before rest halves e own = absurd e

  pub turns_one : (result : RecordsTurn) (old new : Amid D) (before rest : List RecordNow) (halves : AllHalves) → TurnsOne heard m result old new →
      AreOwn (with_one before rest halves old) → Grows (with_one before rest halves old) (with_one before rest halves new)
  turns_one result old new before rest halves t own = turns_if (is_free old.around.out) result old new before rest halves t own

  -- ---- one after another

  -- those before have taken their turns, and those at the end take none now
  each_turns : (done rs rest : List RecordNow) (stood : List (Amid D)) (old new : Around D) (halves : AllHalves) → EachTurns heard m rs stood old new →
      AreOwn (holding old.port (done ++ (rs ++ rest)) halves) → Grows (holding old.port (done ++ (rs ++ rest)) halves) (holding new.port (done ++ (sides_of stood ++ rest)) halves)
  each_turns done [] rest [] old new halves e own =
      grows_by (holding old.port (done ++ rest) halves) (holding new.port (done ++ rest) halves) (ap (λ (a : Around D). holding a.port (done ++ rest) halves) e) own
  each_turns done (r ∷ rs) rest (a ∷ more) old new halves (first, others) own =
      let one = turns_one turn.Done (amid r old) a done (rs ++ rest) halves first own in
      let moved : (done ++ a.side ∷ []) ++ (rs ++ rest) ≡ done ++ a.side ∷ (rs ++ rest) = append_assoc done (a.side ∷ []) (rs ++ rest) in
      let moved_too : (done ++ a.side ∷ []) ++ (sides_of more ++ rest) ≡ done ++ a.side ∷ (sides_of more ++ rest) = append_assoc done (a.side ∷ []) (sides_of more ++ rest) in
      let then_on = each_turns (done ++ a.side ∷ []) rs rest more a.around new halves others (subst (λ l. AreOwn (holding a.around.port l halves)) (sym moved) one.own) in
      grows_then (holding old.port (done ++ r ∷ (rs ++ rest)) halves) (holding a.around.port (done ++ a.side ∷ (rs ++ rest)) halves) (holding new.port (done ++ a.side ∷ (sides_of more ++ rest)) halves) one
      (subst (λ l. Grows (holding a.around.port l halves) (holding new.port (done ++ a.side ∷ (sides_of more ++ rest)) halves)) moved
      (subst (λ l. Grows (holding a.around.port ((done ++ a.side ∷ []) ++ (rs ++ rest)) halves) (holding new.port l halves)) moved_too then_on))
  each_turns done [] rest (a ∷ more) old new halves e own = absurd e
  each_turns done (r ∷ rs) rest [] old new halves e own = absurd e

  in_order : (result : RecordsTurn) (old new : AllAmid D) (halves : AllHalves) → TurnsInOrder heard m result old new →
      AreOwn (at_records halves old) → Grows (at_records halves old) (at_records halves new)
  in_order turn.Done old new halves t own =
      let whole = each_turns [] old.records [] t.stood old.around new.around halves t.turns (subst (λ l. AreOwn (holding old.around.port l halves)) (sym (append-nil old.records)) own) in
      subst (λ l. Grows (at_records halves old) (holding new.around.port l halves)) (append-nil (sides_of t.stood) ∙ sym t.records)
      (subst (λ l. Grows (holding old.around.port l halves) (holding new.around.port (sides_of t.stood ++ []) halves)) (append-nil old.records) whole)
  in_order turn.NoMemory old new halves t own =
      let before = each_turns [] t.before (t.at ∷ t.rest) t.stood old.around t.mid halves t.turns (subst (λ l. AreOwn (holding old.around.port l halves)) t.split own) in
      let stopped = turns_one turn.NoMemory (amid t.at t.mid) (amid t.left new.around) (sides_of t.stood) t.rest halves t.stops before.own in
      let both = grows_then (holding old.around.port (t.before ++ t.at ∷ t.rest) halves) (holding t.mid.port (sides_of t.stood ++ t.at ∷ t.rest) halves) (holding new.around.port (sides_of t.stood ++ t.left ∷ t.rest) halves) before stopped in
      subst (λ l. Grows (at_records halves old) (holding new.around.port l halves)) (sym t.records)
      (subst (λ l. Grows (holding old.around.port l halves) (holding new.around.port (sides_of t.stood ++ t.left ∷ t.rest) halves)) (sym t.split) both)

-- the letter that is held is tried again first, which the port and the records don't feel
pub record_turns : {D : Type 0} → RecordTurnsGrow D
record_turns {D} heard m result halves old new t own =
    let same : holding t.retried.port old.records halves ≡ at_records halves old = ap (λ (a : Around D). holding a.port old.records halves) t.only in
    subst (λ h. Grows h (at_records halves new)) same
    (in_order heard m result (all_amid old.records t.retried) new halves t.turns (subst AreOwn (sym same) own))
