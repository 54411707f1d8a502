-- The turns of records: they have their peers and their plans still, and what they hand on is of their peers.
use Rattle.std.proofs.Common.{◌≡◌, inl, inr, ℕ, Bool, true, false, List, [], ◌∷◌, ◌++◌, map, Ok, Err, refl, sym, ap, subst, ◌∙◌}
use Rattle.std.specs.List.{AllByRecursion}
use Rattle.std.proofs.lemmas.List.{map-append}
use Rattle.m2_history.specs.m2_channel.Handing as handing
use Rattle.m2_dispatch.specs.Heard.{Heard}
use Rattle.m2_dispatch.specs.declared.parcel.Parcel.{Parcel}
use Rattle.m2_dispatch.specs.declared.parcel.Parcel.TheVariants as parcel
use Rattle.m2_history.specs.m2_record.declared.stepped.Stepped.{Stepped}
use Rattle.m2_history.specs.m2_record.declared.stepped.Stepped.TheVariants as stepped
use Rattle.m2_history.specs.m2_record.Due.{due_step}
use Rattle.m2_history.specs.m2_record.IsRecord.{IsFrom}
use Rattle.m2_history.specs.m2_record.RecordNow.{RecordNow}
use Rattle.m2_cluster.specs.m2_center.m2_turn.declared.record_turn.RecordTurn.{RecordTurn}
use Rattle.m2_cluster.specs.m2_center.m2_turn.declared.record_turn.RecordTurn.TheVariants as one
use Rattle.m2_cluster.specs.m2_center.m2_turn.declared.records_turn.RecordsTurn.{RecordsTurn}
use Rattle.m2_cluster.specs.m2_center.m2_turn.declared.records_turn.RecordsTurn.TheVariants as turn
use Rattle.m2_cluster.specs.m2_center.m2_turn.Outbox.{OutboxNow, is_free}
use Rattle.m2_cluster.specs.m2_center.m2_turn.RecordTurn.{EndsBy, Means, PutsHanded, Steps, TakesStep, Turning, TurnsAs, worked_by}
use Rattle.m2_cluster.specs.m2_center.m2_turn.RecordsTurn.{AllAmid, Amid, Around, DialsAndSteps, EachTurns, TurnsEach, TurnsIf, TurnsInOrder, all_amid, amid, at_port, sides_of, turning_amid}
use Rattle.m2_growth.proofs.Steps as growth
use Rattle.m2_cluster.proofs.m2_center.m2_turn.Handed.{StepHands, steps}
use Rattle.m2_cluster.proofs.m2_center.m2_turn.Steady.{dialled_steady}
use Rattle.m2_links_go_on.proofs.KeptPlans.{KeepPlans, KeepsPlan, planned_of, steady_plan}
use Rattle.m2_links_go_on.proofs.PeerOutboxes.{FastIsOf, all_parted, put, retried}

-- ---- where a parcel comes from

from_peer : (Allowed : ℕ → Type 0) (place : ℕ) (x : Parcel) → IsFrom place x → Allowed place → Allowed (handing.peer_of x)
from_peer Allowed place (parcel.Letter l) h allowed = subst Allowed (sym h.0) allowed
from_peer Allowed place (parcel.Discard peer) h allowed = subst Allowed (sym h) allowed
from_peer Allowed place (parcel.RemoteReset peer) h allowed = subst Allowed (sym h) allowed

-- ---- the plans of records, of which one stands among others

kept_among : (xs ys : List RecordNow) (r s : RecordNow) (rest : List RecordNow) → KeepPlans xs ys → KeepsPlan r s →
    map planned_of (ys ++ s ∷ rest) ≡ map planned_of (xs ++ r ∷ rest)
kept_among xs ys r s rest many one =
    map-append planned_of ys (s ∷ rest)
    ∙ ap (λ l. l ++ map planned_of (s ∷ rest)) many
    ∙ ap (λ p. map planned_of xs ++ p ∷ map planned_of rest) one
    ∙ sym (map-append planned_of xs (r ∷ rest))

module _ {D : Type 0} (heard : D → List Heard) (m : Means) (Allowed : ℕ → Type 0) where
  abbrev IsOf : OutboxNow D → Type 0
  IsOf o = FastIsOf heard Allowed o

  -- ---- one record

  record Turns (old new : Turning D) : Type 0 where
    plan : KeepsPlan old.side new.side
    out : Allowed old.side.place → IsOf old.out → IsOf new.out

  turns_chain : (a b c : Turning D) → Turns a b → Turns b c → Turns a c
  turns_chain a b c first second = record {
    plan = second.plan ∙ first.plan;
    out = λ here so. second.out (subst Allowed (sym (ap (λ p. p.0) first.plan)) here) (first.out here so);
  }

  by_answer : (answer : Stepped) (old new : Turning D) → TakesStep heard m answer old new → StepHands answer old.side new.side →
      PutsHanded heard answer old.out new.out → Allowed old.side.place → IsOf old.out → IsOf new.out
  by_answer (stepped.Hand x) old new t h p here so =
      let from : IsFrom old.side.place x = (subst (AllByRecursion (IsFrom old.side.place)) h.first t.before.kept.parcels).0 in
      put heard Allowed x old.out new.out (from_peer Allowed old.side.place x from here) so p
  by_answer _ old new t h p here so = subst IsOf (sym p) so

  takes_step : (answer : Stepped) (old new : Turning D) → TakesStep heard m answer old new → Turns old new
  takes_step answer old new t = record {
    plan = ap (λ f. (f.place, f.plan)) (growth.steps answer (worked_by m answer t.behind old new) old.side new.side t.steps).fixed;
    out = by_answer answer old new t (steps answer (worked_by m answer t.behind old new) old.side new.side refl t.steps) t.puts;
  }

  led : (ts : List (Turning D)) (old new : Turning D) → Steps heard m ts old new → Turns old new
  led [] old new e = subst (Turns old) e (record { plan = refl; out = λ here so. so })
  led (t ∷ ts) old new (first, rest) = turns_chain old t new (takes_step first.answer old t first.takes) (led ts t new rest)

  ends_by : (result : RecordTurn) (old new : Turning D) → EndsBy heard m result old new → Turns old new
  ends_by result old new e = turns_chain old e.mid new (led e.led.stood old e.mid e.led.steps) (takes_step e.answer e.mid new e.takes)

  turns : (result : RecordTurn) (old new : Turning D) → TurnsAs heard m result old new → Turns old new
  turns one.Busy old new t = led t.stood old new t.steps
  turns one.Stuck old new t = led t.led.stood old new t.led.steps
  turns one.Dry old new t = ends_by one.Dry old new t
  turns (one.Full stage held) old new t = ends_by (one.Full stage held) old new t
  turns (one.Again stage seen at) old new t = ends_by (one.Again stage seen at) old new t
  turns one.Spent old new t = ends_by one.Spent old new t
  turns (one.Faulted cause) old new t = ends_by (one.Faulted cause) old new t
  turns one.NoMemory old new t = ends_by one.NoMemory old new t

  -- ---- its connect, and then its steps

  dials_and_steps : (result : RecordsTurn) (old new : Amid D) → DialsAndSteps heard m result old new → Turns (turning_amid old.side old.around) (turning_amid new.side new.around)
  dials_and_steps result old new d =
      let first = steady_plan old.side d.mid.side (dialled_steady (due_step m.now old.side) (Ok tt) m.now (at_port old) d.mid d.dials) in
      let onward = turns d.ended (turning_amid d.mid.side old.around) (turning_amid new.side new.around) d.turns in
      record { plan = onward.plan ∙ first; out = λ here so. onward.out (subst Allowed (sym (ap (λ p. p.0) first)) here) so }

  one_turns : (free : Bool) (result : RecordsTurn) (old new : Amid D) → TurnsIf free heard m result old new → Turns (turning_amid old.side old.around) (turning_amid new.side new.around)
  one_turns true turn.Done old new d = dials_and_steps turn.Done old new d
  one_turns true turn.NoMemory old new (inl d) = record {
    plan = steady_plan old.side new.side (dialled_steady (due_step m.now old.side) (Err (record {})) m.now (at_port old) (at_port new) d.dials);
    out = λ here so. subst IsOf (sym (ap (λ (a : Around D). a.out) d.only)) so;
  }
  one_turns true turn.NoMemory old new (inr d) = dials_and_steps turn.NoMemory old new d
  one_turns false turn.Done old new e =
      subst (λ (a : Amid D). Turns (turning_amid old.side old.around) (turning_amid a.side a.around)) (sym e) (record { plan = refl; out = λ here so. so })
  one_turns false turn.NoMemory old new e = absurd e

  -- ---- all of them, one after another

  abbrev IsAllowed : RecordNow → Type 0
  IsAllowed r = Allowed r.place

  each : (rs : List RecordNow) (stood : List (Amid D)) (old new : Around D) → EachTurns heard m rs stood old new → AllByRecursion IsAllowed rs → IsOf old.out →
      KeepPlans rs (sides_of stood) × IsOf new.out
  each [] [] old new e all so = (refl, subst (λ (a : Around D). IsOf a.out) (sym e) so)
  each (r ∷ rs) (a ∷ more) old new (first, rest) all so =
      let once = one_turns (is_free old.out) turn.Done (amid r old) a first in
      let others = each rs more a.around new rest all.1 (once.out all.0 so) in
      (ap (λ p. p ∷ map planned_of (sides_of more)) once.plan ∙ ap (λ l. planned_of r ∷ l) others.0, others.1)
  each [] (a ∷ more) old new e all so = absurd e
  each (r ∷ rs) [] old new e all so = absurd e

  abbrev HaveTurned : (old new : AllAmid D) → Type 0
  HaveTurned old new = KeepPlans old.records new.records × IsOf new.around.out

  in_order : (result : RecordsTurn) (old new : AllAmid D) → TurnsInOrder heard m result old new → AllByRecursion IsAllowed old.records → IsOf old.around.out → HaveTurned old new
  in_order turn.Done old new t all so =
      let done = each old.records t.stood old.around new.around t.turns all so in
      (ap (map planned_of) t.records ∙ done.0, done.1)
  in_order turn.NoMemory old new t all so =
      let parts = all_parted IsAllowed t.before (t.at ∷ t.rest) (subst (AllByRecursion IsAllowed) t.split all) in
      let done = each t.before t.stood old.around t.mid t.turns parts.0 so in
      let once = one_turns (is_free t.mid.out) turn.NoMemory (amid t.at t.mid) (amid t.left new.around) t.stops in (
        ap (map planned_of) t.records ∙ kept_among t.before (sides_of t.stood) t.at t.left t.rest done.0 once.plan ∙ sym (ap (map planned_of) t.split),
        once.out parts.1.0 done.1,
      )

  -- the letter that is held is tried again first
  pub records_turn : (result : RecordsTurn) (old new : AllAmid D) → TurnsEach heard m result old new → AllByRecursion (λ (r : RecordNow). Allowed r.place) old.records →
      FastIsOf heard Allowed old.around.out →
      KeepPlans old.records new.records × FastIsOf heard Allowed new.around.out
  records_turn result old new t all so =
      in_order result (all_amid old.records t.retried) new t.turns all (retried heard Allowed old.around.out t.retried.out so t.retries)
