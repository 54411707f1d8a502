-- The parts of a center's turn, by what each changes of it.
use Rattle.std.proofs.Common.{◌≡◌, ℕ, List, Some, OnOk, refl, ap, subst, sym, ◌∙◌}
use Rattle.std.specs.Prelude.{slice_get, slice_set}
use Rattle.m2_dispatch.specs.Heard.{Heard}
use Rattle.m2_dispatch.specs.Dispatch.{Queued}
use Rattle.m2_dispatch.specs.declared.parcel.Parcel.{Parcel}
use Rattle.m2_fabric.specs.declared.socket.SocketId.{SocketId}
use Rattle.m2_fabric.specs.Port.{SeenPort}
use Rattle.m2_journal.specs.declared.facts.PlanStep.{PlanStep}
use Rattle.m2_record.specs.Calls.{returned_by}
use Rattle.m2_record.specs.RecordNow.{RecordNow}
use Rattle.m2_shared.specs.Numbers.{SeenNumberPass}
use Rattle.m2_shared.specs.Gates.{Places, Return, pass_places, places}
use Rattle.m2_shared.specs.declared.throttles.TakePasses.{TakePasses}
use Rattle.m2_shared.specs.declared.throttles.Throttles.{Throttles}
use Rattle.m2_turn.specs.declared.accepting.Accepted.{Accepted}
use Rattle.m2_turn.specs.declared.halves_turn.HalvesTurn.{HalvesTurn}
use Rattle.m2_turn.specs.declared.mailing.Mailed.{Mailed}
use Rattle.m2_turn.specs.declared.records_turn.RecordsTurn.{RecordsTurn}
use Rattle.m2_turn.specs.Accepting.{AcceptsAll}
use Rattle.m2_center.specs.Center.{CenterNow}
use Rattle.m2_center.specs.CenterTurn.{Accepts, Answer, EmptiesMail, TurnsHalves, TurnsRecords, accepting_in, around_in, mailing_in}
use Rattle.m2_center.specs.Plans.{PlansIn, place_towards}
use Rattle.m2_turn.specs.Halves.{AllHalves, sessions_with}
use Rattle.m2_turn.specs.HalvesTurn as halves
use Rattle.m2_turn.specs.HandingOn.{HandsLetters}
use Rattle.m2_turn.specs.Mailing.{Mails, mailing}
use Rattle.m2_turn.specs.Outbox.{OutboxNow}
use Rattle.m2_turn.specs.Planning.{PlansNow}
use Rattle.m2_turn.specs.RecordTurn.{Means}
use Rattle.m2_turn.specs.RecordsTurn.{TurnsEach, all_amid}
use Rattle.m2_turn.specs.Sessions.{AreConsistent, Sessions, Supply}

module _ {D : Type 0} (was old : CenterNow D) (same : was ≡ old) where
  pub accepts : (result : Accepted) (port : SeenPort) (halves : AllHalves) →
      AcceptsAll was.entity result (accepting_in was) (record { port = port; halves = halves }) → Accepts result old (record was { port = port; halves = halves })
  accepts result port halves h = subst (λ o. Accepts result o (record was { port = port; halves = halves })) same (record { accepts = h; only = refl })

  pub turns_halves : (E : Type 0) (m : Means) (result : HalvesTurn) (rs : List RecordNow) → rs ≡ was.records → (h : AllHalves) (ss : List RecordNow) (bytes : TakePasses) (numbers : SeenNumberPass) →
      halves.TurnsHalves E result m (halves.callers was.halves.pending was.halves.loose (record { records = rs; bytes = was.bytes; numbers = was.numbers }))
      (halves.callers h.pending h.loose (record { records = ss; bytes = bytes; numbers = numbers })) →
      TurnsHalves E m result old (record was { halves = h; records = ss; bytes = bytes; numbers = numbers })
  turns_halves E m result rs same_records h ss bytes numbers t =
      subst (λ o. TurnsHalves E m result o (record was { halves = h; records = ss; bytes = bytes; numbers = numbers })) same (record {
        turns = subst (λ x. halves.TurnsHalves E result m (halves.callers was.halves.pending was.halves.loose (record { records = x; bytes = was.bytes; numbers = was.numbers }))
            (halves.callers h.pending h.loose (record { records = ss; bytes = bytes; numbers = numbers }))) same_records t;
        only = refl;
      })

  pub turns_records : (heard : D → List Heard) (m : Means) (result : RecordsTurn) (rs : List RecordNow) → rs ≡ was.records → (ss : List RecordNow) (port : SeenPort) (out : OutboxNow D) (bytes : TakePasses) (numbers : SeenNumberPass) →
      TurnsEach heard m result (all_amid rs (around_in was)) (all_amid ss (record { port = port; out = out; bytes = bytes; numbers = numbers })) →
      TurnsRecords heard m result old (record was { records = ss; port = port; out = out; bytes = bytes; numbers = numbers })
  turns_records heard m result rs same_records ss port out bytes numbers t =
      subst (λ o. TurnsRecords heard m result o (record was { records = ss; port = port; out = out; bytes = bytes; numbers = numbers })) same (record {
        turns = subst (λ x. TurnsEach heard m result (all_amid x (around_in was)) (all_amid ss (record { port = port; out = out; bytes = bytes; numbers = numbers }))) same_records t;
        only = refl;
      })

  pub empties_mail : (heard : D → List Heard) (m : Means) (result : Mailed) (out : OutboxNow D) (queued : Queued D) (bytes : TakePasses) →
      Mails heard (places m.throttles) result (mailing_in was) (mailing out queued bytes) → EmptiesMail heard m result old (record was { out = out; queued = queued; bytes = bytes })
  empties_mail heard m result out queued bytes t =
      subst (λ o. EmptiesMail heard m result o (record was { out = out; queued = queued; bytes = bytes })) same (record { mails = t; only = refl })

  pub hands_letters : (out : OutboxNow D) (queued : Queued D) (bytes : TakePasses) (into behind : List Parcel) →
      HandsLetters (mailing_in was) (mailing out queued bytes) into behind → HandsLetters (mailing_in old) (mailing_in (record was { out = out; queued = queued; bytes = bytes })) into behind
  hands_letters out queued bytes into behind h = subst (λ o. HandsLetters (mailing_in o) (mailing out queued bytes) into behind) same h

  pub plans : (result : Answer) (peer : ℕ) (step : PlanStep) (now : ℕ) (throttles : Throttles) (place : ℕ) (before behind : RecordNow) (bytes : TakePasses) (numbers : SeenNumberPass) →
      place_towards peer was.records ≡ Some place → slice_get was.records place ≡ Some before → PlansNow result step now before behind →
      OnOk result (Return (returned_by (Some step) before) throttles was.bytes bytes) → pass_places bytes ≡ pass_places was.bytes → numbers ≡ was.numbers →
      PlansIn result peer step now throttles old (record was { records = slice_set was.records place behind; bytes = bytes; numbers = numbers })
  plans result peer step now throttles place before behind bytes numbers first side p gives stays same_numbers =
      subst (λ o. PlansIn result peer step now throttles o (record was { records = slice_set was.records place behind; bytes = bytes; numbers = numbers })) same (record {
        place = place;
        before = before;
        behind = behind;
        first = first;
        side = side;
        plans = p;
        gives = gives;
        bytes = stays;
        only = ap (λ n. record was { records = slice_set was.records place behind; bytes = bytes; numbers = n }) same_numbers;
      })

-- ---- what stays

-- where the throttles' words lie, and the greatest number that was drawn
pub supplied_alike : (s : Supply) (bytes : TakePasses) (numbers was : SeenNumberPass) (entity : ℕ) (sessions : Sessions) → pass_places bytes ≡ s.places → numbers ≡ was → s.least ≡ was.least →
    AreConsistent s entity sessions → AreConsistent (record { places = pass_places bytes; least = numbers.least }) entity sessions
supplied_alike s bytes numbers was entity sessions place same least is =
    subst (λ n. AreConsistent (record { places = pass_places bytes; least = n }) entity sessions) (least ∙ ap (λ (n : SeenNumberPass). n.least) (sym same))
    (subst (λ p. AreConsistent (record { places = p; least = s.least }) entity sessions) (sym place) is)

-- where the throttles' words lie, and the records by another name
pub consistent_at : (p q : Places) (least entity : ℕ) (made : List SocketId) (rs ss : List RecordNow) (h : AllHalves) → p ≡ q → rs ≡ ss →
    AreConsistent (record { places = p; least = least }) entity (sessions_with made rs h) → AreConsistent (record { places = q; least = least }) entity (sessions_with made ss h)
consistent_at p q least entity made rs ss h same same_records is =
    subst (λ x. AreConsistent (record { places = x; least = least }) entity (sessions_with made ss h)) same
    (subst (λ x. AreConsistent (record { places = p; least = least }) entity (sessions_with made x h)) same_records is)
