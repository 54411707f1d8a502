-- Each word of a center's passes is what the center holds, behind each turn and behind each step that is planned.
use Rattle.std.proofs.Common.{◌≡◌, ℕ, ◌+◌, List, [], ◌∷◌, map, Option, None, Some, Ok, Err, inl, inr, refl, sym, subst, ◌∙◌, ap, arith}
use Rattle.std.specs.Prelude.{slice_set}
use Rattle.std.specs.List.{AllByRecursion}
use Rattle.std.specs.Option.{is_some, option_map}
use Rattle.m2_dispatch.specs.Heard.{Heard}
use Rattle.m2_dispatch.specs.Letters.{granted}
use Rattle.m2_dispatch.specs.m2_shared.Gates.{Gate, places, words}
use Rattle.m2_dispatch.specs.m2_shared.declared.throttles.Throttles.{Throttles}
use Rattle.m2_fabric.proofs.m2_lemmas.Lists.{all_at, cons_same}
use Rattle.m2_fabric.specs.m2_bytes.declared.memory.NoMemory as memory
use Rattle.m2_script.specs.m2_center.Center.{CenterNow}
use Rattle.m2_script.specs.m2_center.CenterTurn as center
use Rattle.m2_script.specs.m2_center.CenterTurn.{Accepts, AcceptsSo, AnswersSo, DeliversSo, EmptiesMail, StepsSo, TakesTurn, TurnsHalves, TurnsRecords, all_amid_in, callers_of, mailing_in, stepped_so}
use Rattle.m2_script.specs.m2_center.Plans.{PlansIn}
use Rattle.m2_script.specs.m2_center.Reaching.{untold_feed, untold_record}
use Rattle.m2_script.specs.m2_center.m2_core.LiveNow.{asked_on}
use Rattle.m2_script.specs.m2_center.m2_feed.FeedNow.{FeedNow}
use Rattle.m2_script.specs.m2_center.m2_feed.m2_journal.SideFacts.{SideFacts}
use Rattle.m2_script.specs.m2_center.m2_feed.m2_journal.declared.facts.PlanStep.{PlanStep}
use Rattle.m2_script.specs.m2_center.m2_feed.m2_journal.declared.facts.PlanStep.TheVariants as step
use Rattle.m2_script.specs.m2_center.m2_record.Calls.{IsSameButRoom, planned_too, returned_by}
use Rattle.m2_script.specs.m2_center.m2_record.RecordNow.{RecordNow}
use Rattle.m2_script.specs.m2_center.m2_turn.Outbox as out
use Rattle.m2_script.specs.m2_center.m2_turn.RecordTurn.{Means}
use Rattle.m2_script.specs.m2_center.m2_turn.declared.accepting.Accepted.{Accepted}
use Rattle.m2_script.specs.m2_center.m2_turn.declared.halves_turn.HalvesTurn.{HalvesTurn}
use Rattle.m2_script.specs.m2_center.m2_turn.declared.mailing.Mailed.{Mailed}
use Rattle.m2_script.specs.m2_center.m2_turn.declared.records_turn.RecordsTurn.{RecordsTurn}
use Rattle.m2_script.specs.m2_center.m2_turn.declared.records_turn.RecordsTurn.TheVariants as records
use Rattle.m2_script.specs.m2_cluster.Node.{NodeNow, NodePlans, NodeTurns, rest_of_node}
use Rattle.m2_exact.proofs.HeldCores as cores
use Rattle.m2_exact.proofs.HeldHalves as halves
use Rattle.m2_exact.proofs.HeldMails as mails
use Rattle.m2_exact.proofs.HeldRecords as all
use Rattle.m2_exact.proofs.HeldSteps as steps
use Rattle.m2_exact.proofs.HeldSteps.{Less}
use Rattle.m2_exact.proofs.HeldSums as sums
use Rattle.m2_exact.proofs.Lists.{all_like, all_set}
use Rattle.m2_exact.specs.Holding.{AreAlone, CentersHoldTheirWords, HoldsItsWord, HoldsRightly, IsHeldRightly, NodeHoldsItsWord, held_in_record, held_in_records, held_in_center}

-- ---- the parts of a turn

module _ {D : Type 0} (E : Type 0) (heard : D → List Heard) (m : Means) (alone : AreAlone (places m.throttles)) where
  -- what a center holds besides its records
  abbrev besides : Gate → CenterNow D → ℕ
  besides gate c = out.granted_in c.out gate + granted c.queued.waiting gate

  accepts : (result : Accepted) (old new : CenterNow D) → HoldsItsWord old → Accepts result old new → HoldsItsWord new
  accepts result old new r h = subst HoldsItsWord (sym h.only) (record { word = r.word; records = r.records })

  turns_halves : (result : HalvesTurn) (old new : CenterNow D) → HoldsItsWord old → TurnsHalves E m result old new → HoldsItsWord new
  turns_halves result old new r h =
      let goes = halves.all_turn E m alone result (callers_of old) (callers_of new) r.records h.turns in
      record {
        word = λ gate. (let same = ap (besides gate) h.only in let word = goes.word gate (besides gate old) (r.word gate) in omega (arith, word, same));
        records = goes.right;
      }

  turns_records : (old new : CenterNow D) → HoldsItsWord old → TurnsRecords heard m records.Done old new → HoldsItsWord new
  turns_records old new r h =
      let goes = all.all_turn heard m alone (all_amid_in old) (all_amid_in new) r.records h.turns in
      record {
        word = λ gate. (
            let queued = ap (λ (c : CenterNow D). granted c.queued.waiting gate) h.only in
            let was = r.word gate in
            let word = goes.word gate (granted old.queued.waiting gate) (omega (arith, was)) in
            omega (arith, word, queued)
            );
        records = goes.right;
      }

  empties_mail : (result : Mailed) (old new : CenterNow D) → HoldsItsWord old → EmptiesMail heard m result old new → HoldsItsWord new
  empties_mail result old new r h =
      let goes = mails.mails heard (places m.throttles) alone result (mailing_in old) (mailing_in new) h.mails in
      record {
        word = λ gate. (
            let same = ap (λ (c : CenterNow D). held_in_records gate c.records) h.only in
            let was = r.word gate in
            let word = goes gate (held_in_records gate old.records) (omega (arith, was)) in
            omega (arith, word, same)
            );
        records = subst (λ (c : CenterNow D). AllByRecursion HoldsRightly c.records) (sym h.only) r.records;
      }

  -- where memory ran out in the turn of the records
  stops_records : (old new : CenterNow D) → HoldsItsWord old → TurnsRecords heard m records.NoMemory old new → (gate : Gate) → words new.bytes gate ≡ held_in_center gate new
  stops_records old new r h gate =
      let queued : granted new.queued.waiting gate ≡ granted old.queued.waiting gate = ap (λ (c : CenterNow D). granted c.queued.waiting gate) h.only in
      let was = r.word gate in
      let word = all.all_stop heard m alone (all_amid_in old) (all_amid_in new) r.records h.turns gate (granted old.queued.waiting gate) (omega (arith, was)) in
      omega (arith, word, queued)

  -- ---- a turn

  found : (result : RecordsTurn) → Ok tt ≡ stepped_so result → result ≡ records.Done
  found records.Done e = refl
  found records.NoMemory e = absurd (cc e)

  lacked : (e : memory.NoMemory) (result : RecordsTurn) → Err e ≡ stepped_so result → result ≡ records.NoMemory
  lacked e records.Done is = absurd (cc is)
  lacked e records.NoMemory is = refl

  first : (a : center.Answer) (old new : CenterNow D) → HoldsItsWord old → AcceptsSo a old new → HoldsItsWord new
  first a old new r (result, is, h) = accepts result old new r h

  second : (a : center.Answer) (old new : CenterNow D) → HoldsItsWord old → AnswersSo E m a old new → HoldsItsWord new
  second a old new r (result, is, h) = turns_halves result old new r h

  third : (old new : CenterNow D) → HoldsItsWord old → StepsSo heard m (Ok tt) old new → HoldsItsWord new
  third old new r (result, is, h) = turns_records old new r (subst (λ (x : RecordsTurn). TurnsRecords heard m x old new) (found result is) h)

  third_lacks : (e : memory.NoMemory) (old new : CenterNow D) → HoldsItsWord old → StepsSo heard m (Err e) old new → (gate : Gate) → words new.bytes gate ≡ held_in_center gate new
  third_lacks e old new r (result, is, h) = stops_records old new r (subst (λ (x : RecordsTurn). TurnsRecords heard m x old new) (lacked e result is) h)

  fourth : (a : center.Answer) (old new : CenterNow D) → HoldsItsWord old → DeliversSo heard m a old new → HoldsItsWord new
  fourth a old new r (result, is, h) = empties_mail result old new r h

  pub turn : (old new : CenterNow D) → HoldsItsWord old → TakesTurn E heard m (Ok tt) old new → HoldsItsWord new
  turn old new r (one, a, (two, b, (three, c, d))) =
      fourth (Ok tt) three new (third two three (second (Ok tt) one two (first (Ok tt) old one r a) b) c) d

  pub turn_lacks : (e : memory.NoMemory) (old new : CenterNow D) → HoldsItsWord old → TakesTurn E heard m (Err e) old new → (gate : Gate) → words new.bytes gate ≡ held_in_center gate new
  turn_lacks e old new r (inl a) = (first (Err e) old new r a).word
  turn_lacks e old new r (inr (one, a, inl b)) = (second (Err e) one new (first (Ok tt) old one r a) b).word
  turn_lacks e old new r (inr (one, a, inr (two, b, inl c))) = third_lacks e two new (second (Ok tt) one two (first (Ok tt) old one r a) b) c
  turn_lacks e old new r (inr (one, a, inr (two, b, inr (three, c, d)))) =
      (fourth (Err e) three new (third two three (second (Ok tt) one two (first (Ok tt) old one r a) b) c) d).word

-- ---- a step that is planned

returned_same : (x : PlanStep) (old mid : RecordNow) → IsSameButRoom old mid → (gate : Gate) → returned_by (Some x) (planned_too x mid) gate ≡ returned_by (Some x) old gate
returned_same step.Down old mid room gate = ap (λ (z : RecordNow). returned_by (Some step.Down) z gate) room
returned_same step.Dial old mid room gate = refl
returned_same (step.Post p) old mid room gate = refl

module _ {D : Type 0} where
  pub planned : (peer : ℕ) (x : PlanStep) (now : ℕ) (throttles : Throttles) (old new : CenterNow D) → AreAlone (places throttles) → HoldsItsWord old → PlansIn (Ok tt) peer x now throttles old new → HoldsItsWord new
  planned peer x now throttles old new alone r h =
      let mid = h.plans.mid in
      let before : HoldsRightly h.before = all_at HoldsRightly old.records h.place h.before h.side r.records in
      let less : Less (returned_by (Some x) (planned_too x mid)) (planned_too x mid) h.behind =
      steps.plans (Some x) (Ok tt) now (planned_too x mid) h.behind (steps.by HoldsRightly mid _ h.plans.room before) h.plans.takes in
      record {
        word = λ gate. (
            let same : held_in_record gate mid ≡ held_in_record gate h.before = ap (held_in_record gate) h.plans.room in
            let back = returned_same x h.before mid h.plans.room gate in
            let set = sums.sum_set (held_in_record gate) old.records h.place h.before h.behind h.side in
            let has = sums.sum_has (held_in_record gate) old.records h.place h.before h.side in
            let held : held_in_center gate new ≡ held_in_records gate (slice_set old.records h.place h.behind) + (out.granted_in old.out gate + granted old.queued.waiting gate) =
            ap (held_in_center gate) h.only in
            let amount = less.amount gate in
            let was = r.word gate in
            let gives = h.gives gate (alone gate) in
            let part = has.1 in
            omega (arith, amount, same, back, set, part, held, was, gives)
            );
        records = subst (λ (c : CenterNow D). AllByRecursion HoldsRightly c.records) (sym h.only) (all_set HoldsRightly old.records h.place h.behind r.records less.right);
      }

pub centers : {D : Type 0} (E : Type 0) (heard : D → List Heard) → CentersHoldTheirWords E D heard
centers {D} E heard = record {
  turns = λ m old new alone r h. turn E heard m alone old new r h;
  lacks = λ m e old new alone r h. turn_lacks E heard m alone e old new r h;
  plans = λ peer x now throttles old new alone r h. planned peer x now throttles old new alone r h;
}

-- ---- a node

-- an end is told something: that is no part of what is held
told_feed : (x : Option FeedNow) → asked_on (option_map untold_feed x) ≡ asked_on x
told_feed (Some v) = refl
told_feed None = refl

told_rightly : (r s : RecordNow) → untold_record r ≡ untold_record s → HoldsRightly r → HoldsRightly s
told_rightly r s same h =
    subst (λ (f : SideFacts). IsHeldRightly f s.core.live) (ap (λ (z : RecordNow). z.core.facts) same)
    (cores.kept r.core.facts r.core.live s.core.live (sym (ap (λ (z : RecordNow). z.core.live.granted) same)) (sym (ap (λ (z : RecordNow). z.core.live.session) same))
    (λ e. ap is_some (sym (told_feed s.core.live.feed) ∙ sym (ap (λ (z : RecordNow). asked_on z.core.live.feed) same) ∙ told_feed r.core.live.feed) ∙ e) h)

told_sum : (gate : Gate) (rs ss : List RecordNow) → map untold_record rs ≡ map untold_record ss → held_in_records gate rs ≡ held_in_records gate ss
told_sum gate [] [] same = refl
told_sum gate [] (s ∷ ss) same = absurd (cc same)
told_sum gate (r ∷ rs) [] same = absurd (cc same)
told_sum gate (r ∷ rs) (s ∷ ss) same =
    let both = cons_same (untold_record r) (untold_record s) (map untold_record rs) (map untold_record ss) same in
    let here : held_in_record gate r ≡ held_in_record gate s = ap (held_in_record gate) both.0 in
    let rest = told_sum gate rs ss both.1 in
    let one = sums.sum_first (held_in_record gate) r rs in
    let other = sums.sum_first (held_in_record gate) s ss in
    omega (arith, here, rest, one, other)

module _ {D : Type 0} where
  pub told : (old new : NodeNow D) → rest_of_node new ≡ rest_of_node old → NodeHoldsItsWord old → NodeHoldsItsWord new
  told old new same h =
      let records : map untold_record new.center.records ≡ map untold_record old.center.records = ap (λ (n : NodeNow D). n.center.records) same in
      record {
        alone = λ gate. ap (λ (n : NodeNow D). places n.throttles gate) same ∙ h.alone gate;
        center = record {
          word = λ gate. (
              let word = ap (λ (n : NodeNow D). words n.center.bytes gate) same in
              let sum = told_sum gate new.center.records old.center.records records in
              let goes = ap (λ (n : NodeNow D). out.granted_in n.center.out gate) same in
              let waits = ap (λ (n : NodeNow D). granted n.center.queued.waiting gate) same in
              let was = h.center.word gate in
              omega (arith, word, sum, goes, waits, was)
              );
          records = all_like untold_record HoldsRightly told_rightly old.center.records new.center.records (sym records) h.center.records;
        };
      }

  pub node_turns : (E : Type 0) (heard : D → List Heard) (now : ℕ) (old new : NodeNow D) → NodeHoldsItsWord old → NodeTurns E heard now (Ok tt) old new → NodeHoldsItsWord new
  node_turns E heard now old new h t = record {
    alone = λ gate. ap (λ (x : Throttles). places x gate) t.shared.throttles ∙ h.alone gate;
    center = turn E heard (center.means_at now old.numbers old.throttles) h.alone old.center new.center h.center t.turns;
  }

  pub node_plans : (peer : ℕ) (x : PlanStep) (now : ℕ) (old new : NodeNow D) → NodeHoldsItsWord old → NodePlans (Ok tt) peer x now old new → NodeHoldsItsWord new
  node_plans peer x now old new h p = record {
    alone = λ gate. ap (λ (x : Throttles). places x gate) p.shared.throttles ∙ h.alone gate;
    center = planned peer x now old.throttles old.center new.center h.alone h.center p.plans;
  }
