-- The turns of halves: a record that judges an ask, and takes its socket, goes on as by a step.
use Rattle.std.proofs.Common.{◌≡◌, inl, inr, ℕ, zero, suc, Bool, true, false, List, [], ◌∷◌, Option, Some, None, IfSome, IsSome, refl, sym, ap, subst, ◌∙◌, append_assoc}
use Rattle.std.specs.Prelude.{slice_get, slice_set}
use Rattle.m2_fabric.specs.m2_addr.declared.addr.Addr.{Addr}
use Rattle.m2_fabric.specs.Port.{SeenPort}
use Rattle.m2_fabric.proofs.m2_lemmas.Booleans.{false_isnt_true}
use Rattle.m2_growth.specs.m2_bytes_fit.m2_trail.declared.turn.HalfTurn.{HalfTurn}
use Rattle.m2_growth.specs.m2_bytes_fit.m2_trail.declared.turn.HalfTurn.TheVariants as turn
use Rattle.m2_growth.specs.m2_bytes_fit.m2_trail.Arrivals.{IsArrival}
use Rattle.m2_growth.specs.m2_bytes_fit.m2_trail.Asks.{facts_of_ask}
use Rattle.m2_growth.specs.m2_bytes_fit.m2_trail.Incoming.{IncomingNow}
use Rattle.m2_cluster.specs.m2_center.m2_core.Effects.{closed_if}
use Rattle.m2_cluster.specs.m2_center.m2_core.TakingOver.{IsTakenFeed, after_answering, after_taking}
use Rattle.m2_cluster.specs.m2_center.m2_core.declared.verdict.Verdict.{Verdict}
use Rattle.m2_cluster.specs.m2_center.m2_core.Judging.{verdict_on}
use Rattle.m2_cluster.specs.m2_center.m2_feed.FeedNow.{FeedNow}
use Rattle.m2_cluster.specs.m2_center.m2_feed.m2_handshake.declared.ask.Ask.{Ask}
use Rattle.m2_cluster.specs.m2_center.m2_feed.m2_handshake.declared.ident.IdentCheck.{IdentCheck}
use Rattle.m2_cluster.specs.m2_center.m2_feed.m2_handshake.declared.ident.IdentCheck.TheVariants.{Fine, Missing, Fault}
use Rattle.m2_cluster.specs.m2_center.m2_record.declared.judging.Judged.{Judged}
use Rattle.m2_cluster.specs.m2_center.m2_record.declared.judging.Judged.TheVariants as judged
use Rattle.m2_cluster.specs.m2_center.m2_record.Calls.{closed_entries}
use Rattle.m2_cluster.specs.m2_center.m2_record.Judging.{Answers, JudgesAs, TakenHalf, TakesOver, after_taking_over, effects_at, half_of, judged_entry}
use Rattle.m2_cluster.specs.m2_center.m2_record.RecordNow.{RecordNow}
use Rattle.m2_cluster.specs.m2_center.m2_turn.declared.answering.HalfAnswered.{HalfAnswered}
use Rattle.m2_cluster.specs.m2_center.m2_turn.declared.answering.HalfAnswered.TheVariants as half
use Rattle.m2_cluster.specs.m2_center.m2_turn.declared.half_turn.HalfTurned.{HalfTurned}
use Rattle.m2_cluster.specs.m2_center.m2_turn.declared.half_turn.HalfTurned.TheVariants as turned
use Rattle.m2_cluster.specs.m2_center.m2_turn.declared.halves_turn.HalvesTurn.{HalvesTurn}
use Rattle.m2_cluster.specs.m2_center.m2_turn.declared.halves_turn.HalvesTurn.TheVariants as all_turned
use Rattle.m2_cluster.specs.m2_center.m2_turn.Answering.{AnswersBy, AnswersHalf, FindsSo, HearsHalf, OwesThen}
use Rattle.m2_cluster.specs.m2_center.m2_turn.HalfTurn.{AnswersFrom, ComesTo, HalfTurning, Homes, Replies, TurnsHalf, TurnsOnce, judging_in}
use Rattle.m2_cluster.specs.m2_center.m2_turn.HalvesTurn.{Callers, HalfTurns, HalvesTurning, OldestTurns, TurnHalves, TurnsHalves, all_wait}
use Rattle.m2_cluster.specs.m2_center.m2_turn.Judging.{Judges, Judging}
use Rattle.m2_cluster.specs.m2_center.m2_turn.RecordTurn.{Means}
use Rattle.m2_cluster.specs.m2_center.m2_turn.Sessions.{PendingNow}
use Rattle.m2_cluster.proofs.m2_center.m2_turn.GoesOn as journals
use Rattle.m2_links_go_on.proofs.CourseMoving.{AllGo, SideGoes, WaitsInTime, all_by, all_chain, all_cons, all_same, goes_beside, goes_by, goes_stepped, last_still, side_chain, side_same, stays_same, steady_of}
use Rattle.m2_links_go_on.proofs.CourseSteps.{closed, counts_on, room_alone}

-- ---- one ask

answers_on : (v : Verdict) (socket : _) (now : ℕ) (old new : RecordNow) → Answers v socket now old new → SideGoes now old new
answers_on v socket now old new e = goes_by now old new (ap (λ r. r.core.facts) e) (record {
  steady = ap steady_of e;
  last = last_still now old new (judged_entry v socket ∷ closed_entries (closed_if (effects_at v old).close old.core.live.feed)) (ap (λ r. r.last) e)
      (ap (λ r. r.journal) e ∙ append_assoc old.journal (judged_entry v socket ∷ []) (closed_entries (closed_if (effects_at v old).close old.core.live.feed))) (closed _);
  waits = λ h. subst (WaitsInTime now old.core.facts.node) (sym (ap (λ r. r.waits) e))
      (goes_stepped now old.core.facts.node old.core.live.session.phase (after_answering v old.core).live.session.phase old.waits h);
})

takes_over : (v : Verdict) (d : FeedNow) (h : TakenHalf) (now : ℕ) (old new : RecordNow) → new ≡ record (after_taking_over v h d now old) { room = new.room } → SideGoes now old new
takes_over v d h now old new e = goes_by now old new (ap (λ r. r.core.facts) e) (record {
  steady = ap steady_of e;
  last = last_still now old new (judged_entry v h.end.id ∷ closed_entries (closed_if (effects_at v old).close old.core.live.feed)) (ap (λ r. r.last) e)
      (ap (λ r. r.journal) e ∙ append_assoc old.journal (judged_entry v h.end.id ∷ []) (closed_entries (closed_if (effects_at v old).close old.core.live.feed))) (closed _);
  waits = λ w. subst (WaitsInTime now old.core.facts.node) (sym (ap (λ r. r.waits) e))
      (goes_stepped now old.core.facts.node old.core.live.session.phase (after_taking v d old.core).live.session.phase old.waits w);
})

taken_over : (v : Verdict) (h : TakenHalf) (now : ℕ) (old new : RecordNow) → TakesOver v h now old new → SideGoes now old new
taken_over v h now old new (is, some) = at new.core.live.feed is some
  where
    at : (o : Option FeedNow) → IfSome o (λ d. IsTakenFeed v h.end h.unread old.core d × (new ≡ record (after_taking_over v h d now old) { room = new.room })) →
        IsSome o → SideGoes now old new
    at (Some d) (_, e) some = takes_over v d h now old new e
    at None e some = absurd (false_isnt_true some)

judged_by : {E : Type 0} (j : Judged E) (v : Verdict) (a : IncomingNow) (now : ℕ) (old new : RecordNow) → JudgesAs j v a now old new → SideGoes now old new
judged_by (judged.Taken answer) v a now old new (_, _, t) =
    side_chain now old t.taken new (taken_over v (half_of answer a) now old t.taken t.over)
    (goes_by now t.taken new (journals.counts_on t.taken new t.counts).facts (counts_on now t.taken new t.counts))
judged_by (judged.Back answer arrival) v a now old new (_, _, _, e) = answers_on v a.end.id now old new e
judged_by (judged.NoMemory arrival) v a now old new (_, e) = goes_by now old new (ap (λ r. r.core.facts) e) (room_alone now old new e)

judges : {E : Type 0} (j : Judged E) (a : IncomingNow) (m : Means) (old new : Judging) → IsArrival a → Judges j a m old new → SideGoes m.now old.side new.side
judges {E} j a m old new is h =
    judged_by j (verdict_on (facts_of_ask is.ask) h.number old.side.core.live) a m.now old.side new.side
    (subst (λ (o : Option Ask). IfSome o (λ ask. JudgesAs {E = E} j (verdict_on (facts_of_ask ask) h.number old.side.core.live) a m.now old.side new.side))
    is.in_hand h.judges)

owed : {E : Type 0} (result : HalfAnswered E) (a : IncomingNow) (m : Means) (old new : Judging) → IsArrival a → OwesThen result a m old new → SideGoes m.now old.side new.side
owed {E} result a m old new is (arrival, (answer, h), reply) = judges {E = E} (judged.Back answer arrival) a m old new is h

heard : {E : Type 0} (result : HalfAnswered E) (a : IncomingNow) (m : Means) (old new : Judging) → IsArrival a → HearsHalf result a m old new → SideGoes m.now old.side new.side
heard {E} (half.Taken answer) a m old new is h = judges {E = E} (judged.Taken answer) a m old new is h
heard {E} (half.Open b) a m old new is h = owed {E = E} (half.Open b) a m old new is h
heard {E} (half.Closed l) a m old new is h = owed {E = E} (half.Closed l) a m old new is h
heard {E} (half.Undrawn b) a m old new is (same, side, _, _) = side_same m.now old.side new.side side
heard {E} (half.NoMemory b) a m old new is (inl h) = judges {E = E} (judged.NoMemory b) a m old new is h
heard {E} (half.NoMemory b) a m old new is (inr h) = owed {E = E} (half.NoMemory b) a m old new is h

same_side : (m : Means) (old new : Judging) → new ≡ old → SideGoes m.now old.side new.side
same_side m old new e = side_same m.now old.side new.side (ap (λ (j : Judging). j.side) e)

found : {E : Type 0} (check : IdentCheck) (result : HalfAnswered E) (a : IncomingNow) (m : Means) (old new : Judging) → IsArrival a → FindsSo check result a m old new →
    SideGoes m.now old.side new.side
found Fine result a m old new is h = heard result a m old new is h
found (Missing bits) result a m old new is (_, same) = same_side m old new same
found (Fault f) result a m old new is (_, same) = same_side m old new same

answers : {E : Type 0} (result : HalfAnswered E) (a : IncomingNow) (m : Means) (old new : Judging) → IsArrival a → AnswersHalf result a m old new → SideGoes m.now old.side new.side
answers {E} result a m old new is h = at a.is_judged h
  where
    at : (b : Bool) → AnswersBy b result a m old new → SideGoes m.now old.side new.side
    at true (_, same) = same_side m old new same
    at false (check, _, finds) = found check result a m old new is finds

-- ---- among all records, which the port doesn't feel

module _ (p : SeenPort) where
  set_goes : (now : ℕ) (rs : List RecordNow) (place : ℕ) (side behind : RecordNow) → slice_get rs place ≡ Some side → SideGoes now side behind → AllGo now p p rs (slice_set rs place behind)
  set_goes now [] place side behind e g = absurd cc
  set_goes now (r ∷ rs) zero side behind e g =
      let same : side ≡ r = cc in
      all_cons now p p p r behind rs rs (goes_beside now p p r behind (stays_same p) (subst (λ (x : RecordNow). SideGoes now x behind) same g)) (all_same now p p rs (stays_same p))
  set_goes now (r ∷ rs) (suc n) side behind e g =
      all_cons now p p p r r rs (slice_set rs n behind) (goes_beside now p p r r (stays_same p) (side_same now r r refl)) (set_goes now rs n side behind e g)

  same_homes : (now : ℕ) (old new : Homes) → new ≡ old → AllGo now p p old.records new.records
  same_homes now old new e = all_by now p p old.records new.records (stays_same p) (ap (λ (h : Homes). h.records) e)

  asked_from : {E : Type 0} (o : Option ℕ) (result : _) (a : IncomingNow) (peer : Addr) (m : Means) (old new : Homes) → IsArrival a → AnswersFrom {E = E} o result a peer m old new →
      AllGo m.now p p old.records new.records
  asked_from {E} (Some place) result a peer m old new is (answer, at, _) =
      subst (AllGo m.now p p old.records) (sym at.records)
      (set_goes m.now old.records place at.before at.behind at.side (answers answer a m (judging_in at.before old) (judging_in at.behind new) is at.answers))
  asked_from {E} None result a peer m old new is (_, same) = same_homes m.now old new same

  comes_to : {E : Type 0} (to : HalfTurn) (result : _) (w : PendingNow) (m : Means) (old new : Homes) → ComesTo {E = E} to result w m old new → AllGo m.now p p old.records new.records
  comes_to {E} turn.Asked result w m old new h = asked_from {E = E} _ result w.half h.peer m old new h.arrival h.answers
  comes_to {E} turn.Over result w m old new (_, same) = same_homes m.now old new same
  comes_to {E} turn.NoMemory result w m old new (_, same) = same_homes m.now old new same
  comes_to {E} _ result w m old new (_, same) = same_homes m.now old new same

  once : {E : Type 0} (result : _) (w : PendingNow) (m : Means) (old new : Homes) → TurnsOnce {E = E} result w m old new → AllGo m.now p p old.records new.records
  once {E} result w m old new t = comes_to {E = E} t.to result (record w { half = t.on }) m old new t.comes

  replies : (E : Type 0) (m : Means) (stood : List HalfTurning) (old new : HalfTurning) → Replies E m stood old new → AllGo m.now p p old.homes.records new.homes.records
  replies E m [] old new same = all_by m.now p p old.homes.records new.homes.records (stays_same p) (ap (λ (t : HalfTurning). t.homes.records) (sym same))
  replies E m (t ∷ ts) old new (first, rest) =
      all_chain m.now p p p old.homes.records t.homes.records new.homes.records (once {E = E} _ old.pending m old.homes t.homes first) (replies E m ts t new rest)

  half_turns : {E : Type 0} (result : HalfTurned E) (w : PendingNow) (m : Means) (old new : Homes) → TurnsHalf result w m old new → AllGo m.now p p old.records new.records
  half_turns {E} result w m old new (inl t) =
      all_chain m.now p p p old.records t.mid.homes.records new.records (replies E m t.stood (record { pending = w; homes = old }) t.mid t.replies)
      (once {E = E} _ t.mid.pending m t.mid.homes new t.last)
  half_turns {E} result w m old new (inr t) = replies E m t.stood (record { pending = w; homes = old }) (record { pending = t.pending; homes = new }) t.replies

  oldest : {E : Type 0} (result : HalfTurned E) (m : Means) (old new : HalvesTurning) → OldestTurns result m old new → AllGo m.now p p old.homes.records new.homes.records
  oldest result m old new t = half_turns result t.oldest m old.homes new.homes t.turns

  turns : (E : Type 0) (m : Means) (stood : List HalvesTurning) (old new : HalvesTurning) → HalfTurns E m stood old new → AllGo m.now p p old.homes.records new.homes.records
  turns E m [] old new same = all_by m.now p p old.homes.records new.homes.records (stays_same p) (ap (λ (t : HalvesTurning). t.homes.records) (sym same))
  turns E m (t ∷ ts) old new (first, rest) =
      all_chain m.now p p p old.homes.records t.homes.records new.homes.records (oldest {E = E} first.result m old t first.turns) (turns E m ts t new rest)

  all_turns : (E : Type 0) (result : HalvesTurn) (m : Means) (old new : HalvesTurning) → TurnHalves E result m old new → AllGo m.now p p old.homes.records new.homes.records
  all_turns E all_turned.Done m old new t = turns E m t.stood old new t.turns
  all_turns E all_turned.NoMemory m old new t =
      all_chain m.now p p p old.homes.records t.mid.homes.records new.homes.records (turns E m t.stood old t.mid t.turns)
      (oldest {E = E} (turned.NoMemory t.pending) m t.mid new t.last)

  pub halves_go : (E : Type 0) (result : HalvesTurn) (m : Means) (old new : Callers) → TurnsHalves E result m old new → AllGo m.now p p old.homes.records new.homes.records
  halves_go E result m old new t =
      subst (AllGo m.now p p old.homes.records) (sym (ap (λ (c : Callers). c.homes.records) t.left)) (all_turns E result m (all_wait old) t.behind t.turns)
