-- Records that judge asks hand nothing out, and have their peers and their plans still, in the turns of all halves; so it is at a connect.
use Rattle.std.proofs.Common.{◌≡◌, inl, inr, ℕ, zero, suc, Bool, true, false, List, [], ◌∷◌, map, Option, Some, None, Result, IfSome, IsSome, sym, ap, subst, ◌∙◌}
use Rattle.std.specs.Prelude.{slice_get, slice_set}
use Rattle.m2_addr.specs.declared.addr.Addr.{Addr}
use Rattle.m2_bytes.specs.declared.memory.NoMemory as memory
use Rattle.m2_record.specs.m2_core.Calls.{IsOpening}
use Rattle.m2_record.specs.m2_core.declared.verdict.Verdict.{Verdict}
use Rattle.m2_record.specs.m2_core.Judging.{verdict_on}
use Rattle.m2_record.specs.m2_core.TakingOver.{IsTakenFeed}
use Rattle.m2_fabric.specs.declared.port.Connect.{Connect}
use Rattle.m2_fabric.specs.declared.port.Connect.TheVariants as connect
use Rattle.m2_fabric.specs.End.{SeenEnd}
use Rattle.m2_feed.specs.FeedNow.{FeedNow}
use Rattle.m2_trail.specs.declared.turn.HalfTurn.{HalfTurn}
use Rattle.m2_trail.specs.declared.turn.HalfTurn.TheVariants as turn
use Rattle.m2_handshake.specs.declared.ask.Ask.{Ask}
use Rattle.m2_handshake.specs.declared.ident.IdentCheck.{IdentCheck}
use Rattle.m2_handshake.specs.declared.ident.IdentCheck.TheVariants.{Fine, Missing, Fault}
use Rattle.m2_feed.specs.m2_journal.declared.facts.PlanStep.{PlanStep}
use Rattle.m2_record.specs.declared.judging.Judged.{Judged}
use Rattle.m2_record.specs.declared.judging.Judged.TheVariants as judged
use Rattle.m2_record.specs.declared.due.Due.{Due}
use Rattle.m2_record.specs.declared.due.Due.TheVariants as due
use Rattle.m2_record.specs.Calls.{with_opened}
use Rattle.m2_record.specs.Judging.{JudgesAs, TakenHalf, TakesOver, after_taking_over, half_of}
use Rattle.m2_record.specs.RecordNow.{RecordNow}
use Rattle.m2_turn.specs.declared.answering.HalfAnswered.{HalfAnswered}
use Rattle.m2_turn.specs.declared.answering.HalfAnswered.TheVariants as half
use Rattle.m2_turn.specs.declared.half_turn.HalfTurned.{HalfTurned}
use Rattle.m2_turn.specs.declared.half_turn.HalfTurned.TheVariants as turned
use Rattle.m2_turn.specs.declared.halves_turn.HalvesTurn.{HalvesTurn}
use Rattle.m2_turn.specs.declared.halves_turn.HalvesTurn.TheVariants as all_turned
use Rattle.m2_turn.specs.Answering.{AnswersBy, AnswersHalf, FindsSo, HearsHalf, OwesThen}
use Rattle.m2_turn.specs.Connecting.{AtPort, DialsFor, Takes}
use Rattle.m2_turn.specs.HalfTurn.{AnswersFrom, ComesTo, HalfTurning, Homes, Replies, TurnsHalf, TurnsOnce, judging_in}
use Rattle.m2_turn.specs.HalvesTurn.{Callers, HalfTurns, HalvesTurning, OldestTurns, TurnHalves, TurnsHalves, all_wait}
use Rattle.m2_turn.specs.Judging.{Judges, Judging}
use Rattle.m2_turn.specs.RecordTurn.{Means}
use Rattle.m2_turn.specs.Sessions.{PendingNow}
use Rattle.m2_trail.specs.Arrivals.{IsArrival}
use Rattle.m2_trail.specs.Asks.{facts_of_ask}
use Rattle.m2_trail.specs.Incoming.{IncomingNow}
use Rattle.m2_bytes.proofs.m2_lemmas.Booleans.{false_isnt_true}

-- ---- what asks leave alone

-- the place of a record's peer, its plan, and how many parcels it has handed out
abbrev pub steady_of : RecordNow → ℕ × List PlanStep × ℕ
steady_of r = (r.place, r.plan, r.handed)

abbrev pub StaysSteady : (old new : RecordNow) → Type 0
StaysSteady old new = steady_of new ≡ steady_of old

-- each of all does
abbrev pub StaySteady : (old new : List RecordNow) → Type 0
StaySteady old new = map steady_of new ≡ map steady_of old

steady_set : (rs : List RecordNow) (place : ℕ) (side behind : RecordNow) → slice_get rs place ≡ Some side → StaysSteady side behind → StaySteady rs (slice_set rs place behind)
steady_set [] place side behind e h = absurd cc
steady_set (r ∷ rs) zero side behind e h = let same : side ≡ r = cc in ap (λ p. p ∷ map steady_of rs) (h ∙ ap steady_of same)
steady_set (r ∷ rs) (suc n) side behind e h = ap (λ l. steady_of r ∷ l) (steady_set rs n side behind e h)

-- ---- one ask

taken_over : (v : Verdict) (h : TakenHalf) (now : ℕ) (old new : RecordNow) → TakesOver v h now old new → StaysSteady old new
taken_over v h now old new (is, some) = at new.core.live.feed is some
  where
    at : (o : Option FeedNow) → IfSome o (λ d. IsTakenFeed v h.end h.unread old.core d × (new ≡ record (after_taking_over v h d now old) { room = new.room })) →
        IsSome o → StaysSteady old new
    at (Some d) (_, e) some = ap steady_of e
    at None e some = absurd (false_isnt_true some)

judged_by : {E : Type 0} (j : Judged E) (v : Verdict) (a : IncomingNow) (now : ℕ) (old new : RecordNow) → JudgesAs j v a now old new → StaysSteady old new
judged_by (judged.Taken answer) v a now old new (_, _, t) = ap steady_of t.counts.1 ∙ taken_over v (half_of answer a) now old t.taken t.over
judged_by (judged.Back answer arrival) v a now old new (_, _, _, e) = ap steady_of e
judged_by (judged.NoMemory arrival) v a now old new (_, e) = ap steady_of e

judges : {E : Type 0} (j : Judged E) (a : IncomingNow) (m : Means) (old new : Judging) → IsArrival a → Judges j a m old new → StaysSteady old.side new.side
judges {E} j a m old new is h =
    judged_by j (verdict_on (facts_of_ask is.ask) h.number old.side.core.live) a m.now old.side new.side
    (subst (λ (o : Option Ask). IfSome o (λ ask. JudgesAs {E = E} j (verdict_on (facts_of_ask ask) h.number old.side.core.live) a m.now old.side new.side))
    is.in_hand h.judges)

owed : {E : Type 0} (result : HalfAnswered E) (a : IncomingNow) (m : Means) (old new : Judging) → IsArrival a → OwesThen result a m old new →
    StaysSteady old.side new.side
owed {E} result a m old new is (arrival, (answer, h), reply) = judges {E = E} (judged.Back answer arrival) a m old new is h

heard : {E : Type 0} (result : HalfAnswered E) (a : IncomingNow) (m : Means) (old new : Judging) → IsArrival a → HearsHalf result a m old new →
    StaysSteady old.side new.side
heard {E} (half.Taken answer) a m old new is h = judges {E = E} (judged.Taken answer) a m old new is h
heard {E} (half.Open b) a m old new is h = owed {E = E} (half.Open b) a m old new is h
heard {E} (half.Closed l) a m old new is h = owed {E = E} (half.Closed l) a m old new is h
heard {E} (half.Undrawn b) a m old new is (same, side, _, _) = ap steady_of side
heard {E} (half.NoMemory b) a m old new is (inl h) = judges {E = E} (judged.NoMemory b) a m old new is h
heard {E} (half.NoMemory b) a m old new is (inr h) = owed {E = E} (half.NoMemory b) a m old new is h

same_side : (old new : Judging) → new ≡ old → StaysSteady old.side new.side
same_side old new e = ap (λ (j : Judging). steady_of j.side) e

found : {E : Type 0} (check : IdentCheck) (result : HalfAnswered E) (a : IncomingNow) (m : Means) (old new : Judging) → IsArrival a →
    FindsSo check result a m old new → StaysSteady old.side new.side
found Fine result a m old new is h = heard result a m old new is h
found (Missing bits) result a m old new is (_, same) = same_side old new same
found (Fault f) result a m old new is (_, same) = same_side old new same

answers : {E : Type 0} (result : HalfAnswered E) (a : IncomingNow) (m : Means) (old new : Judging) → IsArrival a → AnswersHalf result a m old new →
    StaysSteady old.side new.side
answers {E} result a m old new is h = at a.is_judged h
  where
    at : (b : Bool) → AnswersBy b result a m old new → StaysSteady old.side new.side
    at true (_, same) = same_side old new same
    at false (check, _, finds) = found check result a m old new is finds

-- ---- among all records

same_homes : (old new : Homes) → new ≡ old → StaySteady old.records new.records
same_homes old new e = ap (λ (h : Homes). map steady_of h.records) e

asked_from : {E : Type 0} (o : Option ℕ) (result : _) (a : IncomingNow) (peer : Addr) (m : Means) (old new : Homes) → IsArrival a →
    AnswersFrom {E = E} o result a peer m old new → StaySteady old.records new.records
asked_from {E} (Some place) result a peer m old new is (answer, at, _) =
    ap (map steady_of) at.records
    ∙ steady_set old.records place at.before at.behind at.side (answers answer a m (judging_in at.before old) (judging_in at.behind new) is at.answers)
asked_from {E} None result a peer m old new is (_, same) = same_homes old new same

comes_to : {E : Type 0} (to : HalfTurn) (result : _) (p : PendingNow) (m : Means) (old new : Homes) → ComesTo {E = E} to result p m old new →
    StaySteady old.records new.records
comes_to {E} turn.Asked result p m old new h = asked_from {E = E} _ result p.half h.peer m old new h.arrival h.answers
comes_to {E} turn.Over result p m old new (_, same) = same_homes old new same
comes_to {E} turn.NoMemory result p m old new (_, same) = same_homes old new same
comes_to {E} _ result p m old new (_, same) = same_homes old new same

once : {E : Type 0} (result : _) (p : PendingNow) (m : Means) (old new : Homes) → TurnsOnce {E = E} result p m old new → StaySteady old.records new.records
once {E} result p m old new t = comes_to {E = E} t.to result (record p { half = t.on }) m old new t.comes

replies : (E : Type 0) (m : Means) (stood : List HalfTurning) (old new : HalfTurning) → Replies E m stood old new → StaySteady old.homes.records new.homes.records
replies E m [] old new same = ap (λ (t : HalfTurning). map steady_of t.homes.records) (sym same)
replies E m (t ∷ ts) old new (first, rest) = replies E m ts t new rest ∙ once {E = E} _ old.pending m old.homes t.homes first

half_turns : {E : Type 0} (result : HalfTurned E) (p : PendingNow) (m : Means) (old new : Homes) → TurnsHalf result p m old new → StaySteady old.records new.records
half_turns {E} result p m old new (inl t) =
    once {E = E} _ t.mid.pending m t.mid.homes new t.last ∙ replies E m t.stood (record { pending = p; homes = old }) t.mid t.replies
half_turns {E} result p m old new (inr t) = replies E m t.stood (record { pending = p; homes = old }) (record { pending = t.pending; homes = new }) t.replies

oldest : {E : Type 0} (result : HalfTurned E) (m : Means) (old new : HalvesTurning) → OldestTurns result m old new → StaySteady old.homes.records new.homes.records
oldest result m old new t = half_turns result t.oldest m old.homes new.homes t.turns

turns : (E : Type 0) (m : Means) (stood : List HalvesTurning) (old new : HalvesTurning) → HalfTurns E m stood old new → StaySteady old.homes.records new.homes.records
turns E m [] old new same = ap (λ (t : HalvesTurning). map steady_of t.homes.records) (sym same)
turns E m (t ∷ ts) old new (first, rest) = turns E m ts t new rest ∙ oldest {E = E} first.result m old t first.turns

all_turns : (E : Type 0) (result : HalvesTurn) (m : Means) (old new : HalvesTurning) → TurnHalves E result m old new → StaySteady old.homes.records new.homes.records
all_turns E all_turned.Done m old new t = turns E m t.stood old new t.turns
all_turns E all_turned.NoMemory m old new t = oldest {E = E} (turned.NoMemory t.pending) m t.mid new t.last ∙ turns E m t.stood old t.mid t.turns

pub halves_stay_steady : (E : Type 0) (result : HalvesTurn) (m : Means) (old new : Callers) → TurnsHalves E result m old new →
    StaySteady old.homes.records new.homes.records
halves_stay_steady E result m old new t = ap (λ (c : Callers). map steady_of c.homes.records) t.left ∙ all_turns E result m (all_wait old) t.behind t.turns

-- ---- a connect

takes_steady : (made : Connect SeenEnd) (now : ℕ) (r s : RecordNow) → Takes made now r s → StaysSteady r s
takes_steady (connect.Made e) now r s (mid, room, (opened, some)) = at s.core.live.feed opened some ∙ ap steady_of room
  where
    at : (o : Option FeedNow) → IfSome o (λ v. IsOpening mid.core.facts e v × (s ≡ record (with_opened v e.id mid) { room = s.room })) → IsSome o → StaysSteady mid s
    at (Some v) (_, h) some = ap steady_of h
    at None h some = absurd (false_isnt_true some)
takes_steady connect.Failed now r s (mid, room, missed) = ap steady_of missed ∙ ap steady_of room
takes_steady connect.NoMemory now r s room = ap steady_of room

pub dialled_steady : (d : Due) (result : Result (Unit {0}) memory.NoMemory) (now : ℕ) (old new : AtPort) → DialsFor d result now old new → StaysSteady old.side new.side
dialled_steady (due.Connect at) result now old new d = takes_steady d.made now old.side new.side d.takes
dialled_steady due.Nothing result now old new (_, e) = ap (λ (a : AtPort). steady_of a.side) e
dialled_steady due.Plan result now old new (_, e) = ap (λ (a : AtPort). steady_of a.side) e
dialled_steady due.Hand result now old new (_, e) = ap (λ (a : AtPort). steady_of a.side) e
dialled_steady due.Write result now old new (_, e) = ap (λ (a : AtPort). steady_of a.side) e
dialled_steady due.Frame result now old new (_, e) = ap (λ (a : AtPort). steady_of a.side) e
dialled_steady due.Read result now old new (_, e) = ap (λ (a : AtPort). steady_of a.side) e
dialled_steady due.Compose result now old new (_, e) = ap (λ (a : AtPort). steady_of a.side) e
