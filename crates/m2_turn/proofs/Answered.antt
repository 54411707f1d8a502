-- What stays beside a record that answers a half.
use Rattle.std.proofs.Common.{◌≡◌, inl, inr, Bool, true, false, List, [], ◌∷◌, ◌++◌, Option, Some, None, IfSome, IsSome, refl, sym, ap, subst, ◌∙◌, append-nil}
use Rattle.std.specs.List.{AllByRecursion}
use Rattle.m2_handshake.specs.m2_control.declared.control.Control.{Control}
use Rattle.m2_record.specs.m2_core.declared.verdict.Verdict.{Verdict}
use Rattle.m2_record.specs.m2_core.Judging.{verdict_on}
use Rattle.m2_record.specs.m2_core.TakingOver.{IsTakenFeed}
use Rattle.m2_fabric.specs.declared.socket.SocketId.{SocketId}
use Rattle.m2_fabric.specs.Sockets.{IsNewTo, is_among}
use Rattle.m2_feed.specs.FeedNow.{FeedNow}
use Rattle.m2_handshake.specs.declared.ask.Ask.{Ask}
use Rattle.m2_handshake.specs.declared.ident.IdentCheck.{IdentCheck}
use Rattle.m2_handshake.specs.declared.ident.IdentCheck.TheVariants.{Fine, Missing, Fault}
use Rattle.m2_feed.specs.m2_journal.declared.entry.Entry.{Entry}
use Rattle.m2_feed.specs.m2_journal.Lawful.{judged_on}
use Rattle.m2_record.specs.IsRecord.{IsRecord}
use Rattle.m2_record.specs.declared.judging.Judged.{Judged}
use Rattle.m2_record.specs.declared.judging.Judged.TheVariants as judged
use Rattle.m2_record.specs.Judging.{JudgesAs, after_taking_over, half_of, judged_entry}
use Rattle.m2_record.specs.RecordNow.{RecordNow, ends_of, ids_of}
use Rattle.m2_record.specs.TakenTrails.{judgements_in}
use Rattle.m2_session.specs.declared.answer.Answer.{Answer}
use Rattle.m2_trail.specs.Asks.{facts_of_ask}
use Rattle.m2_trail.specs.Incoming.{IncomingNow, after_replying}
use Rattle.m2_trail.specs.Replies.{first_reply}
use Rattle.m2_turn.specs.declared.answering.HalfAnswered.{HalfAnswered}
use Rattle.m2_turn.specs.declared.answering.HalfAnswered.TheVariants as half
use Rattle.m2_turn.specs.Answering.{AnswersBy, AnswersHalf, FindsSo, HearsHalf, IsKnown, IsStill, OwesThen, RefusesHalf, RejectsHalf, RepliesHalf, StaysAnswered, StaysKnown}
use Rattle.m2_turn.specs.Connecting.{IsMadeBy}
use Rattle.m2_turn.specs.Judging.{Judges, Judging}
use Rattle.m2_turn.specs.RecordTurn.{Means}
use Rattle.m2_turn.specs.Steps.{came_by, came_in, BringsNoSocket, GoesOn}
use Rattle.m2_turn.proofs.Came.{alone}
use Rattle.m2_turn.proofs.GoesOn.{room_alone, closed as closed_none, counts_on}
use Rattle.m2_turn.proofs.Known.{back_known, others_known, steps_known, entries_behind, journal_behind, none_behind}
use Rattle.m2_turn.proofs.Opened.{filtered, none_came, room_made}
use Rattle.m2_bytes.proofs.m2_lemmas.Booleans.{false_isnt_true}
use Rattle.m2_fabric.proofs.Sockets.{same_equal, among_neither}

-- ---- the sockets that came

-- behind the entry of an ask, and of what its answer brought about
came_behind : (journal : List Entry) (v : Verdict) (x : SocketId) (more : List Entry) → AllByRecursion BringsNoSocket more →
    came_in ((journal ++ judged_entry v x ∷ []) ++ more) ≡ came_in journal ++ x ∷ []
came_behind journal v x more none =
    filtered came_by (journal ++ judged_entry v x ∷ []) more
    ∙ ap (λ l. came_in (journal ++ judged_entry v x ∷ []) ++ l) (none_came more none)
    ∙ append-nil (came_in (journal ++ judged_entry v x ∷ []))
    ∙ filtered came_by journal (judged_entry v x ∷ [])

-- a socket that wasn't made isn't one that was
another : (made : List SocketId) (k x : SocketId) → is_among x made ≡ true → IsNewTo made k → is_among k (x ∷ []) ≡ false
another made k x among fresh = alone k x (λ same. false_isnt_true (sym fresh ∙ ap (λ j. is_among j made) (same_equal k x same) ∙ among))

judged_made : (made : List SocketId) (old new : RecordNow) (v : Verdict) (x : SocketId) (more : List Entry) → AllByRecursion BringsNoSocket more → is_among x made ≡ true →
    new.journal ≡ (old.journal ++ judged_entry v x ∷ []) ++ more → IsMadeBy made old → IsMadeBy made new
judged_made made old new v x more none among journal known k fresh =
    ap (is_among k) (ap came_in journal ∙ came_behind old.journal v x more none)
    ∙ among_neither k (came_in old.journal) (x ∷ []) (known k fresh) (another made k x among fresh)

-- ---- what a judgement leaves beside the half

record IsBeside (a : IncomingNow) (old new : RecordNow) : Type 0 where
  facts : new.core.facts ≡ old.core.facts
  made : (made : List SocketId) → is_among a.end.id made ≡ true → IsMadeBy made old → IsMadeBy made new

unmoved : (a : IncomingNow) (old new : RecordNow) → new ≡ old → IsBeside a old new
unmoved a old new e = record { facts = ap (λ r. r.core.facts) e; made = (λ made among known. subst (IsMadeBy made) (sym e) known) }

taken_beside : (v : Verdict) (answer : Answer) (a : IncomingNow) (now : _) (old mid new : RecordNow) (o : Option FeedNow) →
    IfSome o (λ d. IsTakenFeed v (half_of answer a).end (half_of answer a).unread old.core d × (mid ≡ record (after_taking_over v (half_of answer a) d now old) { room = mid.room })) → IsSome o →
    GoesOn mid new → IsBeside a old new
taken_beside v answer a now old mid new None e none on = absurd (false_isnt_true none)
taken_beside v answer a now old mid new (Some d) (_, e) _ on =
    record {
      facts = on.facts ∙ ap (λ r. r.core.facts) e;
      made = (λ made among known. judged_made made old new v a.end.id (entries_behind v old on.more) (none_behind v old mid new on) among (journal_behind v (half_of answer a) d now old mid new on e) known);
    }

judged_beside : {E : Type 0} (j : Judged E) (a : IncomingNow) (m : Means) (old new : Judging) → IsSome a.ask → Judges j a m old new → IsBeside a old.side new.side
judged_beside {E} j a m old new some h = at a.ask h.judges some
  where
    by_answer : (x : Judged E) (v : Verdict) → JudgesAs x v a m.now old.side new.side → IsBeside a old.side new.side
    by_answer (judged.Taken answer) v (_, _, t) = taken_beside v answer a m.now old.side t.taken new.side t.taken.core.live.feed t.over.0 t.over.1 (counts_on t.taken new.side t.counts)
    by_answer (judged.Back answer arrival) v (_, _, _, answers) =
        record { facts = ap (λ r. r.core.facts) answers; made = (λ made among known. judged_made made old.side new.side v a.end.id _ (closed_none _) among (ap (λ r. r.journal) answers) known) }
    by_answer (judged.NoMemory arrival) v (_, room) = record { facts = ap (λ r. r.core.facts) room; made = (λ made among known. room_made made old.side new.side room known) }

    at : (o : Option Ask) → IfSome o (λ ask. JudgesAs j (verdict_on (facts_of_ask ask) h.number old.side.core.live) a m.now old.side new.side) → IsSome o → IsBeside a old.side new.side
    at None e none = absurd (false_isnt_true none)
    at (Some ask) e _ = by_answer j (verdict_on (facts_of_ask ask) h.number old.side.core.live) e

-- ---- the half itself

like : (b c a : IncomingNow) (r : RecordNow) → b.end.id ≡ c.end.id → b.trail.entity ≡ c.trail.entity → b.trail.judged ≡ c.trail.judged → IsStill c a r → IsStill b a r
like b c a r id entity judged s = record {
  id = id ∙ s.id;
  known = record {
    entity = entity ∙ s.known.entity;
    new = subst (IsNewTo (ids_of (ends_of r))) (sym id) s.known.new;
    judged = judged ∙ s.known.judged ∙ ap (λ k. judged_on k (judgements_in r.journal)) (sym id);
  };
}

given : (o : Option Control) (goes_on c a : IncomingNow) (r : RecordNow) → IsSome o → IfSome o (λ reply. goes_on ≡ after_replying reply c) → IsStill c a r → IsStill goes_on a r
given None goes_on c a r none e s = absurd (false_isnt_true none)
given (Some reply) goes_on c a r _ e s = like goes_on c a r (ap (λ i. i.end.id) e) (ap (λ i. i.trail.entity) e) (ap (λ i. i.trail.judged) e) s

replied : {E : Type 0} (result : HalfAnswered E) (c a : IncomingNow) (r : RecordNow) → RepliesHalf result c → IsStill c a r → StaysKnown result a r
replied (half.Taken answer) c a r reply s = absurd reply
replied (half.Open goes_on) c a r (answer, _, some, is) s = given (first_reply answer) goes_on c a r some is s
replied (half.Closed loose) c a r (answer, _, none, is) s = (c, s, is)
replied (half.Undrawn back) c a r reply s = absurd reply
replied (half.NoMemory back) c a r is s = like back c a r (ap (λ i. i.end.id) is) (ap (λ i. i.trail.entity) is) (ap (λ i. i.trail.judged) is) s

refused : {E : Type 0} (result : HalfAnswered E) (bits : _) (a : IncomingNow) (r : RecordNow) → RefusesHalf result bits a → IsStill a a r → StaysKnown result a r
refused (half.Taken answer) bits a r e s = absurd e
refused (half.Open goes_on) bits a r e s = like goes_on a a r (ap (λ i. i.end.id) e) (ap (λ i. i.trail.entity) e) (ap (λ i. i.trail.judged) e) s
refused (half.Closed loose) bits a r e s = absurd e
refused (half.Undrawn back) bits a r e s = absurd e
refused (half.NoMemory back) bits a r e s = like back a a r (ap (λ i. i.end.id) e) (ap (λ i. i.trail.entity) e) (ap (λ i. i.trail.judged) e) s

rejected : {E : Type 0} (result : HalfAnswered E) (a : IncomingNow) (r : RecordNow) → RejectsHalf result a → IsStill a a r → StaysKnown result a r
rejected (half.Taken answer) a r e s = absurd e
rejected (half.Open goes_on) a r e s = absurd e
rejected (half.Closed loose) a r e s = (a, s, e)
rejected (half.Undrawn back) a r e s = absurd e
rejected (half.NoMemory back) a r e s = absurd e

-- ---- by the answer

-- what was known before
record Before (a : IncomingNow) (old new : RecordNow) : Type 0 where
  was : IsRecord old
  is : IsRecord new
  some : IsSome a.ask
  known : IsKnown a old

as_before : {E : Type 0} (result : HalfAnswered E) (a : IncomingNow) (old new : RecordNow) → new ≡ old → StaysKnown result a new → StaysAnswered result a old new
as_before result a old new e itself =
    let beside = unmoved a old new e in
    record { facts = beside.facts; made = beside.made; others = (λ b other known. subst (IsKnown b) (sym e) known); itself = itself }

by_judging : {E : Type 0} (result : HalfAnswered E) (j : Judged E) (a : IncomingNow) (m : Means) (old new : Judging) → Before a old.side new.side → Judges j a m old new →
    StaysKnown result a new.side → StaysAnswered result a old.side new.side
by_judging result j a m old new b h itself =
    let beside = judged_beside j a m old new b.some h in
    record {
      facts = beside.facts;
      made = beside.made;
      others = (λ other apart known. others_known j a other m old new b.some b.was b.is apart known h);
      itself = itself;
    }

back_still : {E : Type 0} (answer : Answer) (arrival a : IncomingNow) (m : Means) (old new : Judging) → Before a old.side new.side → Judges {E = E} (judged.Back answer arrival) a m old new → IsStill arrival a new.side
back_still {E} answer arrival a m old new b h = record { id = at a.ask h.judges b.some; known = back_known {E = E} answer arrival a m old new b.some b.was b.is b.known h }
  where
    at : (o : Option Ask) → IfSome o (λ ask. JudgesAs {E = E} (judged.Back answer arrival) (verdict_on (facts_of_ask ask) h.number old.side.core.live) a m.now old.side new.side) → IsSome o → arrival.end.id ≡ a.end.id
    at None e none = absurd (false_isnt_true none)
    at (Some ask) (_, _, back, _) _ = ap (λ i. i.end.id) back

lacking_still : {E : Type 0} (arrival a : IncomingNow) (m : Means) (old new : Judging) → Before a old.side new.side → Judges {E = E} (judged.NoMemory arrival) a m old new → IsStill arrival a new.side
lacking_still {E} arrival a m old new b h = at a.ask h.judges b.some
  where
    at : (o : Option Ask) → IfSome o (λ ask. JudgesAs {E = E} (judged.NoMemory arrival) (verdict_on (facts_of_ask ask) h.number old.side.core.live) a m.now old.side new.side) → IsSome o → IsStill arrival a new.side
    at None e none = absurd (false_isnt_true none)
    at (Some ask) (same, room) _ =
        like arrival a a new.side (ap (λ i. i.end.id) same) (ap (λ i. i.trail.entity) same) (ap (λ i. i.trail.judged) same)
        (record { id = refl; known = steps_known a old.side new.side (room_alone old.side new.side room) b.was b.is b.known })

-- where nothing was judged
known_still : (a : IncomingNow) (old new : RecordNow) → new ≡ old → IsKnown a old → IsStill a a new
known_still a old new e known = record { id = refl; known = subst (IsKnown a) (sym e) known }

owed : {E : Type 0} (result : HalfAnswered E) (a : IncomingNow) (m : Means) (old new : Judging) → Before a old.side new.side → OwesThen result a m old new → StaysAnswered result a old.side new.side
owed {E} result a m old new b (arrival, (answer, h), reply) =
    by_judging {E = E} result (judged.Back answer arrival) a m old new b h (replied result arrival a new.side reply (back_still {E = E} answer arrival a m old new b h))

heard : {E : Type 0} (result : HalfAnswered E) (a : IncomingNow) (m : Means) (old new : Judging) → Before a old.side new.side → HearsHalf result a m old new → StaysAnswered result a old.side new.side
heard {E} (half.Taken answer) a m old new b h = by_judging {E = E} (half.Taken answer) (judged.Taken answer) a m old new b h tt
heard {E} (half.Open goes_on) a m old new b h = owed {E = E} (half.Open goes_on) a m old new b h
heard {E} (half.Closed loose) a m old new b h = owed {E = E} (half.Closed loose) a m old new b h
heard {E} (half.Undrawn back) a m old new b (same, side, _, _) =
    as_before {E = E} (half.Undrawn back) a old.side new.side side
    (like back a a new.side (ap (λ i. i.end.id) same) (ap (λ i. i.trail.entity) same) (ap (λ i. i.trail.judged) same) (known_still a old.side new.side side b.known))
heard {E} (half.NoMemory back) a m old new b (inl h) =
    by_judging {E = E} (half.NoMemory back) (judged.NoMemory back) a m old new b h (lacking_still {E = E} back a m old new b h)
heard {E} (half.NoMemory back) a m old new b (inr h) = owed {E = E} (half.NoMemory back) a m old new b h

found : {E : Type 0} (check : IdentCheck) (result : HalfAnswered E) (a : IncomingNow) (m : Means) (old new : Judging) → Before a old.side new.side → FindsSo check result a m old new →
    StaysAnswered result a old.side new.side
found Fine result a m old new b h = heard result a m old new b h
found (Missing bits) result a m old new b (refuses, same) =
    let side = ap (λ (j : Judging). j.side) same in
    as_before result a old.side new.side side (refused result bits a new.side refuses (known_still a old.side new.side side b.known))
found (Fault f) result a m old new b (rejects, same) =
    let side = ap (λ (j : Judging). j.side) same in
    as_before result a old.side new.side side (rejected result a new.side rejects (known_still a old.side new.side side b.known))

pub answer_stays : {E : Type 0} (result : HalfAnswered E) (a : IncomingNow) (m : Means) (old new : Judging) → IsSome a.ask → IsRecord old.side → IsRecord new.side → IsKnown a old.side →
    AnswersHalf result a m old new → StaysAnswered result a old.side new.side
answer_stays {E} result a m old new some was is known h = at a.is_judged h
  where
    before : Before a old.side new.side
    before = record { was = was; is = is; some = some; known = known }

    at : (b : Bool) → AnswersBy b result a m old new → StaysAnswered result a old.side new.side
    at true (reply, same) =
        let side = ap (λ (j : Judging). j.side) same in
        as_before result a old.side new.side side (replied result a a new.side reply (known_still a old.side new.side side known))
    at false (check, _, finds) = found check result a m old new before finds
