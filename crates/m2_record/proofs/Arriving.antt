-- An arrival that a record may judge: the answer to its ask may have its entry.
use Rattle.std.proofs.Common.{◌≡◌, ℕ, ◌≤◌, true, List, [], ◌∷◌, ◌++◌, Option, Some, None, sym, ap, subst, ◌∙◌, arith}
use Rattle.std.specs.Prelude.{IfSome, IsSome}
use Rattle.std.specs.List.{AllByRecursion}
use Rattle.m2_session.specs.declared.ask.AskFacts.{AskFacts}
use Rattle.m2_core.specs.Judging.{CanJudge, judgement_of, verdict_on}
use Rattle.m2_core.specs.TakingOver.{IsTakenFeed}
use Rattle.m2_core.specs.declared.verdict.Verdict.{Verdict}
use Rattle.m2_feed.specs.FeedNow.{FeedNow}
use Rattle.m2_handshake.specs.declared.ask.Ask.{Ask}
use Rattle.m2_journal.specs.declared.entry.JudgedItem.{JudgedItem}
use Rattle.m2_journal.specs.Items.{items_of}
use Rattle.m2_journal.specs.Laws.{SessionIsSound}
use Rattle.m2_journal.specs.Lawful.{IsReadable, may_ask_again}
use Rattle.m2_journal.specs.SideFacts.{SideFacts}
use Rattle.m2_journal.specs.State.{State}
use Rattle.m2_journal.proofs.Sound.{are_sound}
use Rattle.m2_trail.specs.Arrivals.{IsArrival}
use Rattle.m2_trail.specs.Asks.{AgreesWith, facts_of_ask}
use Rattle.m2_trail.specs.Incoming as incoming
use Rattle.m2_trail.specs.Incoming.{IncomingNow}
use Rattle.m2_record.specs.IsRecord.{IsRecord}
use Rattle.m2_record.specs.Judging.{CanAskOn, CanBeJudged, CanBeTaken, JudgesAs, after_taking_over, half_of}
use Rattle.m2_record.specs.declared.judging.Judged.{Judged}
use Rattle.m2_record.specs.declared.judging.Judged.TheVariants as judged
use Rattle.m2_record.specs.RecordNow.{RecordNow, Rooms, speaks_of}
use Rattle.m2_record.proofs.Resumed.{counted-top}
use Rattle.m2_bytes.proofs.m2_lemmas.Booleans.{false_isnt_true}

-- the session of a record is sound, as that of each replay
pub session-sound : (r : RecordNow) → IsRecord r → SessionIsSound r.core.facts r.core.live.session
session-sound r h =
    subst (SessionIsSound r.core.facts) (sym h.at_state.core.session)
    (subst (λ (t : State). SessionIsSound r.core.facts t.session) (sym h.at_state.replay.state) (are_sound r.core.facts (items_of (speaks_of r) r.journal) h.at_state.replay.lawful).session)

-- room is no part of it
pub can-in-room : (a : IncomingNow) (number : ℕ) (r : RecordNow) (more : ℕ) (room : Rooms) → CanBeJudged a number r → CanBeJudged (record a { room = more }) number (record r { room = room })
can-in-room a number r more room can = record { unjudged = can.unjudged; agrees = can.agrees; entity = can.entity; new = can.new; judged = can.judged; from = can.from; to = can.to }

module _ (a : IncomingNow) (number : ℕ) (r : RecordNow) (can : CanBeJudged a number r) (is : IsArrival a) where
  pub can-judge : (facts : AskFacts) → IsRecord r → ((f : SideFacts) → IfSome a.ask (λ ask. AgreesWith f.policy ask → IsReadable f facts)) → CanJudge facts number r.core
  can-judge facts h readable = record {
    readable = subst (λ (o : Option Ask). IfSome o (λ ask. AgreesWith r.core.facts.policy ask → IsReadable r.core.facts facts)) is.in_hand (readable r.core.facts)
        (subst (λ (o : Option Ask). IfSome o (AgreesWith r.core.facts.policy)) is.in_hand can.agrees);
    from = can.from;
    to = can.to;
    session = session-sound r h;
  }

  pub can-ask : CanAskOn a.end.id r
  can-ask = record { new = can.new; again = subst (AllByRecursion (λ i. may_ask_again i.answer ≡ true)) (sym (is.place.next can.unjudged) ∙ can.judged) is.place.again }

  -- where the socket is taken
  pub can-take : (v : Verdict) → IfSome a.ask (λ ask. v.ask ≡ facts_of_ask ask) → CanBeTaken v (half_of v.answer a) r
  can-take v of = record {
    socket = can-ask;
    entity = can.entity;
    judged = at a.ask is.in_hand of ∙ ap (λ (l : List JudgedItem). l ++ judgement_of v ∷ []) can.judged;
  }
    where
      at : (o : Option Ask) → o ≡ Some is.ask → IfSome o (λ ask. v.ask ≡ facts_of_ask ask) → a.trail.judged ++ incoming.items_of o v.answer ≡ a.trail.judged ++ judgement_of v ∷ []
      at (Some ask) e g = ap (λ (f : AskFacts). a.trail.judged ++ record { ask = f; answer = v.answer } ∷ []) (sym g)
      at None e g = absurd (subst (λ (o : Option Ask). elim o as (λ _. Type 0) [ None ↦ Unit {0} | Some x ↦ ⊥ ]) e tt)

-- ---- what judging leaves

-- the answer is that to the ask in hand
pub to-the-ask : {E : Type 0} (result : Judged E) (a : IncomingNow) (number now : ℕ) (old new : RecordNow) (v : Verdict) (facts : AskFacts) → IfSome a.ask (λ ask. facts ≡ facts_of_ask ask) → v ≡ verdict_on facts number old.core.live →
    JudgesAs result v a now old new → IfSome a.ask (λ ask. JudgesAs result (verdict_on (facts_of_ask ask) number old.core.live) a now old new)
to-the-ask result a number now old new v facts of is h = at a.ask of
  where
    at : (o : Option Ask) → IfSome o (λ ask. facts ≡ facts_of_ask ask) → IfSome o (λ ask. JudgesAs result (verdict_on (facts_of_ask ask) number old.core.live) a now old new)
    at (Some ask) e = subst (λ (f : AskFacts). JudgesAs result (verdict_on f number old.core.live) a now old new) e (subst (λ (w : Verdict). JudgesAs result w a now old new) is h)
    at None e = tt

-- no number above that of the answer was used
pub top-judged : {E : Type 0} (result : Judged E) (v : Verdict) (a : IncomingNow) (now : ℕ) (old new : RecordNow) → old.core.top ≤ v.number → JudgesAs result v a now old new → new.core.top ≤ v.number
top-judged (judged.Taken answer) v a now old new from h = below (counted-top mid new h.2.counts) (at mid.core.live.feed h.2.over.0 h.2.over.1)
  where
    mid : RecordNow
    mid = h.2.taken

    below : new.core.top ≡ mid.core.top → mid.core.top ≤ v.number → new.core.top ≤ v.number
    below e k = omega (arith, e, k)

    at : (o : Option FeedNow) → IfSome o (λ d. IsTakenFeed v (half_of answer a).end (half_of answer a).unread old.core d × (mid ≡ record (after_taking_over v (half_of answer a) d now old) { room = mid.room })) → IsSome o → mid.core.top ≤ v.number
    at (Some d) e f = (let t = ap (λ (r : RecordNow). r.core.top) e.1 in omega (arith, t))
    at None e f = absurd (false_isnt_true f)
top-judged (judged.Back answer arrival) v a now old new from h = (let t = ap (λ (r : RecordNow). r.core.top) h.3 in omega (arith, t))
top-judged (judged.NoMemory arrival) v a now old new from h = (let t = ap (λ (r : RecordNow). r.core.top) h.1 in omega (arith, t, from))

-- room is no part of it
in-more-room : {E : Type 0} (result : Judged E) (v : Verdict) (a : IncomingNow) (now more : ℕ) (old new : RecordNow) (room : Rooms) →
    JudgesAs result v (record a { room = more }) now (record old { room = room }) new → JudgesAs result v a now old new
in-more-room (judged.Taken answer) v a now more old new room h = (h.0, h.1, record { taken = h.2.taken; over = h.2.over; counts = h.2.counts })
in-more-room (judged.Back answer arrival) v a now more old new room h = h
in-more-room (judged.NoMemory arrival) v a now more old new room h = h

pub in-room : {E : Type 0} (result : Judged E) (a b : IncomingNow) (number now : ℕ) (old mid new : RecordNow) → b ≡ record a { room = b.room } → mid ≡ record old { room = mid.room } →
    IfSome b.ask (λ ask. JudgesAs result (verdict_on (facts_of_ask ask) number mid.core.live) b now mid new) → IfSome a.ask (λ ask. JudgesAs result (verdict_on (facts_of_ask ask) number old.core.live) a now old new)
in-room {E} result a b number now old mid new e g h = at a.ask
    (subst (λ (r : RecordNow). IfSome a.ask (λ ask. JudgesAs result (verdict_on (facts_of_ask ask) number r.core.live) (record a { room = b.room }) now r new)) g
    (subst (λ (x : IncomingNow). IfSome x.ask (λ ask. JudgesAs result (verdict_on (facts_of_ask ask) number mid.core.live) x now mid new)) e h))
  where
    at : (o : Option Ask) → IfSome o (λ ask. JudgesAs result (verdict_on (facts_of_ask ask) number old.core.live) (record a { room = b.room }) now (record old { room = mid.room }) new) →
        IfSome o (λ ask. JudgesAs result (verdict_on (facts_of_ask ask) number old.core.live) a now old new)
    at (Some ask) k = in-more-room result (verdict_on (facts_of_ask ask) number old.core.live) a now b.room old new mid.room k
    at None k = tt
