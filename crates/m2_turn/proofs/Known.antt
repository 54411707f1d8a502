-- What a record knows of a half's socket stays so.
use Rattle.std.proofs.Common.{◌≡◌, ℕ, Bool, true, false, List, [], ◌∷◌, ◌++◌, Option, Some, None, IfSome, IsSome, refl, sym, ap, subst, ◌∙◌, append-nil, append_assoc}
use Rattle.std.specs.List.{AllByRecursion}
use Rattle.m2_record.specs.m2_core.declared.verdict.Verdict.{Verdict}
use Rattle.m2_record.specs.m2_core.Effects.{closed_if}
use Rattle.m2_record.specs.m2_core.Judging.{verdict_on}
use Rattle.m2_record.specs.m2_core.TakingOver.{IsTakenFeed}
use Rattle.m2_feed.specs.FeedNow.{FeedNow}
use Rattle.m2_fabric.specs.declared.socket.SocketId.{SocketId}
use Rattle.m2_fabric.specs.Sockets.{IsNewTo, is_among, same_socket}
use Rattle.m2_feed.specs.m2_journal.declared.entry.Entry.{Entry}
use Rattle.m2_feed.specs.m2_journal.declared.entry.Entry.TheVariants as entry
use Rattle.m2_feed.specs.m2_journal.declared.entry.JudgedItem.{JudgedItem}
use Rattle.m2_feed.specs.m2_journal.Lawful.{judged_on}
use Rattle.m2_session.specs.declared.answer.Answer.{Answer}
use Rattle.m2_session.specs.SessionLaws.{takes}
use Rattle.m2_handshake.specs.declared.ask.Ask.{Ask}
use Rattle.m2_trail.specs.Asks.{facts_of_ask}
use Rattle.m2_trail.specs.Incoming.{IncomingNow, after_judging, item_of, items_of}
use Rattle.m2_record.specs.Calls.{closed_entries}
use Rattle.m2_record.specs.IsRecord.{IsRecord, became_feed, feeds_in}
use Rattle.m2_record.specs.declared.judging.Judged.{Judged}
use Rattle.m2_record.specs.declared.judging.Judged.TheVariants as judged
use Rattle.m2_record.specs.Judging.{JudgesAs, TakenHalf, after_taking_over, effects_at, half_of, judged_entry}
use Rattle.m2_record.specs.declared.stepped.Stepped.{Stepped}
use Rattle.m2_record.specs.RecordNow.{RecordNow, ends_of, feed_end, ids_of}
use Rattle.m2_record.specs.Stepping.{StepsAs, Worked}
use Rattle.m2_record.specs.TakenTrails.{judgement_of, judgements_in}
use Rattle.m2_turn.specs.Answering.{IsKnown, StaysBeside}
use Rattle.m2_turn.specs.Judging.{Judges, Judging}
use Rattle.m2_turn.specs.RecordTurn.{Means}
use Rattle.m2_turn.specs.Steps.{BringsNoSocket, GoesOn}
use Rattle.m2_turn.proofs.Came.{turned}
use Rattle.m2_turn.proofs.GoesOn.{room_alone, steps, closed as closed_none, both, counts_on}
use Rattle.m2_turn.proofs.Opened.{filtered, still_made}
use Rattle.m2_record.proofs.AsksJudged.{judged_append}
use Rattle.m2_bytes.proofs.m2_lemmas.Booleans.{false_isnt_true}
use Rattle.m2_fabric.proofs.Sockets.{same_refl, among_neither}

-- ---- ends and the sockets that became the feed

pub fed_by : (r : RecordNow) → IsRecord r → (k : SocketId) → IsNewTo (ids_of (ends_of r)) k → IsNewTo (feeds_in r.journal) k
fed_by r kept k new = sym (ap (is_among k) kept.kept.ends) ∙ turned k r.spent (feed_end r.core.live.feed) new

pub ends_by : (r : RecordNow) → IsRecord r → (k : SocketId) → IsNewTo (feeds_in r.journal) k → IsNewTo (ids_of (ends_of r)) k
ends_by r kept k new = turned k (feed_end r.core.live.feed) r.spent (ap (is_among k) kept.kept.ends ∙ new)

-- ---- entries that bring no socket

none_fed : (es : List Entry) → AllByRecursion BringsNoSocket es → feeds_in es ≡ []
none_fed [] none = refl
none_fed (entry.Opened k ∷ es) none = absurd none.0
none_fed (entry.Judged k ask number answer ∷ es) none = absurd none.0
none_fed (entry.Post place ∷ es) none = none_fed es none.1
none_fed (entry.Dial ∷ es) none = none_fed es none.1
none_fed (entry.Read k count ∷ es) none = none_fed es none.1
none_fed (entry.Wrote k count ∷ es) none = none_fed es none.1
none_fed (entry.Closed k ∷ es) none = none_fed es none.1
none_fed (entry.Asked ident number ∷ es) none = none_fed es none.1
none_fed (entry.Numbered number ∷ es) none = none_fed es none.1
none_fed (entry.Accepted number key ∷ es) none = none_fed es none.1
none_fed (entry.Acked number ∷ es) none = none_fed es none.1
none_fed (entry.Obeyed full ∷ es) none = none_fed es none.1
none_fed (entry.Down planned ∷ es) none = none_fed es none.1

pub none_judged : (es : List Entry) → AllByRecursion BringsNoSocket es → judgements_in es ≡ []
none_judged [] none = refl
none_judged (entry.Opened k ∷ es) none = absurd none.0
none_judged (entry.Judged k ask number answer ∷ es) none = absurd none.0
none_judged (entry.Post place ∷ es) none = none_judged es none.1
none_judged (entry.Dial ∷ es) none = none_judged es none.1
none_judged (entry.Read k count ∷ es) none = none_judged es none.1
none_judged (entry.Wrote k count ∷ es) none = none_judged es none.1
none_judged (entry.Closed k ∷ es) none = none_judged es none.1
none_judged (entry.Asked ident number ∷ es) none = none_judged es none.1
none_judged (entry.Numbered number ∷ es) none = none_judged es none.1
none_judged (entry.Accepted number key ∷ es) none = none_judged es none.1
none_judged (entry.Acked number ∷ es) none = none_judged es none.1
none_judged (entry.Obeyed full ∷ es) none = none_judged es none.1
none_judged (entry.Down planned ∷ es) none = none_judged es none.1

-- ---- a step

pub steps_known : (a : IncomingNow) (old new : RecordNow) → GoesOn old new → IsRecord old → IsRecord new → IsKnown a old → IsKnown a new
steps_known a old new on was is known = record {
  entity = known.entity ∙ sym (ap (λ f. f.node.entity) on.facts);
  new = ends_by new is a.end.id
      (ap (is_among a.end.id) (ap feeds_in on.journal ∙ filtered became_feed old.journal on.more)
      ∙ among_neither a.end.id (feeds_in old.journal) (feeds_in on.more) (fed_by old was a.end.id known.new) (ap (is_among a.end.id) (none_fed on.more on.no_socket)));
  judged = known.judged ∙ sym (ap (judged_on a.end.id) (ap judgements_in on.journal ∙ filtered judgement_of old.journal on.more ∙ ap (λ l. judgements_in old.journal ++ l) (none_judged on.more on.no_socket) ∙ append-nil (judgements_in old.journal)));
}

-- ---- an ask that is judged and takes no socket

judged_here : (k : SocketId) (i : JudgedItem) → judged_on k (record { socket = k; item = i } ∷ []) ≡ i ∷ []
judged_here k i = rw (same_refl k) refl

judged_elsewhere : (k x : SocketId) (i : JudgedItem) → same_socket k x ≡ false → judged_on k (record { socket = x; item = i } ∷ []) ≡ []
judged_elsewhere k x i other = rw other refl

-- the judgements behind the entry of an ask, and of what its answer brought about
judged_behind : (journal : List Entry) (v : Verdict) (x : SocketId) (more : List Entry) → AllByRecursion BringsNoSocket more → (k : SocketId) →
    judged_on k (judgements_in ((journal ++ judged_entry v x ∷ []) ++ more))
    ≡ judged_on k (judgements_in journal) ++ judged_on k (record { socket = x; item = record { ask = v.ask; answer = v.answer } } ∷ [])
judged_behind journal v x more none k =
    ap (judged_on k)
    (filtered judgement_of (journal ++ judged_entry v x ∷ []) more
    ∙ ap (λ l. judgements_in (journal ++ judged_entry v x ∷ []) ++ l) (none_judged more none)
    ∙ append-nil (judgements_in (journal ++ judged_entry v x ∷ []))
    ∙ filtered judgement_of journal (judged_entry v x ∷ []))
    ∙ judged_append k (judgements_in journal) (record { socket = x; item = record { ask = v.ask; answer = v.answer } } ∷ [])

-- and the sockets that became the feed
fed_behind : (journal : List Entry) (v : Verdict) (x : SocketId) (more : List Entry) → AllByRecursion BringsNoSocket more → (k : SocketId) → is_among k (feeds_in (judged_entry v x ∷ [])) ≡ false →
    IsNewTo (feeds_in journal) k → IsNewTo (feeds_in ((journal ++ judged_entry v x ∷ []) ++ more)) k
fed_behind journal v x more none k here new =
    ap (is_among k)
    (filtered became_feed (journal ++ judged_entry v x ∷ []) more
    ∙ ap (λ l. feeds_in (journal ++ judged_entry v x ∷ []) ++ l) (none_fed more none)
    ∙ append-nil (feeds_in (journal ++ judged_entry v x ∷ []))
    ∙ filtered became_feed journal (judged_entry v x ∷ []))
    ∙ among_neither k (feeds_in journal) (feeds_in (judged_entry v x ∷ [])) new here

untaken : (v : Verdict) (x k : SocketId) → takes v.answer ≡ false → is_among k (feeds_in (judged_entry v x ∷ [])) ≡ false
untaken v x k e = rw e refl

another : (v : Verdict) (x k : SocketId) → same_socket k x ≡ false → is_among k (feeds_in (judged_entry v x ∷ [])) ≡ false
another v x k other = at (takes v.answer) refl
  where
    at : (b : Bool) → takes v.answer ≡ b → is_among k (feeds_in (judged_entry v x ∷ [])) ≡ false
    at true e = rw e (rw other refl)
    at false e = rw e refl

-- a socket of another half
other_known : (b : IncomingNow) (old new : RecordNow) (v : Verdict) (x : SocketId) (more : List Entry) → AllByRecursion BringsNoSocket more → IsRecord old → IsRecord new → same_socket b.end.id x ≡ false →
    new.core.facts ≡ old.core.facts → new.journal ≡ (old.journal ++ judged_entry v x ∷ []) ++ more → IsKnown b old → IsKnown b new
other_known b old new v x more none was is other facts journal known = record {
  entity = known.entity ∙ sym (ap (λ f. f.node.entity) facts);
  new = ends_by new is b.end.id (ap (λ j. is_among b.end.id (feeds_in j)) journal ∙ fed_behind old.journal v x more none b.end.id (another v x b.end.id other) (fed_by old was b.end.id known.new));
  judged = known.judged ∙ sym (ap (λ j. judged_on b.end.id (judgements_in j)) journal ∙ judged_behind old.journal v x more none b.end.id
      ∙ ap (λ l. judged_on b.end.id (judgements_in old.journal) ++ l) (judged_elsewhere b.end.id x _ other) ∙ append-nil (judged_on b.end.id (judgements_in old.journal)));
}

-- that of the half itself, whose trail has the item too
same_known : (a b : IncomingNow) (old new : RecordNow) (v : Verdict) (more : List Entry) → AllByRecursion BringsNoSocket more → IsRecord old → IsRecord new → takes v.answer ≡ false →
    new.core.facts ≡ old.core.facts → new.journal ≡ (old.journal ++ judged_entry v a.end.id ∷ []) ++ more →
    b.end.id ≡ a.end.id → b.trail.entity ≡ a.trail.entity → b.trail.judged ≡ a.trail.judged ++ record { ask = v.ask; answer = v.answer } ∷ [] → IsKnown a old → IsKnown b new
same_known a b old new v more none was is no_taking facts journal id entity judged known = record {
  entity = entity ∙ known.entity ∙ sym (ap (λ f. f.node.entity) facts);
  new = subst (λ k. IsNewTo (ids_of (ends_of new)) k) (sym id)
      (ends_by new is a.end.id (ap (λ j. is_among a.end.id (feeds_in j)) journal ∙ fed_behind old.journal v a.end.id more none a.end.id (untaken v a.end.id a.end.id no_taking) (fed_by old was a.end.id known.new)));
  judged = subst (λ k. b.trail.judged ≡ judged_on k (judgements_in new.journal)) (sym id)
      (judged ∙ ap (λ l. l ++ record { ask = v.ask; answer = v.answer } ∷ []) known.judged
      ∙ sym (ap (λ j. judged_on a.end.id (judgements_in j)) journal ∙ judged_behind old.journal v a.end.id more none a.end.id
      ∙ ap (λ l. judged_on a.end.id (judgements_in old.journal) ++ l) (judged_here a.end.id _)));
}

-- ---- by what was judged

as_judged : (answer : Answer) (arrival a : IncomingNow) (ask : Ask) → arrival ≡ after_judging answer arrival.room a → a.ask ≡ Some ask → arrival.trail.judged ≡ a.trail.judged ++ item_of ask answer ∷ []
as_judged answer arrival a ask e some = ap (λ i. i.trail.judged) e ∙ ap (λ o. a.trail.judged ++ items_of o answer) some

pub back_known : {E : Type 0} (answer : Answer) (arrival a : IncomingNow) (m : Means) (old new : Judging) → IsSome a.ask → IsRecord old.side → IsRecord new.side → IsKnown a old.side →
    Judges {E = E} (judged.Back answer arrival) a m old new → IsKnown arrival new.side
back_known {E} answer arrival a m old new some was is known j = at a.ask refl j.judges some
  where
    at : (o : Option Ask) → a.ask ≡ o → IfSome o (λ ask. JudgesAs {E = E} (judged.Back answer arrival) (verdict_on (facts_of_ask ask) j.number old.side.core.live) a m.now old.side new.side) → IsSome o → IsKnown arrival new.side
    at None e h none = absurd (false_isnt_true none)
    at (Some ask) e (same, no_taking, back, answers) _ =
        let v = verdict_on (facts_of_ask ask) j.number old.side.core.live in
        same_known a arrival old.side new.side v _ (closed_none _) was is (ap takes (sym same) ∙ no_taking)
        (ap (λ r. r.core.facts) answers) (ap (λ r. r.journal) answers)
        (ap (λ i. i.end.id) back) (ap (λ i. i.trail.entity) back)
        (as_judged answer arrival a ask back e ∙ ap (λ x. a.trail.judged ++ record { ask = facts_of_ask ask; answer = x } ∷ []) same) known

-- the entries behind that of an ask whose socket was taken: of the old feed, and of what the ask acknowledges
abbrev pub entries_behind : Verdict → RecordNow → List Entry → List Entry
entries_behind v old more = closed_entries (closed_if (effects_at v old).close old.core.live.feed) ++ more

pub none_behind : (v : Verdict) (old mid new : RecordNow) (on : GoesOn mid new) → AllByRecursion BringsNoSocket (entries_behind v old on.more)
none_behind v old mid new on =
    let end = closed_if (effects_at v old).close old.core.live.feed in
    both (closed_entries end) on.more (closed_none end) on.no_socket

pub journal_behind : (v : Verdict) (h : TakenHalf) (d : FeedNow) (now : ℕ) (old mid new : RecordNow) (on : GoesOn mid new) → mid ≡ record (after_taking_over v h d now old) { room = mid.room } →
    new.journal ≡ (old.journal ++ judged_entry v h.end.id ∷ []) ++ entries_behind v old on.more
journal_behind v h d now old mid new on e =
    on.journal ∙ ap (λ r. r.journal ++ on.more) e
    ∙ append_assoc (old.journal ++ judged_entry v h.end.id ∷ []) (closed_entries (closed_if (effects_at v old).close old.core.live.feed)) on.more

taken_known : (v : Verdict) (h : TakenHalf) (now : ℕ) (b : IncomingNow) (old mid new : RecordNow) (o : Option FeedNow) →
    IfSome o (λ d. IsTakenFeed v h.end h.unread old.core d × (mid ≡ record (after_taking_over v h d now old) { room = mid.room })) → IsSome o → GoesOn mid new →
    IsRecord old → IsRecord new → same_socket b.end.id h.end.id ≡ false → IsKnown b old → IsKnown b new
taken_known v h now b old mid new None e none on was is other known = absurd (false_isnt_true none)
taken_known v h now b old mid new (Some d) (_, e) _ on was is other known =
    other_known b old new v h.end.id (entries_behind v old on.more) (none_behind v old mid new on) was is other (on.facts ∙ ap (λ r. r.core.facts) e)
    (journal_behind v h d now old mid new on e) known

pub others_known : {E : Type 0} (j : Judged E) (a b : IncomingNow) (m : Means) (old new : Judging) → IsSome a.ask → IsRecord old.side → IsRecord new.side →
    same_socket b.end.id a.end.id ≡ false → IsKnown b old.side → Judges j a m old new → IsKnown b new.side
others_known {E} j a b m old new some was is other known h = at a.ask h.judges some
  where
    by_answer : (x : Judged E) (v : Verdict) → JudgesAs x v a m.now old.side new.side → IsKnown b new.side
    by_answer (judged.Taken answer) v (_, _, t) =
        taken_known v (half_of answer a) m.now b old.side t.taken new.side t.taken.core.live.feed t.over.0 t.over.1 (counts_on t.taken new.side t.counts) was is other known
    by_answer (judged.Back answer arrival) v (_, _, _, answers) =
        other_known b old.side new.side v a.end.id _ (closed_none _) was is other (ap (λ r. r.core.facts) answers) (ap (λ r. r.journal) answers) known
    by_answer (judged.NoMemory arrival) v (_, room) = steps_known b old.side new.side (room_alone old.side new.side room) was is known

    at : (o : Option Ask) → IfSome o (λ ask. JudgesAs j (verdict_on (facts_of_ask ask) h.number old.side.core.live) a m.now old.side new.side) → IsSome o → IsKnown b new.side
    at None e none = absurd (false_isnt_true none)
    at (Some ask) e _ = by_answer j (verdict_on (facts_of_ask ask) h.number old.side.core.live) e

-- ---- what stays beside a record

pub goes_on_stays : (old new : RecordNow) → GoesOn old new → IsRecord old → IsRecord new → StaysBeside old new
goes_on_stays old new on was is = record { facts = on.facts; made = (λ made known. still_made made old new on known); known = (λ a known. steps_known a old new on was is known) }

pub step_stays : (answer : Stepped) (w : Worked) (old new : RecordNow) → StepsAs answer w old new → IsRecord old → IsRecord new → StaysBeside old new
step_stays answer w old new step was is = goes_on_stays old new (steps answer w old new step) was is

pub nothing_moved : (r : RecordNow) → StaysBeside r r
nothing_moved r = record { facts = refl; made = (λ made known. known); known = (λ a known. known) }

pub stays_on : (a b c : RecordNow) → StaysBeside a b → StaysBeside b c → StaysBeside a c
stays_on a b c first second = record {
  facts = second.facts ∙ first.facts;
  made = (λ made known. second.made made (first.made made known));
  known = (λ h known. second.known h (first.known h known));
}
