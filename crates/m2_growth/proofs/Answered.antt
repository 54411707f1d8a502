-- What becomes of a half that was asked, and of the record that answers.
use Rattle.std.proofs.Common.{◌≡◌, ◌⊎◌, inl, inr, ℕ, ◌≤◌, Bool, true, false, List, [], ◌∷◌, ◌++◌, map, length, Option, Some, None, IfSome, IsSome, refl, sym, ap, subst, ◌∙◌, append-nil, append_assoc, arith}
use Rattle.std.specs.List.{AllByRecursion}
use Rattle.std.specs.Option.{option_to_list}
use Rattle.m2_turn.specs.m2_session.declared.ask.AskFacts.{AskFacts}
use Rattle.m2_weave.specs.m2_control.declared.control.Control.{Control}
use Rattle.m2_turn.specs.m2_core.declared.verdict.Verdict.{Verdict}
use Rattle.m2_turn.specs.m2_core.Judging.{told_of, verdict_on}
use Rattle.m2_turn.specs.m2_core.TakingOver.{IsTakenFeed}
use Rattle.m2_fabric.specs.declared.socket.SocketId.{SocketId}
use Rattle.m2_fabric.specs.End.{SeenEnd, after_closing}
use Rattle.m2_fabric.specs.Sockets.{is_among}
use Rattle.m2_bytes_fit.specs.m2_feed.FeedNow.{FeedNow}
use Rattle.m2_turn.specs.m2_handshake.declared.ask.Ask.{Ask}
use Rattle.m2_turn.specs.m2_handshake.declared.ident.IdentCheck.{IdentCheck}
use Rattle.m2_turn.specs.m2_handshake.declared.ident.IdentCheck.TheVariants.{Fine, Missing, Fault}
use Rattle.m2_weave.specs.m2_journal.declared.entry.Entry.{Entry}
use Rattle.m2_weave.specs.m2_journal.declared.entry.Entry.TheVariants as entry
use Rattle.m2_weave.specs.m2_journal.declared.entry.JudgedItem.{JudgedItem}
use Rattle.m2_weave.specs.m2_journal.State.{Judgement}
use Rattle.m2_turn.specs.m2_core.Effects.{closed_if}
use Rattle.m2_turn.specs.m2_record.Calls.{closed_entries, CountsResumption}
use Rattle.m2_turn.specs.m2_record.declared.judging.Judged.{Judged}
use Rattle.m2_turn.specs.m2_record.declared.judging.Judged.TheVariants as judged
use Rattle.m2_turn.specs.m2_record.Judging.{Answers, JudgesAs, after_taking_over, effects_at, half_of, judged_entry}
use Rattle.m2_turn.specs.m2_record.RecordNow.{RecordNow, ends_of, feed_end}
use Rattle.m2_turn.specs.m2_record.TakenTrails.{judgement_of, judgements_in}
use Rattle.m2_turn.specs.m2_session.declared.answer.Answer.{Answer}
use Rattle.m2_turn.specs.m2_session.SessionLaws.{takes}
use Rattle.m2_turn.specs.declared.answering.HalfAnswered.{HalfAnswered}
use Rattle.m2_turn.specs.declared.answering.HalfAnswered.TheVariants as half
use Rattle.m2_turn.specs.Answering.{AnswersBy, AnswersHalf, FindsSo, HearsHalf, OwesThen, RefusesHalf, RejectsHalf, RepliesHalf}
use Rattle.m2_turn.specs.Judging.{Judges, Judging}
use Rattle.m2_turn.specs.RecordTurn.{Means}
use Rattle.m2_turn.proofs.Opened.{filtered}
use Rattle.m2_turn.proofs.GoesOn.{counts_on as counts_more}
use Rattle.m2_turn.proofs.Known.{entries_behind, journal_behind, none_behind, none_judged}
use Rattle.m2_bytes_fit.specs.m2_trail.Arrivals.{LooseNow, closed_of}
use Rattle.m2_bytes_fit.specs.m2_trail.Asks.{facts_of_ask}
use Rattle.m2_bytes_fit.specs.m2_trail.Incoming.{IncomingNow, after_judging, after_replying, items_of, with_entry, with_judged}
use Rattle.m2_bytes_fit.specs.m2_trail.Replies.{first_reply}
use Rattle.m2_bytes_fit.specs.m2_trail.Trails.{TrailNow}
use Rattle.m2_growth.specs.Ends.{EndGrows}
use Rattle.m2_growth.specs.Halves.{IsOneOf, TrailGrows, asked_on, judged_since}
use Rattle.m2_growth.specs.Records.{IsFed, RecordGrows}
use Rattle.m2_growth.proofs.Among.{among_mapped, in_part, whose}
use Rattle.m2_growth.proofs.Asked.{same_since, since_more}
use Rattle.m2_growth.proofs.Ends.{AreLater, grows_same, later_behind, later_chain, later_same, later_swapped, on_by, on_same}
use Rattle.m2_growth.proofs.Going.{record_same, trail_chain, trail_same}
use Rattle.m2_growth.proofs.Judged.{JudgesOn}
use Rattle.m2_growth.proofs.Standing.{Fixed, ends_left}
use Rattle.m2_growth.proofs.Steps.{counts_on}
use Rattle.m2_growth.proofs.Told.{quiet_stands, taking_closes, taking_feeds, told_quiet, told_taking}
use Rattle.m2_fabric.proofs.m2_lemmas.Booleans.{false_isnt_true}

-- ---- halves

-- the same half, later
pub record HalfGoes (a b : IncomingNow) : Type 0 where
  pub end : EndGrows a.end b.end
  pub trail : TrailGrows a.trail b.trail

-- and where it is over
pub record HalfEnds (a : IncomingNow) (l : LooseNow) : Type 0 where
  pub end : EndGrows a.end l.end
  pub trail : TrailGrows a.trail l.trail

pub half_same : (a : IncomingNow) → HalfGoes a a
half_same a = record { end = grows_same a.end; trail = trail_same a.trail }

-- with the end and the trail of one that went on
like : (a b c : IncomingNow) → c.end ≡ b.end → c.trail ≡ b.trail → HalfGoes a b → HalfGoes a c
like a b c end trail g = record { end = subst (EndGrows a.end) (sym end) g.end; trail = subst (TrailGrows a.trail) (sym trail) g.trail }

one_entry : (e : Entry) (t : TrailNow) → TrailGrows t (with_entry e t)
one_entry e t = record {
  socket = refl;
  entity = refl;
  entries = (e ∷ [], refl);
  judged = on_same t.judged;
  asks = record { more = []; all = sym (append-nil t.judged_after); behind = tt };
}

-- its end is closed
pub half_closed : (a b : IncomingNow) → HalfGoes a b → HalfEnds a (closed_of b)
half_closed a b g = record {
  end = closed_end a.end b.end g.end;
  trail = trail_chain a.trail b.trail (closed_of b).trail g.trail (one_entry (entry.Closed b.trail.socket) b.trail);
}
  where
    closed_end : (e f : SeenEnd) → EndGrows e f → EndGrows e (after_closing f)
    closed_end e f h = record { id = h.id; got = h.got; put = h.put; closed = (λ _. refl); come = h.come }

-- its ask is judged
all_behind : (n : ℕ) (items : List JudgedItem) → AllByRecursion (λ (m : ℕ). n ≤ m) (map (λ (_ : JudgedItem). n) items)
all_behind n [] = tt
all_behind n (i ∷ is) = (omega arith, all_behind n is)

judged_trail : (items : List JudgedItem) (t : TrailNow) → TrailGrows t (with_judged items t)
judged_trail items t = record {
  socket = refl;
  entity = refl;
  entries = on_same t.entries;
  judged = (items, refl);
  asks = record { more = map (λ (_ : JudgedItem). length t.entries) items; all = refl; behind = all_behind (length t.entries) items };
}

pub half_judged : (answer : Answer) (room : ℕ) (a : IncomingNow) → HalfGoes a (after_judging answer room a)
half_judged answer room a = record { end = grows_same a.end; trail = judged_trail (items_of a.ask answer) a.trail }

-- ---- the record that answers

-- it takes no socket
pub record SideKeeps (k : SocketId) (old new : RecordNow) : Type 0 where
  pub grows : RecordGrows old new
  pub fed : IsFed old → IsFed new
  pub asked : JudgesOn k old new
  pub since : AllByRecursion (λ (j : Judgement). j.socket ≡ k) (judged_since old new)
  pub trails : new.trails ≡ old.trails
  pub ends : AreLater (ends_of old) (ends_of new)

-- it takes that of the half
pub record SideTakes (a : IncomingNow) (old new : RecordNow) : Type 0 where
  pub grows : RecordGrows old new
  pub fed : IsFed old → IsFed new
  pub asked : JudgesOn a.end.id old new
  pub since : AllByRecursion (λ (j : Judgement). j.socket ≡ a.end.id) (judged_since old new)
  pub trail : TrailNow
  pub last : new.trails ≡ old.trails ++ trail ∷ []
  pub of_half : TrailGrows a.trail trail
  pub ends : AreLater (ends_of old ++ a.end ∷ []) (ends_of new)

none_on : (k : SocketId) (old new : RecordNow) → judged_since old new ≡ [] → AllByRecursion (λ (j : Judgement). j.socket ≡ k) (judged_since old new)
none_on k old new e = subst (AllByRecursion (λ (j : Judgement). j.socket ≡ k)) (sym e) tt

pub side_same : (k : SocketId) (old new : RecordNow) → new ≡ old → SideKeeps k old new
side_same k old new e =
    subst (SideKeeps k old) (sym e)
    (record { grows = record_same old; fed = (λ f. f); asked = (λ j h. inl h); since = none_on k old old (same_since old); trails = refl; ends = later_same (ends_of old) })

-- ---- the entry of its answer

none_closed : (closed : Option SeenEnd) → judgements_in (closed_entries closed) ≡ []
none_closed (Some e) = refl
none_closed None = refl

judged_behind : (journal : List Entry) (v : Verdict) (k : SocketId) (more : List Entry) → judgements_in more ≡ [] →
    judgements_in ((journal ++ judged_entry v k ∷ []) ++ more) ≡ judgements_in journal ++ record { socket = k; item = record { ask = v.ask; answer = v.answer } } ∷ []
judged_behind journal v k more none =
    filtered judgement_of (journal ++ judged_entry v k ∷ []) more
    ∙ ap (λ l. judgements_in (journal ++ judged_entry v k ∷ []) ++ l) none
    ∙ append-nil (judgements_in (journal ++ judged_entry v k ∷ []))
    ∙ filtered judgement_of journal (judged_entry v k ∷ [])

abbrev socket_in : Judgement → SocketId
socket_in j = j.socket

asked_behind : (old new : RecordNow) (v : Verdict) (k : SocketId) (more : List Entry) → judgements_in more ≡ [] → new.journal ≡ (old.journal ++ judged_entry v k ∷ []) ++ more → JudgesOn k old new
asked_behind old new v k more none e j asked =
    let found = whose socket_in j (judgements_in old.journal ++ this ∷ []) (ap (λ (js : List Judgement). is_among j (map socket_in js)) (sym (ap judgements_in e ∙ judged_behind old.journal v k more none)) ∙ asked) in
    at found.item found.is (in_part found.item (judgements_in old.journal) (this ∷ []) found.there)
  where
    this : Judgement
    this = record { socket = k; item = record { ask = v.ask; answer = v.answer } }

    at : (i : Judgement) → j ≡ i.socket → IsOneOf i (judgements_in old.journal) ⊎ IsOneOf i (this ∷ []) → (is_among j (asked_on old) ≡ true) ⊎ (j ≡ k)
    at i is (inl h) = inl (among_mapped socket_in i j (judgements_in old.journal) h is)
    at i is (inr (inl h)) = inr (is ∙ ap socket_in h)
    at i is (inr (inr h)) = absurd h

-- so it is one ask, on that socket
one_since : (old new : RecordNow) (v : Verdict) (k : SocketId) (more : List Entry) → judgements_in more ≡ [] → new.journal ≡ (old.journal ++ judged_entry v k ∷ []) ++ more →
    AllByRecursion (λ (j : Judgement). j.socket ≡ k) (judged_since old new)
one_since old new v k more none e =
    subst (AllByRecursion (λ (j : Judgement). j.socket ≡ k))
    (sym (since_more old new (judged_entry v k ∷ more) (e ∙ append_assoc old.journal (judged_entry v k ∷ []) more) ∙ ap (λ l. this ∷ l) none))
    (refl, tt)
  where
    this : Judgement
    this = record { socket = k; item = record { ask = v.ask; answer = v.answer } }

-- ---- by its answer

answers : (ask : AskFacts) (number now : ℕ) (k : SocketId) (old new : RecordNow) → takes (verdict_on ask number old.core.live).answer ≡ false → Answers (verdict_on ask number old.core.live) k now old new → SideKeeps k old new
answers ask number now k old new untaken e =
    let v = verdict_on ask number old.core.live in
    let closed = closed_if (effects_at v old).close old.core.live.feed in
    let stands = quiet_stands (told_of old.core.facts v) old.core.live old.spent (told_quiet old.core.facts ask number old.core.live untaken) in
    record {
      grows = record {
        place = ap (λ r. r.place) e;
        facts = ap (λ r. r.core.facts) e;
        plan = on_by old.plan new.plan (ap (λ r. r.plan) e);
        journal = (judged_entry v k ∷ closed_entries closed, ap (λ r. r.journal) e ∙ append_assoc old.journal (judged_entry v k ∷ []) (closed_entries closed));
        trails = on_by old.trails new.trails (ap (λ r. r.trails) e);
      };
      fed = (λ f. subst IsFed (sym e) (stands.fed f));
      asked = asked_behind old new v k (closed_entries closed) (none_closed closed) (ap (λ r. r.journal) e);
      since = one_since old new v k (closed_entries closed) (none_closed closed) (ap (λ r. r.journal) e);
      trails = ap (λ r. r.trails) e;
      ends = subst (λ r. AreLater (ends_of old) (ends_of r)) (sym e) stands.ends;
    }

-- the end of the half stands first, and the old feed's behind those that were the feed
ends_taken : (o : Option FeedNow) (spent : List SeenEnd) (e : SeenEnd) (d : FeedNow) → d.end ≡ e →
    AreLater ((feed_end o ++ spent) ++ e ∷ []) (feed_end (Some d) ++ (spent ++ option_to_list (closed_if true o)))
ends_taken o spent e d is =
    let ends = feed_end o ++ spent in
    let closed = spent ++ option_to_list (closed_if true o) in
    subst (λ (x : SeenEnd). AreLater (ends ++ e ∷ []) (x ∷ closed)) (sym is)
    (later_chain (ends ++ e ∷ []) (e ∷ ends) (e ∷ closed)
    (later_swapped ends (e ∷ []))
    (later_behind (e ∷ []) ends closed (ends_left o spent)))

takes_over : (ask : AskFacts) (number now : ℕ) (answer : Answer) (a : IncomingNow) (old mid new : RecordNow) → takes (verdict_on ask number old.core.live).answer ≡ true → CountsResumption mid new → (o : Option FeedNow) →
    IfSome o (λ d. IsTakenFeed (verdict_on ask number old.core.live) (half_of answer a).end (half_of answer a).unread old.core d × (mid ≡ record (after_taking_over (verdict_on ask number old.core.live) (half_of answer a) d now old) { room = mid.room })) →
    IsSome o → SideTakes a old new
takes_over ask number now answer a old mid new taken counts None h none = absurd (false_isnt_true none)
takes_over ask number now answer a old mid new taken counts (Some d) (feed, e) _ =
    let v = verdict_on ask number old.core.live in
    let told = told_of old.core.facts v in
    let taking = told_taking old.core.facts ask number old.core.live taken in
    let on = counts_more mid new counts in
    let moves = counts_on mid new counts in
    let more = entries_behind v old on.more in
    let none = none_judged more (none_behind v old mid new on) in
    let journal = journal_behind v (half_of answer a) d now old mid new on e in
    record {
      grows = record {
        place = ap (λ (f : Fixed). f.place) moves.fixed ∙ ap (λ r. r.place) e;
        facts = on.facts ∙ ap (λ r. r.core.facts) e;
        plan = on_by old.plan new.plan (ap (λ (f : Fixed). f.plan) moves.fixed ∙ ap (λ r. r.plan) e);
        journal = (judged_entry v a.end.id ∷ more, journal ∙ append_assoc old.journal (judged_entry v a.end.id ∷ []) more);
        trails = ((half_of answer a).trail ∷ [], ap (λ (f : Fixed). f.trails) moves.fixed ∙ ap (λ r. r.trails) e);
      };
      fed = (λ f. moves.stands.fed (subst IsFed (sym e) (sym (taking_feeds told old.core.live taking))));
      asked = asked_behind old new v a.end.id more none journal;
      since = one_since old new v a.end.id more none journal;
      trail = (half_of answer a).trail;
      last = ap (λ (f : Fixed). f.trails) moves.fixed ∙ ap (λ r. r.trails) e;
      of_half = (half_judged answer a.room a).trail;
      ends = later_chain (ends_of old ++ a.end ∷ []) (ends_of mid) (ends_of new)
          (subst (λ r. AreLater (ends_of old ++ a.end ∷ []) (ends_of r)) (sym e)
          (subst (λ b. AreLater (ends_of old ++ a.end ∷ []) (d.end ∷ (old.spent ++ option_to_list (closed_if b old.core.live.feed)))) (sym (taking_closes told old.core.live.session taking))
          (ends_taken old.core.live.feed old.spent a.end d (ap (λ (z : FeedNow). z.end) feed))))
          moves.stands.ends;
    }

-- ---- an ask that is judged

-- by how it was judged
abbrev JudgedSo : {E : Type 0} → Judged E → IncomingNow → RecordNow → RecordNow → Type 0
JudgedSo (judged.Taken answer) a old new = SideTakes a old new
JudgedSo (judged.Back answer arrival) a old new = SideKeeps a.end.id old new × HalfGoes a arrival
JudgedSo (judged.NoMemory arrival) a old new = SideKeeps a.end.id old new × HalfGoes a arrival

room_alone : (k : SocketId) (old new : RecordNow) → new ≡ record old { room = new.room } → SideKeeps k old new
room_alone k old new e =
    subst (SideKeeps k old) (sym e)
    (record {
      grows = record { place = refl; facts = refl; plan = on_same old.plan; journal = on_same old.journal; trails = on_same old.trails };
      fed = (λ f. f);
      asked = (λ j h. inl h);
      since = none_on k old old (same_since old);
      trails = refl;
      ends = later_same (ends_of old);
    })

judges_so : {E : Type 0} (j : Judged E) (ask : AskFacts) (number now : ℕ) (a : IncomingNow) (old new : RecordNow) → JudgesAs j (verdict_on ask number old.core.live) a now old new → JudgedSo j a old new
judges_so (judged.Taken answer) ask number now a old new (is, taken, t) =
    takes_over ask number now answer a old t.taken new (ap takes (sym is) ∙ taken) t.counts t.taken.core.live.feed t.over.0 t.over.1
judges_so (judged.Back answer arrival) ask number now a old new (is, untaken, back, answered) = (
  answers ask number now a.end.id old new (ap takes (sym is) ∙ untaken) answered,
  subst (HalfGoes a) (sym back) (half_judged answer arrival.room a),
)
judges_so (judged.NoMemory arrival) ask number now a old new (back, room) = (room_alone a.end.id old new room, subst (HalfGoes a) (sym back) (like a a (record a { room = arrival.room }) refl refl (half_same a)))

judges : {E : Type 0} (j : Judged E) (a : IncomingNow) (m : Means) (old new : Judging) → IsSome a.ask → Judges j a m old new → JudgedSo j a old.side new.side
judges {E} j a m old new some h = at a.ask h.judges some
  where
    at : (o : Option Ask) → IfSome o (λ ask. JudgesAs j (verdict_on (facts_of_ask ask) h.number old.side.core.live) a m.now old.side new.side) → IsSome o → JudgedSo j a old.side new.side
    at None e none = absurd (false_isnt_true none)
    at (Some ask) e _ = judges_so j (facts_of_ask ask) h.number m.now a old.side new.side e

-- ---- by what came of the half

abbrev pub Answered : {E : Type 0} → HalfAnswered E → IncomingNow → RecordNow → RecordNow → Type 0
Answered (half.Taken answer) a old new = SideTakes a old new
Answered (half.Open b) a old new = SideKeeps a.end.id old new × HalfGoes a b
Answered (half.Closed l) a old new = SideKeeps a.end.id old new × HalfEnds a l
Answered (half.Undrawn b) a old new = SideKeeps a.end.id old new × HalfGoes a b
Answered (half.NoMemory b) a old new = SideKeeps a.end.id old new × HalfGoes a b

given : (o : Option Control) (a c b : IncomingNow) → IsSome o → IfSome o (λ reply. b ≡ after_replying reply c) → HalfGoes a c → HalfGoes a b
given None a c b none e g = absurd (false_isnt_true none)
given (Some reply) a c b _ e g = like a c b (ap (λ i. i.end) e) (ap (λ i. i.trail) e) g

replied : {E : Type 0} (result : HalfAnswered E) (a c : IncomingNow) (old new : RecordNow) → SideKeeps a.end.id old new → HalfGoes a c → RepliesHalf result c → Answered result a old new
replied (half.Taken answer) a c old new keeps g reply = absurd reply
replied (half.Open b) a c old new keeps g (answer, _, some, is) = (keeps, given (first_reply answer) a c b some is g)
replied (half.Closed l) a c old new keeps g (answer, _, none, is) = (keeps, subst (HalfEnds a) (sym is) (half_closed a c g))
replied (half.Undrawn b) a c old new keeps g reply = absurd reply
replied (half.NoMemory b) a c old new keeps g is = (keeps, subst (HalfGoes a) (sym is) g)

refused : {E : Type 0} (result : HalfAnswered E) (bits : ℕ) (a : IncomingNow) (old new : RecordNow) → SideKeeps a.end.id old new → RefusesHalf result bits a → Answered result a old new
refused (half.Taken answer) bits a old new keeps e = absurd e
refused (half.Open b) bits a old new keeps e = (keeps, like a a b (ap (λ i. i.end) e) (ap (λ i. i.trail) e) (half_same a))
refused (half.Closed l) bits a old new keeps e = absurd e
refused (half.Undrawn b) bits a old new keeps e = absurd e
refused (half.NoMemory b) bits a old new keeps e = (keeps, subst (HalfGoes a) (sym e) (half_same a))

rejected : {E : Type 0} (result : HalfAnswered E) (a : IncomingNow) (old new : RecordNow) → SideKeeps a.end.id old new → RejectsHalf result a → Answered result a old new
rejected (half.Taken answer) a old new keeps e = absurd e
rejected (half.Open b) a old new keeps e = absurd e
rejected (half.Closed l) a old new keeps e = (keeps, subst (HalfEnds a) (sym e) (half_closed a a (half_same a)))
rejected (half.Undrawn b) a old new keeps e = absurd e
rejected (half.NoMemory b) a old new keeps e = absurd e

owed : {E : Type 0} (result : HalfAnswered E) (a : IncomingNow) (m : Means) (old new : Judging) → IsSome a.ask → OwesThen result a m old new → Answered result a old.side new.side
owed {E} result a m old new some (arrival, (answer, h), reply) =
    let so = judges {E = E} (judged.Back answer arrival) a m old new some h in
    replied result a arrival old.side new.side so.0 so.1 reply

heard : {E : Type 0} (result : HalfAnswered E) (a : IncomingNow) (m : Means) (old new : Judging) → IsSome a.ask → HearsHalf result a m old new → Answered result a old.side new.side
heard {E} (half.Taken answer) a m old new some h = judges {E = E} (judged.Taken answer) a m old new some h
heard {E} (half.Open b) a m old new some h = owed {E = E} (half.Open b) a m old new some h
heard {E} (half.Closed l) a m old new some h = owed {E = E} (half.Closed l) a m old new some h
heard {E} (half.Undrawn b) a m old new some (same, side, _, _) = (side_same a.end.id old.side new.side side, subst (HalfGoes a) (sym same) (half_same a))
heard {E} (half.NoMemory b) a m old new some (inl h) = judges {E = E} (judged.NoMemory b) a m old new some h
heard {E} (half.NoMemory b) a m old new some (inr h) = owed {E = E} (half.NoMemory b) a m old new some h

found : {E : Type 0} (check : IdentCheck) (result : HalfAnswered E) (a : IncomingNow) (m : Means) (old new : Judging) → IsSome a.ask → FindsSo check result a m old new → Answered result a old.side new.side
found Fine result a m old new some h = heard result a m old new some h
found (Missing bits) result a m old new some (refuses, same) = refused result bits a old.side new.side (side_same a.end.id old.side new.side (ap (λ (j : Judging). j.side) same)) refuses
found (Fault f) result a m old new some (rejects, same) = rejected result a old.side new.side (side_same a.end.id old.side new.side (ap (λ (j : Judging). j.side) same)) rejects

pub answered : {E : Type 0} (result : HalfAnswered E) (a : IncomingNow) (m : Means) (old new : Judging) → IsSome a.ask → AnswersHalf result a m old new → Answered result a old.side new.side
answered {E} result a m old new some h = at a.is_judged h
  where
    at : (b : Bool) → AnswersBy b result a m old new → Answered result a old.side new.side
    at true (reply, same) = replied result a a old.side new.side (side_same a.end.id old.side new.side (ap (λ (j : Judging). j.side) same)) (half_same a) reply
    at false (check, _, finds) = found check result a m old new some finds
