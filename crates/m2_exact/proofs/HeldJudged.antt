-- What is held by a record, behind the ask of a half that it answers.
use Rattle.std.proofs.Common.{◌≡◌, ◌≢◌, ℕ, ◌||◌, ◌==◌, not, [], ◌∷◌, Bool, true, false, Option, None, Some, inl, inr, refl, sym, subst, ◌∙◌, ap, arith}
use Rattle.std.specs.Prelude.{IfSome, IsSome, IsTrue}
use Rattle.std.specs.List.{AllByRecursion}
use Rattle.m2_dispatch.specs.m2_shared.Gates.{Gate, held, nothing_held, places, words}
use Rattle.m2_fabric.proofs.m2_lemmas.Booleans.{or_left, or_right}
use Rattle.m2_fabric.proofs.m2_lemmas.Lists.{all_back}
use Rattle.m2_fabric.proofs.m2_lemmas.Numbers.{not_zero_is_tested, test_turned}
use Rattle.m2_trail.proofs.Readable.{asks_can_be_read}
use Rattle.m2_trail.specs.Arrivals.{IsArrival}
use Rattle.m2_trail.specs.Asks.{facts_of_ask}
use Rattle.m2_trail.specs.Incoming.{IncomingNow}
use Rattle.m2_trail.specs.Trails.{opener_of}
use Rattle.m2_script.proofs.m2_center.m2_turn.m2_core.Judged.{IsQuiet, answered_by, reconnect_takes, refuses_by, told_by}
use Rattle.m2_script.proofs.m2_center.m2_turn.m2_feed.Heeding.{is_ready}
use Rattle.m2_script.proofs.m2_center.m2_turn.m2_session.Answers.{answers_are_lawful_lem}
use Rattle.m2_script.specs.m2_center.m2_core.Effects.{tells}
use Rattle.m2_script.specs.m2_center.m2_core.Judging.{told_of, verdict_on}
use Rattle.m2_script.specs.m2_center.m2_core.LiveCalls.{tells_if}
use Rattle.m2_script.specs.m2_center.m2_core.LiveNow.{HoldsNothing, LiveNow}
use Rattle.m2_script.specs.m2_center.m2_core.TakingOver.{IsTakenFeed}
use Rattle.m2_script.specs.m2_center.m2_core.declared.verdict.Verdict.{Verdict}
use Rattle.m2_script.specs.m2_center.m2_feed.FeedNow.{FeedNow}
use Rattle.m2_script.specs.m2_center.m2_feed.m2_journal.Laws.{SessionIsSound}
use Rattle.m2_script.specs.m2_center.m2_feed.m2_journal.SideFacts.{SideFacts, cookie_of}
use Rattle.m2_script.specs.m2_center.m2_feed.m2_journal.Steps.{kept_of}
use Rattle.m2_script.specs.m2_center.m2_feed.m2_session.Asks.{reconnect_of}
use Rattle.m2_script.specs.m2_center.m2_feed.m2_session.Conditions.{differs, is_kept}
use Rattle.m2_script.specs.m2_center.m2_feed.m2_session.Ident.{ident_answer}
use Rattle.m2_script.specs.m2_center.m2_feed.m2_session.Phases as phases
use Rattle.m2_script.specs.m2_center.m2_feed.m2_session.Reconnect.{Reconnect, reconnect_answer}
use Rattle.m2_script.specs.m2_center.m2_feed.m2_session.SessionLaws.{ident_event, reconnect_event, takes}
use Rattle.m2_script.specs.m2_center.m2_feed.m2_session.Steps.{is_lawful, step_of}
use Rattle.m2_script.specs.m2_center.m2_feed.m2_session.declared.answer.Answer.{Answer}
use Rattle.m2_script.specs.m2_center.m2_feed.m2_session.declared.answer.Answer.TheVariants as answer
use Rattle.m2_script.specs.m2_center.m2_feed.m2_session.declared.ask.AskFacts.{AskFacts}
use Rattle.m2_script.specs.m2_center.m2_feed.m2_session.declared.event.Event.{Event}
use Rattle.m2_script.specs.m2_center.m2_feed.m2_session.declared.event.Event.TheVariants as event
use Rattle.m2_script.specs.m2_center.m2_feed.m2_session.declared.session.Phase.{Phase}
use Rattle.m2_script.specs.m2_center.m2_feed.m2_session.declared.session.Phase.TheVariants as phase
use Rattle.m2_script.specs.m2_center.m2_feed.m2_session.declared.session.Session.{Session}
use Rattle.m2_script.specs.m2_center.m2_record.Calls.{all_granted}
use Rattle.m2_script.specs.m2_center.m2_record.Judging.{JudgesAs, TakenHalf, TakesOver, after_answer, after_taking_over, effects_at, given_back, half_of}
use Rattle.m2_script.specs.m2_center.m2_record.RecordNow.{RecordNow}
use Rattle.m2_script.specs.m2_center.m2_record.declared.judging.Judged.{Judged}
use Rattle.m2_script.specs.m2_center.m2_record.declared.judging.Judged.TheVariants as judged
use Rattle.m2_script.specs.m2_center.m2_turn.Answering.{AnswersBy, AnswersHalf, FindsSo, HearsHalf, OwesThen}
use Rattle.m2_script.specs.m2_center.m2_turn.Judging.{Judges, Judging}
use Rattle.m2_script.specs.m2_center.m2_turn.RecordTurn.{Means}
use Rattle.m2_script.specs.m2_center.m2_turn.declared.answering.HalfAnswered.{HalfAnswered}
use Rattle.m2_script.specs.m2_center.m2_turn.declared.answering.HalfAnswered.TheVariants as half
use Rattle.m2_script.specs.m2_center.m2_turn.m2_handshake.Asks.{bare_ask}
use Rattle.m2_script.specs.m2_center.m2_turn.m2_handshake.Greeting.{control_of}
use Rattle.m2_script.specs.m2_center.m2_turn.m2_handshake.declared.ask.Ask.{Ask}
use Rattle.m2_script.specs.m2_center.m2_turn.m2_handshake.declared.ask.Ask.TheVariants.{Ident, Reconnect as Again}
use Rattle.m2_script.specs.m2_center.m2_turn.m2_handshake.declared.ident.IdentCheck.{IdentCheck}
use Rattle.m2_script.specs.m2_center.m2_turn.m2_handshake.declared.ident.IdentCheck.TheVariants.{Fine, Missing, Fault}
use Rattle.m2_script.specs.m2_center.m2_turn.m2_handshake.m2_control.Laws.{IsInBounds}
use Rattle.m2_exact.proofs.HeldCores as cores
use Rattle.m2_exact.proofs.HeldSteps as steps
use Rattle.m2_exact.proofs.HeldSteps.{Less, nothing}
use Rattle.m2_exact.proofs.HeldSums as sums
use Rattle.m2_exact.proofs.HeldSums.{Follows}
use Rattle.m2_exact.specs.Holding.{AreAlone, HoldsRightly, IsHeldRightly, held_in_record}

-- ---- what the session is told of an answer

-- by an answer that takes the socket the feed is closed
record Closes (o : Option Event) : Type 0 where
  pub told : Event
  pub is : o ≡ Some told
  pub closes : (s : Session) → (step_of s told).effects.close ≡ true

ident_closes : (a : Answer) (client server global : ℕ) → takes a ≡ true → Closes (ident_event a client server global)
ident_closes answer.Accept client server global e = record { told = event.TookIdent false client server global; is = refl; closes = λ s. refl }
ident_closes answer.AcceptOver client server global e = record { told = event.TookIdent false client server global; is = refl; closes = λ s. refl }
ident_closes (answer.AcceptReset full) client server global e = record { told = event.TookIdent full client server global; is = refl; closes = λ s. refl }
ident_closes answer.AcceptAgain client server global e = record { told = event.TookIdent false client server global; is = refl; closes = λ s. refl }
ident_closes answer.AcceptReplace client server global e = record { told = event.TookIdent false client server global; is = refl; closes = λ s. refl }
ident_closes answer.AcceptRace client server global e = record { told = event.TookIdent false client server global; is = refl; closes = λ s. refl }
ident_closes answer.Resume client server global e = record { told = event.TookIdent false client server global; is = refl; closes = λ s. refl }
ident_closes answer.Close client server global e = absurd (cc e)
ident_closes answer.Wait client server global e = absurd (cc e)
ident_closes (answer.Reset full) client server global e = absurd (cc e)
ident_closes answer.ResetPending client server global e = absurd (cc e)
ident_closes (answer.RetryGlobal number) client server global e = absurd (cc e)
ident_closes (answer.Retry number) client server global e = absurd (cc e)

taking_closes : (b : Bool) (s : Session) (a k : AskFacts) (written server : ℕ) → takes (answered_by b s a written) ≡ true → Closes (told_by b k (answered_by b s a written) server)
taking_closes true s a k written server e = ident_closes (ident_answer s a.client a.global) k.client server k.global e
taking_closes false s a k written server e = record {
  told = event.TookReconnect k.global k.connect;
  is = ap (λ (x : Answer). reconnect_event x (reconnect_of k)) (reconnect_takes s (reconnect_of a) written e);
  closes = λ s. refl;
}

-- ---- a pending ask

never_pending : (a : Answer) (client server global : ℕ) → ident_event a client server global ≡ Some event.Pending → ⊥
never_pending answer.Accept client server global e = cc e
never_pending answer.AcceptOver client server global e = cc e
never_pending (answer.AcceptReset full) client server global e = cc e
never_pending answer.AcceptAgain client server global e = cc e
never_pending answer.AcceptReplace client server global e = cc e
never_pending answer.AcceptRace client server global e = cc e
never_pending answer.Resume client server global e = cc e
never_pending answer.Close client server global e = cc e
never_pending answer.Wait client server global e = cc e
never_pending (answer.Reset full) client server global e = cc e
never_pending answer.ResetPending client server global e = cc e
never_pending (answer.RetryGlobal number) client server global e = cc e
never_pending (answer.Retry number) client server global e = cc e

-- whatever else the ask says
pending_too : (a : Answer) (one other : Reconnect) → reconnect_event a one ≡ Some event.Pending → reconnect_event a other ≡ Some event.Pending
pending_too answer.ResetPending one other e = refl
pending_too answer.Resume one other e = absurd (cc e)
pending_too answer.Accept one other e = absurd (cc e)
pending_too answer.AcceptOver one other e = absurd (cc e)
pending_too (answer.AcceptReset full) one other e = absurd (cc e)
pending_too answer.AcceptAgain one other e = absurd (cc e)
pending_too answer.AcceptReplace one other e = absurd (cc e)
pending_too answer.AcceptRace one other e = absurd (cc e)
pending_too answer.Close one other e = absurd (cc e)
pending_too answer.Wait one other e = absurd (cc e)
pending_too (answer.Reset full) one other e = absurd (cc e)
pending_too (answer.RetryGlobal number) one other e = absurd (cc e)
pending_too (answer.Retry number) one other e = absurd (cc e)

ready_isnt_pending : (p : Phase) → phases.is p phase.Ready ≡ true → IsTrue (phases.is_among p phases.all_but_absent_and_ready) → ⊥
ready_isnt_pending phase.Ready e h = cc h
ready_isnt_pending phase.Absent e h = cc e
ready_isnt_pending phase.Connecting e h = cc e
ready_isnt_pending phase.IdentSent e h = cc e
ready_isnt_pending phase.ReconnectSent e h = cc e
ready_isnt_pending phase.Standby e h = cc e
ready_isnt_pending phase.Wait e h = cc e

-- a session that keeps the cookies of its policy, in Ready, and an ask that has one
has_cookie : (f : SideFacts) (s : Session) (asked : ℕ) → SessionIsSound f s → phases.is s.phase phase.Ready ≡ true → asked ≢ 0 → is_kept s.server_cookie || differs s.client_cookie asked ≡ true
has_cookie f s asked sound ready other = by f.policy.lossy refl
  where
    by : (b : Bool) → f.policy.lossy ≡ b → is_kept s.server_cookie || differs s.client_cookie asked ≡ true
    by true e =
        or_right (is_kept s.server_cookie) (differs s.client_cookie asked)
        (ap (λ (n : ℕ). not (n == asked)) (sound.client e) ∙ ap not (test_turned 0 asked) ∙ not_zero_is_tested asked other)
    by false e = or_left (is_kept s.server_cookie) (differs s.client_cookie asked) (not_zero_is_tested s.server_cookie (sound.server e (is_ready s.phase ready)))

-- in Ready none is told
ready_has_none_pending : (b : Bool) (f : SideFacts) (s : Session) (a k : AskFacts) (written server : ℕ) → SessionIsSound f s → phases.is s.phase phase.Ready ≡ true → (b ≡ false → a.client ≢ 0) →
    told_by b k (answered_by b s a written) server ≡ Some event.Pending → ⊥
ready_has_none_pending true f s a k written server sound ready other e = never_pending (ident_answer s a.client a.global) k.client server k.global e
ready_has_none_pending false f s a k written server sound ready other e =
    ready_isnt_pending s.phase ready
    (subst (λ (o : Option Event). IfSome o (λ x. IsTrue (is_lawful s x))) (pending_too (reconnect_answer s (reconnect_of a) written) (reconnect_of k) (reconnect_of a) e)
    (answers_are_lawful_lem.reconnect s (reconnect_of a) written (λ r. has_cookie f s a.client sound ready (other refl))))

-- ---- an ask that is answered

-- it can be read: a reconnect has a cookie
abbrev pub HasCookie : AskFacts → Type 0
HasCookie a = a.ident ≡ false → a.client ≢ 0

pending_holds_none : (f : SideFacts) (l : LiveNow) (a : AskFacts) (number : ℕ) → HasCookie a → IsHeldRightly f l → told_of f (verdict_on a number l) ≡ Some event.Pending → HoldsNothing l.granted
pending_holds_none f l a number cookie (inl none) e = none
pending_holds_none f l a number cookie (inr m) e = absurd (ready_has_none_pending a.ident f l.session a (kept_of f a) l.out.queue.written (cookie_of f number) m.session m.ready cookie e)

-- an answer that takes no socket leaves what is held
record Quiet (f : SideFacts) (l k : LiveNow) : Type 0 where
  pub granted : k.granted ≡ l.granted
  pub right : IsHeldRightly f k

quietly : (f : SideFacts) (l : LiveNow) (o : Option Event) → IsQuiet o → (o ≡ Some event.Pending → HoldsNothing l.granted) → IsHeldRightly f l → Quiet f l (tells_if o l)
quietly f l None q none r = record { granted = refl; right = r }
quietly f l (Some event.Pending) q none r =
    let is = none refl in
    let still = cores.none_still event.Pending l is in
    record { granted = still; right = cores.none_right f (tells event.Pending l) (subst HoldsNothing (sym still) is) }
quietly f l (Some x) q none r = absurd q

answers : (v : Verdict) (a : IncomingNow) (now : ℕ) (ask : AskFacts) (number : ℕ) (old new : RecordNow) → v ≡ verdict_on ask number old.core.live → HasCookie ask → HoldsRightly old → takes v.answer ≡ false →
    new ≡ record (after_answer v a.end.id now old) { room = new.room } → Less nothing old new
answers v a now ask number old new is cookie r none only =
    let o = told_of old.core.facts v in
    let quiet = quietly old.core.facts old.core.live o (refuses_by v.ask.ident (kept_of old.core.facts v.ask) v.answer (cookie_of old.core.facts v.number) none)
    (λ e. pending_holds_none old.core.facts old.core.live ask number cookie r (ap (told_of old.core.facts) (sym is) ∙ e)) r in
    steps.by (Less nothing old) new _ only (record {
      amount = steps.no_less old (after_answer v a.end.id now old) quiet.granted (λ gate. sums.told_behind gate old.parcels old.place (effects_at v old).discard (effects_at v old).remote_reset);
      right = quiet.right;
    })

takes_over : (v : Verdict) (h : TakenHalf) (now : ℕ) (ask : AskFacts) (number : ℕ) (old new : RecordNow) → v ≡ verdict_on ask number old.core.live → takes v.answer ≡ true → TakesOver v h now old new →
    Less (held old.core.live.granted) old new
takes_over v h now ask number old new is may (each, some) = by new.core.live.feed each some
  where
    closes : Closes (told_of old.core.facts v)
    closes = subst (λ (w : Verdict). Closes (told_of old.core.facts w)) (sym is)
        (taking_closes ask.ident old.core.live.session ask (kept_of old.core.facts ask) old.core.live.out.queue.written (cookie_of old.core.facts number) (ap (λ (w : Verdict). takes w.answer) (sym is) ∙ may))

    none : (tells_if (told_of old.core.facts v) old.core.live).granted ≡ nothing_held old.core.live.granted.peer
    none = ap (λ (o : Option Event). (tells_if o old.core.live).granted) closes.is ∙ cores.closed closes.told old.core.live (closes.closes old.core.live.session)

    by : (x : Option FeedNow) → IfSome x (λ d. IsTakenFeed v h.end h.unread old.core d × (new ≡ record (after_taking_over v h d now old) { room = new.room })) → IsSome x → Less (held old.core.live.granted) old new
    by (Some d) (feed, only) some =
        steps.drops old new old.core.live.granted.peer (ap (λ (z : RecordNow). z.core.live.granted) only ∙ none)
        (λ gate. ap (λ (z : RecordNow). all_granted z.parcels gate) only ∙ sums.told_behind gate old.parcels old.place (effects_at v old).discard (effects_at v old).remote_reset)
    by None each some = absurd (cc some)

less_then : (n : Gate → ℕ) (old mid new : RecordNow) → Less n old mid → Less nothing mid new → Less n old new
less_then n old mid new h g = record { amount = λ gate. (let one = h.amount gate in let other = g.amount gate in omega (arith, one, other)); right = g.right }

judges : {E : Type 0} (j : Judged E) (a : IncomingNow) (now : ℕ) (ask : AskFacts) (number : ℕ) (old new : RecordNow) → HasCookie ask → HoldsRightly old → JudgesAs j (verdict_on ask number old.core.live) a now old new →
    Less (given_back j old.core.live.granted) old new
judges (judged.Taken given) a now ask number old new cookie r (is, may, h) =
    let v = verdict_on ask number old.core.live in
    let over = takes_over v (half_of given a) now ask number old h.taken refl (sym (ap takes is) ∙ may) h.over in
    less_then (held old.core.live.granted) old h.taken new over (steps.counts_resumption h.taken new over.right h.counts)
judges (judged.Back given arrival) a now ask number old new cookie r (is, may, back, only) =
    answers (verdict_on ask number old.core.live) a now ask number old new refl cookie r (sym (ap takes is) ∙ may) only
judges (judged.NoMemory arrival) a now ask number old new cookie r (back, room) = steps.same_but_room old new r room

-- ---- an arrival

-- the ask in hand, which can be read
pub record HasAsk (a : IncomingNow) : Type 0 where
  pub ask : Ask
  pub in_hand : a.ask ≡ Some ask
  pub cookie : HasCookie (facts_of_ask ask)

pub has_ask : (a : IncomingNow) → IsArrival a → HasAsk a
has_ask a h = record { ask = h.ask; in_hand = h.in_hand; cookie = by h.ask last }
  where
    all : AllByRecursion (λ (x : Ask). IsInBounds (control_of x)) h.owes.exchange.asks
    all = asks_can_be_read.bounded a.trail.entity (opener_of a.trail.socket) h.owes.exchange a.half h.owes.comes

    last : IsInBounds (control_of (bare_ask h.ask))
    last = (all_back (λ (x : Ask). IsInBounds (control_of x)) h.owes.earlier (bare_ask h.ask ∷ []) (subst (AllByRecursion (λ (x : Ask). IsInBounds (control_of x))) h.owes.last all)).0

    by : (x : Ask) → IsInBounds (control_of (bare_ask x)) → HasCookie (facts_of_ask x)
    by (Ident i) b = λ e. absurd (cc e)
    by (Again k) b = λ e. b.1

-- ---- a half that is answered

-- each word goes along with what the record holds at its gate, rightly
pub record Goes (old new : Judging) : Type 0 where
  pub word : (gate : Gate) → Follows (words old.bytes gate) (words new.bytes gate) (held_in_record gate old.side) (held_in_record gate new.side)
  pub right : HoldsRightly new.side

itself : (old new : Judging) → HoldsRightly old.side → new.side ≡ old.side → new.bytes ≡ old.bytes → Goes old new
itself old new r side bytes = record {
  word = λ gate. sums.stays (words old.bytes gate) (words new.bytes gate) (held_in_record gate old.side) (held_in_record gate new.side)
      (steps.same_words old.bytes new.bytes gate bytes) (ap (held_in_record gate) side);
  right = subst HoldsRightly (sym side) r;
}

stays : (old new : Judging) → HoldsRightly old.side → new ≡ old → Goes old new
stays old new r e = itself old new r (ap (λ (j : Judging). j.side) e) (ap (λ (j : Judging). j.bytes) e)

module _ (m : Means) (alone : AreAlone (places m.throttles)) where
  judges_one : {E : Type 0} (j : Judged E) (a : IncomingNow) (old new : Judging) → HasAsk a → HoldsRightly old.side → Judges j a m old new → Goes old new
  judges_one j a old new has r h =
      let less = judges j a m.now (facts_of_ask has.ask) h.number old.side new.side has.cookie r
      (subst (λ (o : Option Ask). IfSome o (λ ask. JudgesAs j (verdict_on (facts_of_ask ask) h.number old.side.core.live) a m.now old.side new.side)) has.in_hand h.judges) in
      record {
        word = λ gate. sums.given (given_back j old.side.core.live.granted gate) (words old.bytes gate) (words new.bytes gate) (held_in_record gate old.side) (held_in_record gate new.side)
            (h.gives gate (alone gate)) (less.amount gate);
        right = less.right;
      }

  owes_then : {E : Type 0} (result : HalfAnswered E) (a : IncomingNow) (old new : Judging) → HasAsk a → HoldsRightly old.side → OwesThen result a m old new → Goes old new
  owes_then {E} result a old new has r (arrival, (given, h), replies) = judges_one {E = E} (judged.Back given arrival) a old new has r h

  hears : {E : Type 0} (result : HalfAnswered E) (a : IncomingNow) (old new : Judging) → HasAsk a → HoldsRightly old.side → HearsHalf result a m old new → Goes old new
  hears {E} (half.Taken given) a old new has r h = judges_one {E = E} (judged.Taken given) a old new has r h
  hears {E} (half.Undrawn back) a old new has r h = itself old new r h.1 h.2
  hears {E} (half.NoMemory back) a old new has r (inl h) = judges_one {E = E} (judged.NoMemory back) a old new has r h
  hears {E} (half.NoMemory back) a old new has r (inr h) = owes_then {E = E} (half.NoMemory back) a old new has r h
  hears {E} (half.Open goes_on) a old new has r h = owes_then {E = E} (half.Open goes_on) a old new has r h
  hears {E} (half.Closed loose) a old new has r h = owes_then {E = E} (half.Closed loose) a old new has r h

  finds : {E : Type 0} (found : IdentCheck) (result : HalfAnswered E) (a : IncomingNow) (old new : Judging) → HasAsk a → HoldsRightly old.side → FindsSo found result a m old new → Goes old new
  finds Fine result a old new has r h = hears result a old new has r h
  finds (Missing bits) result a old new has r h = stays old new r h.1
  finds (Fault f) result a old new has r h = stays old new r h.1

  pub answered : {E : Type 0} (result : HalfAnswered E) (a : IncomingNow) (old new : Judging) → HasAsk a → HoldsRightly old.side → AnswersHalf result a m old new → Goes old new
  answered {E} result a old new has r h = by a.is_judged h
    where
      by : (b : Bool) → AnswersBy b result a m old new → Goes old new
      by true h = stays old new r h.1
      by false (found, is, h) = finds found result a old new has r h
