-- The answers of a half keep what an incoming socket keeps.
use Rattle.std.proofs.Common.{◌≡◌, ℕ, Bool, true, false, is_some, List, [], ◌∷◌, ◌++◌, length, Option, Some, None, refl, sym, ap, ◌∙◌, subst, append_assoc, append-nil}
use Rattle.std.proofs.lemmas.List.{map-append, nil_from_length}
use Rattle.m2_session.specs.declared.ask.AskFacts.{AskFacts}
use Rattle.m2_handshake.specs.declared.answer.HalfStep.{HalfStep}
use Rattle.m2_handshake.specs.declared.ask.Ask.{Ask}
use Rattle.m2_handshake.specs.declared.ask.Ask.TheVariants.{Ident, Reconnect}
use Rattle.m2_handshake.specs.declared.ask.AskStep.{AskStep}
use Rattle.m2_handshake.specs.declared.ask.AskStep.TheVariants as step
use Rattle.m2_handshake.specs.Asking.{AskAnswers}
use Rattle.m2_handshake.specs.Asks.{bare_ask}
use Rattle.m2_handshake.specs.Course.{Exchange, Reaches}
use Rattle.m2_handshake.specs.Half.{Answers}
use Rattle.m2_handshake.specs.Laws.{with_ask}
use Rattle.m2_handshake.specs.Moves.{can_ask}
use Rattle.m2_handshake.specs.Standing.{Standing}
use Rattle.m2_handshake.proofs.Reaching.{leads_on}
use Rattle.m2_trail.specs.Asks.{facts_of_ask}
use Rattle.m2_trail.specs.Incoming.{IncomingNow, Asking, StandsAt, Keeps, exchange_of, facts_asked, facts_judged, given_by, is_over}
use Rattle.m2_trail.specs.Replies.{refusal_of}
use Rattle.m2_trail.specs.Trails.{begins}
use Rattle.m2_trail.specs.Unput.{behind}
use Rattle.m2_trail.proofs.Asked.{Asks, asks_well, bounds_stay, main_stays_of}
use Rattle.m2_trail.proofs.Bytes.{stands_unasked}
use Rattle.m2_trail.proofs.Over.{answered_over, asked_over, never_asked, unover}
use Rattle.m2_bytes.proofs.m2_lemmas.Booleans.{not_true_is_false}

differ : true ≡ false → ⊥
differ e = cc

-- ---- the handshake

-- one answer of the half, which writes behind what is left
pub answer_kept : (result : HalfStep) (v : IncomingNow) (half : Standing) (left : List ℕ) → v.ask ≡ None → Keeps v →
    Answers result (behind v.half v.left) (behind half left) → Keeps (record v { half = half; left = left })
answer_kept result v half left unasked k a =
    let begin = begins v.trail in
    let given = given_by v k.asking in
    let w : IncomingNow = record v { half = half; left = left } in
    let on = leads_on.nexts result begin (behind v.half v.left) (behind half left) (exchange_of given k.asking.asks v) k.comes a in
    let text : (v.end.log.put ++ v.left) ++ on.0 ≡ v.end.log.put ++ left = append_assoc v.end.log.put v.left on.0 ∙ ap (λ l. v.end.log.put ++ l) (sym on.1) in
    record {
      unclosed = k.unclosed;
      socket = k.socket;
      entries = k.entries;
      counted = k.counted;
      asking = k.asking;
      judged = k.judged;
      comes = subst (λ words. Reaches begin (record { bytes = v.end.log.got; replies = given; text = words; asks = k.asking.asks }) half) text on.2;
      stands = stands_unasked v.ask v.is_judged v w k.asking unasked refl k.stands;
      again = unover _ (is_over v.half.stage) (is_over half.stage) (λ o. answered_over result (behind v.half v.left) (behind half left) o a) k.again;
      refused_ends = λ s. answered_over result (behind v.half v.left) (behind half left) (k.refused_ends s) a;
      refused_fits = k.refused_fits;
      many = k.many;
      rising = k.rising;
      asked = k.asked;
      points = k.points;
    }

-- ---- towards an ask

-- one answer of the half that is no ask
pub quiet_kept : (result : AskStep) (v : IncomingNow) (half : Standing) → v.ask ≡ None → can_ask v.half ≡ true → Keeps v → ((x : Exchange) → with_ask result x ≡ x) →
    AskAnswers result v.half half → Keeps (record v { half = half })
quiet_kept result v half unasked can k quiet a =
    let begin = begins v.trail in
    let x : Exchange = exchange_of (given_by v k.asking) k.asking.asks v in
    record {
      unclosed = k.unclosed;
      socket = k.socket;
      entries = k.entries;
      counted = k.counted;
      asking = k.asking;
      judged = k.judged;
      comes = subst (λ y. Reaches begin y half) (quiet x) (leads_on.asks result begin v.half half x k.comes can a);
      stands = stands_unasked v.ask v.is_judged v (record v { half = half }) k.asking unasked refl k.stands;
      again = unover _ (is_over v.half.stage) (is_over half.stage) (λ o. asked_over result v.half half o a) k.again;
      refused_ends = λ s. asked_over result v.half half (k.refused_ends s) a;
      refused_fits = k.refused_fits;
      many = k.many;
      rising = k.rising;
      asked = k.asked;
      points = k.points;
    }

bare_facts : (ask : Ask) → facts_of_ask (bare_ask ask) ≡ facts_of_ask ask
bare_facts (Ident i) = refl
bare_facts (Reconnect r) = refl

never : (o : Option ℕ) → (is_some o ≡ true → ⊥) → o ≡ None
never (Some bits) h = absurd (h refl)
never None h = refl

-- no ask was refused, so all were judged
all_judged : (refused : Option ℕ) (more : List AskFacts) → refused ≡ None → length more ≡ length (refusal_of refused) → more ≡ []
all_judged (Some bits) more r e = absurd cc
all_judged None more r e = nil_from_length more e

-- the ask is next after those that were judged
next_ask : (ask : Ask) (asks : List Ask) (before more : List AskFacts) → facts_asked asks ≡ before ++ more → more ≡ [] → facts_asked (asks ++ bare_ask ask ∷ []) ≡ before ++ facts_of_ask ask ∷ []
next_ask ask asks before more e none =
    map-append facts_of_ask asks (bare_ask ask ∷ [])
    ∙ (ap (λ l. l ++ facts_of_ask (bare_ask ask) ∷ []) (e ∙ (ap (λ l. before ++ l) none ∙ append-nil before))
    ∙ ap (λ f. before ++ f ∷ []) (bare_facts ask))

stands_asked : (ask : Ask) (had : Option Ask) (judged : Bool) (v w : IncomingNow) (a : Asking) → had ≡ None → v.refused ≡ None → w.left ≡ [] → w.refused ≡ None → Asks (bare_ask ask) w.half →
    StandsAt had judged v a → StandsAt (Some ask) judged w (record a { asks = a.asks ++ bare_ask ask ∷ [] })
stands_asked ask (Some other) judged v w a h r l q s t = absurd cc
stands_asked ask None true v w a h r l q s t = absurd (differ t.0)
stands_asked ask None false v w a h r l q s t = (
  record {
    ready = rw (s.stage, s.held) refl;
    stage = s.stage;
    put = l;
    unrefused = q;
    earlier = a.asks;
    last = refl;
    main = s.main;
    is_main = main_stays_of ask s.main s.read.is_main;
    bounds = bounds_stay ask s.read.bounds;
  },
  t.1,
  next_ask ask a.asks (facts_judged a.before) t.2.0 t.2.1 (all_judged v.refused t.2.0 r t.2.2),
)

-- the half was asked
pub ask_kept : (ask : Ask) (v : IncomingNow) (half : Standing) → v.left ≡ [] → v.ask ≡ None → can_ask v.half ≡ true → Keeps v →
    AskAnswers (step.Asked ask) v.half half → Keeps (record v { half = half; ask = Some ask })
ask_kept ask v half put unasked can k a =
    let begin = begins v.trail in
    let x : Exchange = exchange_of (given_by v k.asking) k.asking.asks v in
    let not_over : is_over v.half.stage ≡ true → ⊥ = λ o. never_asked ask v.half half o a in
    let unrefused : v.refused ≡ None = never v.refused (λ s. not_over (k.refused_ends s)) in
    record {
      unclosed = k.unclosed;
      socket = k.socket;
      entries = k.entries;
      counted = k.counted;
      asking = record k.asking { asks = k.asking.asks ++ bare_ask ask ∷ [] };
      judged = k.judged;
      comes = leads_on.asks (step.Asked ask) begin v.half half x k.comes can a;
      stands = stands_asked ask v.ask v.is_judged v (record v { half = half; ask = Some ask }) k.asking unasked unrefused put unrefused (asks_well a.mid half (bare_ask ask) a.ends) k.stands;
      again = λ _. k.again (not_true_is_false (is_over v.half.stage) not_over);
      refused_ends = λ s. absurd (not_over (k.refused_ends s));
      refused_fits = k.refused_fits;
      many = k.many;
      rising = k.rising;
      asked = k.asked;
      points = k.points;
    }
