-- The asks of a half can be read.
use Rattle.std.proofs.Common.{◌≡◌, ◌≢◌, ℕ, zero, suc, ◌≤◌, ◌<◌, ◌%◌, ◌==◌, ◌&&◌, not, ◌⊎◌, inl, inr, Bool, true, false, if◌then◌else◌, List, [], ◌∷◌, length, map, take, Option, Some, None, refl, sym, ap, ◌∙◌, subst, arith}
use Rattle.std.proofs.lemmas.Bool.{eq-eqb}
use Rattle.std.proofs.lemmas.List.{take_all}
use Rattle.std.specs.List.{AllByRecursion}
use Rattle.std.specs.Option.{IfSome}
use Rattle.m2_session.specs.declared.ask.AskFacts.{AskFacts}
use Rattle.m2_control.specs.declared.banner.BannerStep.{BannerStep}
use Rattle.m2_control.specs.declared.banner.BannerStep.TheVariants.{Got, NotYet, BadBanner}
use Rattle.m2_control.specs.declared.fields.TheConstants.{GREATEST_NUMBER}
use Rattle.m2_control.specs.declared.control.Control.{Control}
use Rattle.m2_control.specs.Banner.{banner_in}
use Rattle.m2_control.specs.Laws.{IsInBounds}
use Rattle.m2_fabric.specs.Log.{Log}
use Rattle.m2_frame.specs.Frame.{Parts}
use Rattle.m2_handshake.specs.declared.ask.Ask.{Ask}
use Rattle.m2_handshake.specs.declared.ask.Ask.TheVariants.{Ident, Reconnect}
use Rattle.m2_handshake.specs.declared.fault.HalfFault.TheVariants as fault
use Rattle.m2_handshake.specs.declared.stage.Awaited.{Awaited}
use Rattle.m2_handshake.specs.declared.stage.HalfSide.{HalfSide}
use Rattle.m2_handshake.specs.declared.stage.HalfSide.TheVariants.{Opener, Acceptor}
use Rattle.m2_handshake.specs.declared.stage.Stage.{Stage}
use Rattle.m2_handshake.specs.declared.stage.Stage.TheVariants.{Opening, Banner, Waits, Authed, Asked, Ended, Faulty}
use Rattle.m2_handshake.specs.Course.{signed_move, course_move_at, course_move, Event, silent, wrote, asked, failed, replied, Step, rests, goes, step_by, Goes, Runs, asks_in, asks_of, Exchange, Reaches}
use Rattle.m2_handshake.specs.Greeting.{control_of}
use Rattle.m2_handshake.specs.Moves.{Move, stays, quiet, writes, signs, asks, fails, is_agreed, after_banner, after_reaction, answer_held, ask_move_at}
use Rattle.m2_handshake.specs.Reading.{found_in}
use Rattle.m2_handshake.specs.Standing.{Standing, acceptor_at_start, fed}
use Rattle.m2_handshake.specs.Steps.{Reaction, says, listens, signed, refuses, after_frame}
use Rattle.m2_journal.specs.declared.entry.JudgedItem.{JudgedItem}
use Rattle.m2_journal.specs.Lawful.{IsReadable}
use Rattle.m2_journal.specs.SideFacts.{SideFacts}
use Rattle.m2_trail.specs.Asks.{facts_of_ask, AgreesWith}
use Rattle.m2_trail.specs.TrailLaws.{HasNumbers, AsksCanBeRead}
use Rattle.m2_trail.specs.Trails.{TrailNow, begins, ComesToAsk, IsTrailOf}
use Rattle.m2_trail.proofs.Asked.{AsksWell, move_well, take_well}
use Rattle.m2_bytes.proofs.m2_lemmas.Lists.{all_append, all_front}

differ : true ≡ false → ⊥
differ e = cc

-- ---- the steps of a course

by_test : (b : Bool) (x y : Move) → AsksWell x → AsksWell y → AsksWell (if b then x else y)
by_test true x y p q = p
by_test false x y p q = q

banner_well : (s : Standing) (b : BannerStep) → AsksWell (after_banner s b)
banner_well s (Got b used) = by_test (is_agreed b) _ (fails fault.BannerFeatures) tt tt
banner_well s NotYet = tt
banner_well s BadBanner = tt

reaction_well : (s : Standing) (r : Reaction) → AsksWell (after_reaction s r)
reaction_well s (says next words) = tt
reaction_well s (listens next) = tt
reaction_well s signed = tt
reaction_well s (refuses f) = tt

held_well : (s : Standing) (awaited : Awaited) (held : Option Parts) → AsksWell (answer_held s awaited held)
held_well s awaited (Some f) = reaction_well s (after_frame s.auth s.side awaited f)
held_well s awaited None = take_well s (found_in s.rest)

signed_well : (side : HalfSide) (m : Move) → AsksWell m → AsksWell (signed_move side m)
signed_well Opener m h = tt
signed_well Acceptor m h = h

course_well : (stage : Stage) (s : Standing) → AsksWell (course_move_at stage s)
course_well Opening s = tt
course_well Banner s = banner_well s (banner_in s.rest)
course_well (Waits awaited) s = held_well s awaited s.held
course_well Authed s = signed_well s.side (ask_move_at Authed s) (move_well Authed s)
course_well Asked s = tt
course_well Ended s = signed_well s.side (ask_move_at Ended s) (move_well Ended s)
course_well (Faulty f) s = tt

abbrev Bounded : Ask → Type 0
Bounded ask = IsInBounds (control_of ask)

abbrev StepBounded : Step → Type 0
StepBounded rests = Unit {0}
StepBounded (goes e s) = AllByRecursion Bounded (asks_in e)

step_bounded : (m : Move) (s : Standing) → AsksWell m → StepBounded (step_by m s)
step_bounded stays s h = tt
step_bounded (quiet next) s h = tt
step_bounded (writes words next) s h = tt
step_bounded (signs next) s h = tt
step_bounded (asks ask next) s h = (h.read.bounds, tt)
step_bounded (fails f) s h = tt

event_bounded : (e : Event) (a b : Standing) → Goes a e b → AllByRecursion Bounded (asks_in e)
event_bounded silent a b g = tt
event_bounded (wrote words) a b g = tt
event_bounded (asked ask) a b g = subst StepBounded g (step_bounded (course_move a) a (course_well a.stage a))
event_bounded (failed f) a b g = tt
event_bounded (replied c) a b g = tt

runs_bounded : (es : List Event) (a b : Standing) → Runs es a b → AllByRecursion Bounded (asks_of es)
runs_bounded [] a b r = tt
runs_bounded (e ∷ es) a b r = all_append Bounded (asks_in e) (asks_of es) (event_bounded e a r.0 r.1) (runs_bounded es r.0 b r.2)

reached_bounded : (begin : Standing) (x : Exchange) (s : Standing) → Reaches begin x s → AllByRecursion Bounded x.asks
reached_bounded begin x s r = subst (AllByRecursion Bounded) r.asks (runs_bounded r.events (fed begin x.bytes) s r.runs)

-- ---- what can be read

none_is_bounded : 0 ≤ GREATEST_NUMBER
none_is_bounded = omega arith

-- a session that isn't lossy has a cookie
some_cookie : (flags cookie : ℕ) → not ((flags % 2 == 0) && (cookie == 0)) ≡ true → (flags % 2 == 1) ≡ false → cookie ≢ 0
some_cookie flags cookie keeps odd none =
    let even : flags % 2 ≡ 0 = by_rest (flags % 2) (omega arith) odd in
    let both : ((flags % 2 == 0) && (cookie == 0)) ≡ true = rw (even, none) refl in
    differ (sym keeps ∙ ap not both)
  where
    by_rest : (n : ℕ) → n < 2 → (n == 1) ≡ false → n ≡ 0
    by_rest n h o = omega (arith, λ (e : n ≡ 1). differ (sym (eq-eqb n 1 e) ∙ o))

ident_cookie : (lossy : Bool) (flags cookie : ℕ) → not ((flags % 2 == 0) && (cookie == 0)) ≡ true → (flags % 2 == 1) ≡ lossy → (lossy ≡ true) ⊎ (cookie ≢ 0)
ident_cookie true flags cookie keeps agrees = inl refl
ident_cookie false flags cookie keeps agrees = inr (some_cookie flags cookie keeps agrees)

readable : (f : SideFacts) (ask : Ask) → Bounded ask → AgreesWith f.policy ask → IsReadable f (facts_of_ask ask)
readable f (Ident i) b agrees = record {
  global = b.1;
  connect = none_is_bounded;
  seen = none_is_bounded;
  ident = λ _. ident_cookie f.policy.lossy i.flags i.cookie b.2 agrees;
  reconnect = λ e. absurd (differ e);
}
readable f (Reconnect r) b agrees = record {
  global = b.3;
  connect = b.4;
  seen = b.5;
  ident = λ e. absurd (differ (sym e));
  reconnect = λ _. (b.1, b.2);
}

-- ---- judged asks

numbers_of : (ask : Ask) → Bounded ask → HasNumbers (facts_of_ask ask)
numbers_of (Ident i) b = record { global = b.1; connect = none_is_bounded; seen = none_is_bounded; reconnect = λ e. absurd (differ e) }
numbers_of (Reconnect r) b = record { global = b.3; connect = b.4; seen = b.5; reconnect = λ _. (b.1, b.2) }

facts_bounded : (all : List Ask) → AllByRecursion Bounded all → AllByRecursion HasNumbers (map facts_of_ask all)
facts_bounded [] h = tt
facts_bounded (ask ∷ more) h = (numbers_of ask h.0, facts_bounded more h.1)

items_bounded : (judged : List JudgedItem) → AllByRecursion HasNumbers (map (λ (i : JudgedItem). i.ask) judged) → AllByRecursion (λ (i : JudgedItem). HasNumbers i.ask) judged
items_bounded [] h = tt
items_bounded (i ∷ is) h = (h.0, items_bounded is h.1)

asked_bounded : (begin : Standing) (bytes : List ℕ) (replies : List Control) (judged : List JudgedItem) → ComesToAsk begin bytes replies judged →
    AllByRecursion (λ (i : JudgedItem). HasNumbers i.ask) judged
asked_bounded begin bytes replies judged a =
    let all = facts_bounded a.exchange.asks (reached_bounded begin a.exchange a.standing a.comes) in
    items_bounded judged (all_front HasNumbers (map (λ (i : JudgedItem). i.ask) judged) a.first.0 (subst (AllByRecursion HasNumbers) a.first.1 all))

-- all of them are those up to the last one
judged_bounded : (t : TrailNow) (log : Log) → IsTrailOf t log → AllByRecursion (λ (i : JudgedItem). HasNumbers i.ask) t.judged
judged_bounded t log f = by_count (length t.judged) refl
  where
    by_count : (n : ℕ) → length t.judged ≡ n → AllByRecursion (λ (i : JudgedItem). HasNumbers i.ask) t.judged
    by_count zero e = subst (AllByRecursion (λ (i : JudgedItem). HasNumbers i.ask)) (take_all 0 t.judged (omega (arith, e))) tt
    by_count (suc n) e =
        subst (AllByRecursion (λ (i : JudgedItem). HasNumbers i.ask)) (take_all (suc n) t.judged (omega (arith, e)))
        (asked_bounded (begins t) _ _ (take (suc n) t.judged) (f.asks n (omega (arith, e))))

pub asks_can_be_read : AsksCanBeRead
asks_can_be_read = record {
  bounded = λ entity seen x s r. reached_bounded (acceptor_at_start entity seen) x s r;
  readable = readable;
  judged = judged_bounded;
}

-- of the ask that is there
pub ask_readable : (f : SideFacts) (had : Option Ask) (ask : Ask) (facts : AskFacts) → had ≡ Some ask → facts ≡ facts_of_ask ask → IfSome had Bounded →
    IfSome had (λ a. AgreesWith f.policy a → IsReadable f facts)
ask_readable f None ask facts e r b = tt
ask_readable f (Some a) ask facts e r b =
    let same : ask ≡ a = cc in
    λ agrees. subst (IsReadable f) (sym (r ∙ ap facts_of_ask same)) (readable f a b agrees)
