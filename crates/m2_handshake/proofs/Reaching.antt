-- Each call of a half leads on from where it has come to.
use Rattle.std.proofs.Common.{◌≡◌, ℕ, ◌⊎◌, inl, inr, true, false, List, [], ◌∷◌, ◌++◌, flat_map, Ok, refl, sym, ap, ◌∙◌, subst, append_assoc, append-nil}
use Rattle.std.proofs.lemmas.List.{flat_map_more}
use Rattle.m2_control.specs.declared.control.Control.{Control}
use Rattle.m2_handshake.specs.declared.answer.HalfStep.{HalfStep}
use Rattle.m2_handshake.specs.declared.answer.HalfStep.TheVariants as answer
use Rattle.m2_handshake.specs.declared.ask.Ask.{Ask}
use Rattle.m2_handshake.specs.declared.ask.AskStep.{AskStep}
use Rattle.m2_handshake.specs.declared.ask.AskStep.TheVariants as step
use Rattle.m2_handshake.specs.declared.fault.HalfFault.{HalfFault}
use Rattle.m2_handshake.specs.declared.stage.HalfSide.{HalfSide}
use Rattle.m2_handshake.specs.declared.stage.HalfSide.TheVariants.{Opener, Acceptor}
use Rattle.m2_handshake.specs.declared.stage.Stage.{Stage}
use Rattle.m2_handshake.specs.declared.stage.Stage.TheVariants.{Opening, Banner, Waits, Authed, Asked, Ended, Faulty}
use Rattle.m2_handshake.specs.Asking.{AskAnswers, AskEnds, Replies}
use Rattle.m2_handshake.specs.Asks.{bare_ask}
use Rattle.m2_handshake.specs.Course.{signed_move, course_move_at, course_move, Event, silent, wrote, asked, failed, replied, step_by, step_of, Goes, Runs, IsRested, text_in, asks_in, replies_in, text_of, asks_of, Course, course_of, Exchange, no_exchange, Reaches}
use Rattle.m2_handshake.specs.Half.{Writer, Answers, Ends}
use Rattle.m2_handshake.specs.Laws.{WritesOn, with_ask, with_reply, LeadsOn, RestsAtItsCourse, AnswersAtRest}
use Rattle.m2_handshake.specs.Moves.{Move, stays, quiet, writes, signs, asks, fails, read_held, refuse_held, ask_move_at, ask_move_of, move_at, move_of, can_ask_at, can_ask, Quietly}
use Rattle.m2_handshake.specs.Standing.{Standing, grown, fed, fed_at, fallen, faulted, faulted_at}
use Rattle.m2_handshake.specs.Texts.{IsReply}
use Rattle.m2_handshake.proofs.Course.{waiting, ended, feeds, next, come}
use Rattle.m2_handshake.proofs.Leading.{is_faulty, is_over, tells, true_isnt_false}
use Rattle.m2_handshake.proofs.Faults.{same_fault}

-- ---- a move of the handshake, and one towards an ask, as one of the course

-- before it is over a move of the handshake is one of the course
same_move_at : (stage : Stage) (s : Standing) → is_over stage ≡ false → course_move_at stage s ≡ move_at stage s
same_move_at Opening s o = refl
same_move_at Banner s o = refl
same_move_at (Waits awaited) s o = refl
same_move_at Authed s o = absurd (true_isnt_false o)
same_move_at Asked s o = absurd (true_isnt_false o)
same_move_at Ended s o = absurd (true_isnt_false o)
same_move_at (Faulty f) s o = absurd (true_isnt_false o)

pub same_move : (s : Standing) → is_over s.stage ≡ false → course_move s ≡ move_of s
same_move s o = same_move_at s.stage s o

-- a move that neither signs nor fails
abbrev pub IsOn : Move → Type 0
IsOn (signs s) = ⊥
IsOn (fails f) = ⊥
IsOn _ = Unit {0}

unover_at : (stage : Stage) (s : Standing) (m : Move) → move_at stage s ≡ m → IsOn m → is_over stage ≡ false
unover_at Opening s m e h = refl
unover_at Banner s m e h = refl
unover_at (Waits awaited) s m e h = refl
unover_at Authed s m e h = absurd (subst IsOn (sym e) h)
unover_at Asked s m e h = absurd (subst IsOn (sym e) h)
unover_at Ended s m e h = absurd (subst IsOn (sym e) h)
unover_at (Faulty f) s m e h = absurd (subst IsOn (sym e) h)

pub unover : (s : Standing) (m : Move) → move_of s ≡ m → IsOn m → is_over s.stage ≡ false
unover s m e h = unover_at s.stage s m e h

pub handshake_on : (s : Standing) (m : Move) → move_of s ≡ m → IsOn m → course_move s ≡ m
handshake_on s m e h = same_move s (unover s m e h) ∙ e

pub same_signs : (a b : Standing) → signs a ≡ signs b → a ≡ b
same_signs a b e = cc

pub fails_isnt_signs : (f : HalfFault) (s : Standing) → fails f ≡ signs s → ⊥
fails_isnt_signs f s e = cc

signs_isnt_fails : (f : HalfFault) (s : Standing) → signs s ≡ fails f → ⊥
signs_isnt_fails f s e = cc

-- a half signs in a step of its course, or it has signed already
signs_once_at : (stage : Stage) (s t : Standing) → move_at stage s ≡ signs t → (is_over stage ≡ false) ⊎ (s ≡ t)
signs_once_at Opening s t e = inl refl
signs_once_at Banner s t e = inl refl
signs_once_at (Waits awaited) s t e = inl refl
signs_once_at Authed s t e = inr (same_signs s t e)
signs_once_at Asked s t e = inr (same_signs s t e)
signs_once_at Ended s t e = inr (same_signs s t e)
signs_once_at (Faulty f) s t e = absurd (fails_isnt_signs f t e)

-- it fails in a step of its course, or it keeps the fault that it had
fails_once_at : (stage : Stage) (f : HalfFault) (s : Standing) → move_at stage s ≡ fails f → (is_over stage ≡ false) × (faulted_at stage f s ≡ fallen f s) ⊎ (faulted_at stage f s ≡ s)
fails_once_at Opening f s e = inl (refl, refl)
fails_once_at Banner f s e = inl (refl, refl)
fails_once_at (Waits awaited) f s e = inl (refl, refl)
fails_once_at Authed f s e = absurd (signs_isnt_fails f s e)
fails_once_at Asked f s e = absurd (signs_isnt_fails f s e)
fails_once_at Ended f s e = absurd (signs_isnt_fails f s e)
fails_once_at (Faulty g) f s e = inr refl

acceptor_at : (side : HalfSide) (stage : Stage) → can_ask_at side stage ≡ true → (side ≡ Acceptor) × (is_over stage ≡ true)
acceptor_at Opener stage c = absurd (true_isnt_false (sym c))
acceptor_at Acceptor Opening c = absurd (true_isnt_false (sym c))
acceptor_at Acceptor Banner c = absurd (true_isnt_false (sym c))
acceptor_at Acceptor (Waits awaited) c = absurd (true_isnt_false (sym c))
acceptor_at Acceptor Authed c = (refl, refl)
acceptor_at Acceptor Asked c = (refl, refl)
acceptor_at Acceptor Ended c = (refl, refl)
acceptor_at Acceptor (Faulty f) c = (refl, refl)

pub asks_acceptor : (s : Standing) → can_ask s ≡ true → s.side ≡ Acceptor
asks_acceptor s c = (acceptor_at s.side s.stage c).0

over_can_ask : (stage : Stage) → is_over stage ≡ true → can_ask_at Acceptor stage ≡ true
over_can_ask Opening o = absurd (true_isnt_false (sym o))
over_can_ask Banner o = absurd (true_isnt_false (sym o))
over_can_ask (Waits awaited) o = absurd (true_isnt_false (sym o))
over_can_ask Authed o = refl
over_can_ask Asked o = refl
over_can_ask Ended o = refl
over_can_ask (Faulty f) o = refl

asks_at : (stage : Stage) (s : Standing) → s.side ≡ Acceptor → is_over stage ≡ true → is_faulty stage ≡ false → course_move_at stage s ≡ ask_move_at stage s
asks_at Opening s a o l = absurd (true_isnt_false (sym o))
asks_at Banner s a o l = absurd (true_isnt_false (sym o))
asks_at (Waits awaited) s a o l = absurd (true_isnt_false (sym o))
asks_at Authed s a o l = ap (λ side. signed_move side (read_held s s.held)) a
asks_at Asked s a o l = refl
asks_at Ended s a o l = ap (λ side. signed_move side (refuse_held s s.held)) a
asks_at (Faulty f) s a o l = absurd (true_isnt_false l)

asking_on : (s : Standing) → can_ask s ≡ true → is_faulty s.stage ≡ false → course_move s ≡ ask_move_of s
asking_on s c l = let k = acceptor_at s.side s.stage c in asks_at s.stage s k.0 k.1 l

-- a move towards an ask that is no fault is one of a half without one
abbrev pub IsSound : Move → Type 0
IsSound (fails f) = ⊥
IsSound _ = Unit {0}

sound_at : (stage : Stage) (s : Standing) (m : Move) → ask_move_at stage s ≡ m → IsSound m → is_faulty stage ≡ false
sound_at Opening s m e h = refl
sound_at Banner s m e h = refl
sound_at (Waits awaited) s m e h = refl
sound_at Authed s m e h = refl
sound_at Asked s m e h = refl
sound_at Ended s m e h = refl
sound_at (Faulty f) s m e h = absurd (subst IsSound (sym e) h)

sound_on : (s : Standing) (m : Move) → can_ask s ≡ true → ask_move_of s ≡ m → IsSound m → course_move s ≡ m
sound_on s m c e h = asking_on s c (sound_at s.stage s m e h) ∙ e

asks_fail_at : (stage : Stage) (f : HalfFault) (s : Standing) → (is_faulty stage ≡ false) × (faulted_at stage f s ≡ fallen f s) ⊎ (faulted_at stage f s ≡ s)
asks_fail_at Opening f s = inl (refl, refl)
asks_fail_at Banner f s = inl (refl, refl)
asks_fail_at (Waits awaited) f s = inl (refl, refl)
asks_fail_at Authed f s = inl (refl, refl)
asks_fail_at Asked f s = inl (refl, refl)
asks_fail_at Ended f s = inl (refl, refl)
asks_fail_at (Faulty g) f s = inr refl

pub by_move : (a : Standing) (m : Move) → course_move a ≡ m → step_of a ≡ step_by m a
by_move a m h = ap (λ x. step_by x a) h

still_asks : (s t : Standing) → can_ask s ≡ true → course_move s ≡ quiet t → can_ask t ≡ true
still_asks s t c h =
    let k = acceptor_at s.side s.stage c in
    let told = tells s silent t (by_move s (quiet t) h) in
    ap (λ side. can_ask_at side t.stage) (told.0.side ∙ k.0) ∙ over_can_ask t.stage (told.2 k.1)

-- ---- steps reach further

pub retell : (begin s : Standing) (x y : Exchange) → x.bytes ≡ y.bytes → x.replies ≡ y.replies → x.text ≡ y.text → x.asks ≡ y.asks → Reaches begin x s → Reaches begin y s
retell begin s x y b c w a r = record {
  events = r.events;
  runs = subst (λ (l : List ℕ). Runs r.events (fed begin l) s) b r.runs;
  replies = r.replies ∙ c;
  text = r.text ∙ w;
  asks = r.asks ∙ a;
}

more_of : {X : Type 0} (f : Event → List X) (ds : List Event) (d : Event) (l : List X) → flat_map f ds ≡ l → flat_map f (ds ++ d ∷ []) ≡ l ++ f d
more_of f ds d l e = sym (flat_map_more f [] ds d) ∙ ap (λ k. k ++ f d) e

abbrev pub with_event : Exchange → Event → Exchange
with_event x d = record { bytes = x.bytes; replies = x.replies ++ replies_in d; text = x.text ++ text_in d; asks = x.asks ++ asks_in d }

further : (begin s t : Standing) (x : Exchange) (d : Event) → Reaches begin x s → Goes s d t → Reaches begin (with_event x d) t
further begin s t x d r g = record {
  events = r.events ++ d ∷ [];
  runs = next r.events d (fed begin x.bytes) s t r.runs g;
  replies = more_of replies_in r.events d x.replies r.replies;
  text = more_of text_in r.events d x.text r.text;
  asks = more_of asks_in r.events d x.asks r.asks;
}

pub silently : (begin s t : Standing) (x : Exchange) → Reaches begin x s → Goes s silent t → Reaches begin x t
silently begin s t x r g = retell begin t (with_event x silent) x refl (append-nil x.replies) (append-nil x.text) (append-nil x.asks) (further begin s t x silent r g)

failing : (begin s t : Standing) (x : Exchange) (f : HalfFault) → Reaches begin x s → Goes s (failed f) t → Reaches begin x t
failing begin s t x f r g = retell begin t (with_event x (failed f)) x refl (append-nil x.replies) (append-nil x.text) (append-nil x.asks) (further begin s t x (failed f) r g)

writing : (begin s t : Standing) (x : Exchange) (words : List ℕ) → Reaches begin x s → Goes s (wrote words) t → Reaches begin (record x { text = x.text ++ words }) t
writing begin s t x words r g =
    retell begin t (with_event x (wrote words)) (record x { text = x.text ++ words }) refl (append-nil x.replies) refl (append-nil x.asks) (further begin s t x (wrote words) r g)

pub asking : (begin s t : Standing) (x : Exchange) (ask : Ask) → Reaches begin x s → Goes s (asked ask) t → Reaches begin (record x { asks = x.asks ++ ask ∷ [] }) t
asking begin s t x ask r g =
    retell begin t (with_event x (asked ask)) (record x { asks = x.asks ++ ask ∷ [] }) refl (append-nil x.replies) (append-nil x.text) refl (further begin s t x (asked ask) r g)

replying : (begin s t : Standing) (x : Exchange) (c : Control) → Reaches begin x s → Goes s (replied c) t → Reaches begin (with_reply c x) t
replying begin s t x c r g =
    retell begin t (with_event x (replied c)) (with_reply c x) refl refl refl (append-nil x.asks) (further begin s t x (replied c) r g)

-- ---- `next`

pub quietly_reaches : (ms : List Standing) (begin old mid : Standing) (x : Exchange) → Reaches begin x old → Quietly move_of ms old mid → Reaches begin x mid
quietly_reaches [] begin old mid x r same = subst (Reaches begin x) same r
quietly_reaches (m ∷ ms) begin old mid x r path =
    quietly_reaches ms begin m mid x (silently begin old m x r (by_move old (quiet m) (handshake_on old (quiet m) path.0 tt))) path.1

-- without a word
mutely : (begin : Standing) (old new : Writer) (x : Exchange) → new.out ≡ old.out → Reaches begin x new.standing → WritesOn begin x old new
mutely begin old new x e r = ([], e ∙ sym (append-nil old.out), retell begin new.standing x (record x { text = x.text ++ [] }) refl refl (sym (append-nil x.text)) refl r)

signs_reach : (begin s t : Standing) (x : Exchange) → Reaches begin x s → move_of s ≡ signs t → (is_over s.stage ≡ false) ⊎ (s ≡ t) → Reaches begin x t
signs_reach begin s t x r e (inl o) = silently begin s t x r (by_move s (signs t) (same_move s o ∙ e))
signs_reach begin s t x r e (inr same) = subst (Reaches begin x) same r

fails_reach : (begin s : Standing) (x : Exchange) (f : HalfFault) → Reaches begin x s → move_of s ≡ fails f → (is_over s.stage ≡ false) × (faulted f s ≡ fallen f s) ⊎ (faulted f s ≡ s) → Reaches begin x (faulted f s)
fails_reach begin s x f r e (inl w) = subst (Reaches begin x) (sym w.1) (failing begin s (fallen f s) x f r (by_move s (fails f) (same_move s w.0 ∙ e)))
fails_reach begin s x f r e (inr same) = subst (Reaches begin x) (sym same) r

ends_on : (result : HalfStep) (begin : Standing) (old new : Writer) (x : Exchange) → Reaches begin x old.standing → Ends result old new → WritesOn begin x old new
ends_on answer.NotYet begin old new x r e = mutely begin old new x (ap (λ (w : Writer). w.out) e.1) (subst (λ (w : Writer). Reaches begin x w.standing) (sym e.1) r)
ends_on answer.Wrote begin old new x r e =
    (e.0, e.2, writing begin old.standing new.standing x e.0 r (by_move old.standing (writes e.0 new.standing) (handshake_on old.standing (writes e.0 new.standing) e.1 tt)))
ends_on answer.Authed begin old new x r e =
    mutely begin old new x e.1 (signs_reach begin old.standing new.standing x r e.0 (signs_once_at old.standing.stage old.standing new.standing e.0))
ends_on (answer.Fault f) begin old new x r e =
    mutely begin old new x (ap (λ (w : Writer). w.out) e.1) (subst (λ (w : Writer). Reaches begin x w.standing) (sym e.1)
    (fails_reach begin old.standing x f r e.0 (fails_once_at old.standing.stage f old.standing e.0)))
ends_on answer.NoMemory begin old new x r e = mutely begin old new x (ap (λ (w : Writer). w.out) e.1) (subst (λ (w : Writer). Reaches begin x w.standing) (sym e.1) r)

nexts : (result : HalfStep) (begin : Standing) (old new : Writer) (x : Exchange) → Reaches begin x old.standing → Answers result old new → WritesOn begin x old new
nexts result begin old new x r a =
    ends_on result begin (record { standing = a.mid; out = old.out }) new x (quietly_reaches a.passed begin old.standing a.mid x r a.quietly) a.ends

-- ---- `ask`

pub asking_reaches : (ms : List Standing) (begin old mid : Standing) (x : Exchange) → Reaches begin x old → can_ask old ≡ true → Quietly ask_move_of ms old mid → Reaches begin x mid × (can_ask mid ≡ true)
asking_reaches [] begin old mid x r c same = (subst (Reaches begin x) same r, subst (λ s. can_ask s ≡ true) same c)
asking_reaches (m ∷ ms) begin old mid x r c path =
    let h = sound_on old (quiet m) c path.0 tt in
    asking_reaches ms begin m mid x (silently begin old m x r (by_move old (quiet m) h)) (still_asks old m c h) path.1

asks_fail : (begin s : Standing) (x : Exchange) (f : HalfFault) → Reaches begin x s → can_ask s ≡ true → ask_move_of s ≡ fails f →
    (is_faulty s.stage ≡ false) × (faulted f s ≡ fallen f s) ⊎ (faulted f s ≡ s) → Reaches begin x (faulted f s)
asks_fail begin s x f r c e (inl w) = subst (Reaches begin x) (sym w.1) (failing begin s (fallen f s) x f r (by_move s (fails f) (asking_on s c w.0 ∙ e)))
asks_fail begin s x f r c e (inr same) = subst (Reaches begin x) (sym same) r

ask_ends_on : (result : AskStep) (begin s new : Standing) (x : Exchange) → Reaches begin x s → can_ask s ≡ true → AskEnds result s new → Reaches begin (with_ask result x) new
ask_ends_on step.NotYet begin s new x r c e = subst (Reaches begin x) (sym e.1) r
ask_ends_on (step.Asked ask) begin s new x r c e =
    asking begin s new x (bare_ask ask) r (by_move s (asks (bare_ask ask) new) (sound_on s (asks (bare_ask ask) new) c e tt))
ask_ends_on (step.Fault f) begin s new x r c e = subst (Reaches begin x) (sym e.1) (asks_fail begin s x f r c e.0 (asks_fail_at s.stage f s))
ask_ends_on step.NoMemory begin s new x r c e = subst (Reaches begin x) (sym e.1) r

was_asked : (result : AskStep) (begin old new : Standing) (x : Exchange) → Reaches begin x old → can_ask old ≡ true → AskAnswers result old new → Reaches begin (with_ask result x) new
was_asked result begin old new x r c a =
    let there = asking_reaches a.passed begin old a.mid x r c a.quietly in
    ask_ends_on result begin a.mid new x there.0 there.1 a.ends

-- ---- `reply` and `feed`

was_replied : (c : Control) (begin : Standing) (old new : Writer) (x : Exchange) → Reaches begin x old.standing → old.standing.stage ≡ Asked → IsReply c → Replies (Ok tt) c old new → Reaches begin (with_reply c x) new.standing
was_replied c begin old new x r q i h = replying begin old.standing new.standing x c r (q, i, h.0)

pub fed_none_at : (stage : Stage) (s : Standing) → fed_at stage s [] ≡ s
fed_none_at Opening s = ap (λ (l : List ℕ). record s { rest = l }) (append-nil s.rest)
fed_none_at Banner s = ap (λ (l : List ℕ). record s { rest = l }) (append-nil s.rest)
fed_none_at (Waits awaited) s = ap (λ (l : List ℕ). record s { rest = l }) (append-nil s.rest)
fed_none_at Authed s = ap (λ (l : List ℕ). record s { rest = l }) (append-nil s.rest)
fed_none_at Asked s = ap (λ (l : List ℕ). record s { rest = l }) (append-nil s.rest)
fed_none_at Ended s = ap (λ (l : List ℕ). record s { rest = l }) (append-nil s.rest)
fed_none_at (Faulty f) s = refl

pub begins : (s : Standing) → Reaches s no_exchange s
begins s = record { events = []; runs = fed_none_at s.stage s; replies = refl; text = refl; asks = refl }

grown_twice : (s : Standing) (xs ys : List ℕ) → grown ys (grown xs s) ≡ grown (xs ++ ys) s
grown_twice s xs ys = ap (λ (l : List ℕ). record s { rest = l }) (append_assoc s.rest xs ys)

fed_twice_at : (stage : Stage) (s : Standing) (xs ys : List ℕ) → s.stage ≡ stage → fed (fed_at stage s xs) ys ≡ fed_at stage s (xs ++ ys)
fed_twice_at Opening s xs ys q = ap (λ stage. fed_at stage (grown xs s) ys) q ∙ grown_twice s xs ys
fed_twice_at Banner s xs ys q = ap (λ stage. fed_at stage (grown xs s) ys) q ∙ grown_twice s xs ys
fed_twice_at (Waits awaited) s xs ys q = ap (λ stage. fed_at stage (grown xs s) ys) q ∙ grown_twice s xs ys
fed_twice_at Authed s xs ys q = ap (λ stage. fed_at stage (grown xs s) ys) q ∙ grown_twice s xs ys
fed_twice_at Asked s xs ys q = ap (λ stage. fed_at stage (grown xs s) ys) q ∙ grown_twice s xs ys
fed_twice_at Ended s xs ys q = ap (λ stage. fed_at stage (grown xs s) ys) q ∙ grown_twice s xs ys
fed_twice_at (Faulty f) s xs ys q = ap (λ stage. fed_at stage s ys) q

pub fed_twice : (s : Standing) (xs ys : List ℕ) → fed (fed s xs) ys ≡ fed s (xs ++ ys)
fed_twice s xs ys = fed_twice_at s.stage s xs ys refl

fed_more : (begin s : Standing) (x : Exchange) (more : List ℕ) → Reaches begin x s → Reaches begin (record x { bytes = x.bytes ++ more }) (fed s more)
fed_more begin s x more r = record {
  events = r.events;
  runs = subst (λ a. Runs r.events a (fed s more)) (fed_twice begin x.bytes more) (feeds r.events (fed begin x.bytes) s more r.runs);
  replies = r.replies;
  text = r.text;
  asks = r.asks;
}

pub leads_on : LeadsOn
leads_on = record { begins = begins; feeds = fed_more; nexts = nexts; asks = was_asked; replies = was_replied }

-- ---- where it rests

pub at_its_course : RestsAtItsCourse
at_its_course begin s x r o =
    let end : Course = record { events = r.events; standing = s } in
    let there : course_of (fed begin x.bytes) x.replies ≡ end = ap (course_of (fed begin x.bytes)) (sym r.replies) ∙ come r.events (fed begin x.bytes) s r.runs o in
    record {
      text = sym r.text ∙ sym (ap (λ (c : Course). text_of c.events) there);
      asks = sym r.asks ∙ sym (ap (λ (c : Course). asks_of c.events) there);
      standing = sym (ap (λ (c : Course). c.standing) there);
    }

rests_next : (old new : Writer) → Answers answer.NotYet old new → IsRested new.standing
rests_next old new a = subst (λ (w : Writer). IsRested w.standing) (sym a.ends.1) (waiting a.mid (handshake_on a.mid stays a.ends.0 tt))

fault_kept_at : (stage : Stage) (f : HalfFault) (s : Standing) → s.stage ≡ stage → (stage ≡ Faulty f) ⊎ (is_faulty stage ≡ false) → (faulted_at stage f s).stage ≡ Faulty f
fault_kept_at Opening f s q h = refl
fault_kept_at Banner f s q h = refl
fault_kept_at (Waits awaited) f s q h = refl
fault_kept_at Authed f s q h = refl
fault_kept_at Asked f s q h = refl
fault_kept_at Ended f s q h = refl
fault_kept_at (Faulty g) f s q (inl e) = q ∙ e
fault_kept_at (Faulty g) f s q (inr e) = absurd (true_isnt_false e)

kept_by_move : (stage : Stage) (f : HalfFault) (s : Standing) → move_at stage s ≡ fails f → (stage ≡ Faulty f) ⊎ (is_faulty stage ≡ false)
kept_by_move Opening f s e = inr refl
kept_by_move Banner f s e = inr refl
kept_by_move (Waits awaited) f s e = inr refl
kept_by_move Authed f s e = inr refl
kept_by_move Asked f s e = inr refl
kept_by_move Ended f s e = inr refl
kept_by_move (Faulty g) f s e = inl (ap Faulty (same_fault f g e))

kept_by_ask : (stage : Stage) (f : HalfFault) (s : Standing) → ask_move_at stage s ≡ fails f → (stage ≡ Faulty f) ⊎ (is_faulty stage ≡ false)
kept_by_ask Opening f s e = inr refl
kept_by_ask Banner f s e = inr refl
kept_by_ask (Waits awaited) f s e = inr refl
kept_by_ask Authed f s e = inr refl
kept_by_ask Asked f s e = inr refl
kept_by_ask Ended f s e = inr refl
kept_by_ask (Faulty g) f s e = inl (ap Faulty (same_fault f g e))

rests_fault : (f : HalfFault) (old new : Writer) → Answers (answer.Fault f) old new → IsRested new.standing
rests_fault f old new a =
    subst (λ (w : Writer). IsRested w.standing) (sym a.ends.1)
    (ended f (faulted f a.mid) (fault_kept_at a.mid.stage f a.mid refl (kept_by_move a.mid.stage f a.mid a.ends.0)))

rests_ask : (old new : Standing) → can_ask old ≡ true → AskAnswers step.NotYet old new → IsRested new
rests_ask old new c a =
    let there = asking_reaches a.passed old old a.mid no_exchange (begins old) c a.quietly in
    subst IsRested (sym a.ends.1) (waiting a.mid (sound_on a.mid stays there.1 a.ends.0 tt))

rests_ask_fault : (f : HalfFault) (old new : Standing) → AskAnswers (step.Fault f) old new → IsRested new
rests_ask_fault f old new a =
    subst IsRested (sym a.ends.1) (ended f (faulted f a.mid) (fault_kept_at a.mid.stage f a.mid refl (kept_by_ask a.mid.stage f a.mid a.ends.0)))

pub at_rest : AnswersAtRest
at_rest = record { next = rests_next; next_fault = rests_fault; ask = rests_ask; ask_fault = rests_ask_fault }
