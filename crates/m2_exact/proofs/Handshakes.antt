-- A half of a handshake has one answer, but for want of memory.
use Rattle.std.proofs.Common.{◌≡◌, List, [], ◌∷◌, ◌++◌, refl, sym, subst, ◌∙◌, ap}
use Rattle.std.specs.Prelude.{◌≢◌}
use Rattle.m2_script.specs.m2_center.m2_turn.m2_handshake.declared.answer.HalfStep.{HalfStep}
use Rattle.m2_script.specs.m2_center.m2_turn.m2_handshake.declared.answer.HalfStep.TheVariants as half
use Rattle.m2_script.specs.m2_center.m2_turn.m2_handshake.declared.ask.AskStep.{AskStep}
use Rattle.m2_script.specs.m2_center.m2_turn.m2_handshake.declared.ask.AskStep.TheVariants as asked
use Rattle.m2_script.specs.m2_center.m2_turn.m2_handshake.Asking.{AskAnswers, AskEnds}
use Rattle.m2_script.specs.m2_center.m2_turn.m2_handshake.Half.{Answers, Ends, Writer}
use Rattle.m2_script.specs.m2_center.m2_turn.m2_handshake.Moves.{Move, Quietly, ask_move_of, asks, fails, move_of, quiet, signs, stays, writes}
use Rattle.m2_script.specs.m2_center.m2_turn.m2_handshake.Standing.{Standing, faulted}
use Rattle.m2_exact.specs.Handshakes.{HandshakesAnswerInOneWay, bare}

-- ---- where moves without a word end

abbrev Stops : Move → Type 0
Stops move = (s : Standing) → move ≡ quiet s → ⊥

quiet_one : (s t : Standing) (m : Move) → m ≡ quiet s → m ≡ quiet t → s ≡ t
quiet_one s t m h k = cc (h, k)

same_end : (move : Standing → Move) (ps qs : List Standing) (s m n : Standing) → Quietly move ps s m → Quietly move qs s n → Stops (move m) → Stops (move n) → m ≡ n
same_end move [] [] s m n h k stop halt = sym h ∙ k
same_end move [] (q ∷ qs) s m n h k stop halt = absurd (stop q (sym (ap move h) ∙ k.0))
same_end move (p ∷ ps) [] s m n h k stop halt = absurd (halt p (sym (ap move k) ∙ h.0))
same_end move (p ∷ ps) (q ∷ qs) s m n h k stop halt =
    let same : q ≡ p = quiet_one q p (move s) k.0 h.0 in
    same_end move ps qs p m n h.1 (subst (λ (x : Standing). Quietly move qs x n) same k.1) stop halt

-- ---- the answers of a half

-- what a move is answered, and what is left of the writer; of moves that are none's any
abbrev answered : Move → Writer → HalfStep × Writer
answered stays w = (half.NotYet, w)
answered (quiet s) w = (half.NotYet, w)
answered (writes text s) w = (half.Wrote, record { standing = s; out = w.out ++ text })
answered (signs s) w = (half.Authed, record { standing = s; out = w.out })
answered (asks ask s) w = (half.NotYet, w)
answered (fails f) w = (half.Fault f, record w { standing = faulted f w.standing })

ends_so : (answer : HalfStep) (w new : Writer) → answer ≢ half.NoMemory → Ends answer w new → (answer ≡ (answered (move_of w.standing) w).0) × (new ≡ (answered (move_of w.standing) w).1)
ends_so half.NotYet w new memory e = rw e.0 (refl, e.1)
ends_so half.Wrote w new memory (text, move, out) = rw move (refl, ap (λ o. record { standing = new.standing; out = o }) out)
ends_so half.Authed w new memory e = rw e.0 (refl, ap (λ o. record { standing = new.standing; out = o }) e.1)
ends_so (half.Fault f) w new memory e = rw e.0 (refl, e.1)
ends_so half.NoMemory w new memory e = absurd (memory refl)

stops_at : (answer : HalfStep) (w new : Writer) → answer ≢ half.NoMemory → Ends answer w new → Stops (move_of w.standing)
stops_at half.NotYet w new memory e s q = absurd (cc (e.0, q))
stops_at half.Wrote w new memory e s q = absurd (cc (e.1, q))
stops_at half.Authed w new memory e s q = absurd (cc (e.0, q))
stops_at (half.Fault f) w new memory e s q = absurd (cc (e.0, q))
stops_at half.NoMemory w new memory e s q = absurd (memory refl)

pub answers : (one other : HalfStep) (old new behind : Writer) → one ≢ half.NoMemory → other ≢ half.NoMemory → Answers one old new → Answers other old behind →
    (one ≡ other) × (new ≡ behind)
answers one other old new behind m k a b =
    let w : Writer = record { standing = a.mid; out = old.out } in
    let v : Writer = record { standing = b.mid; out = old.out } in
    let mid : b.mid ≡ a.mid = same_end move_of b.passed a.passed old.standing b.mid a.mid b.quietly a.quietly (stops_at other v behind k b.ends) (stops_at one w new m a.ends) in
    let first = ends_so one w new m a.ends in
    let second = ends_so other w behind k (subst (λ (s : Standing). Ends other (record { standing = s; out = old.out }) behind) mid b.ends) in
    (first.0 ∙ sym second.0, first.1 ∙ sym second.1)

-- ---- the answers of a half that can be asked

abbrev asked_of : Move → Standing → AskStep × Standing
asked_of stays s = (asked.NotYet, s)
asked_of (quiet t) s = (asked.NotYet, s)
asked_of (writes text t) s = (asked.NotYet, s)
asked_of (signs t) s = (asked.NotYet, s)
asked_of (asks ask t) s = (asked.Asked ask, t)
asked_of (fails f) s = (asked.Fault f, faulted f s)

ask_ends_so : (answer : AskStep) (s new : Standing) → answer ≢ asked.NoMemory → AskEnds answer s new → (bare answer ≡ (asked_of (ask_move_of s) s).0) × (new ≡ (asked_of (ask_move_of s) s).1)
ask_ends_so asked.NotYet s new memory e = rw e.0 (refl, e.1)
ask_ends_so (asked.Asked ask) s new memory e = rw e (refl, refl)
ask_ends_so (asked.Fault f) s new memory e = rw e.0 (refl, e.1)
ask_ends_so asked.NoMemory s new memory e = absurd (memory refl)

ask_stops_at : (answer : AskStep) (s new : Standing) → answer ≢ asked.NoMemory → AskEnds answer s new → Stops (ask_move_of s)
ask_stops_at asked.NotYet s new memory e t q = absurd (cc (e.0, q))
ask_stops_at (asked.Asked ask) s new memory e t q = absurd (cc (e, q))
ask_stops_at (asked.Fault f) s new memory e t q = absurd (cc (e.0, q))
ask_stops_at asked.NoMemory s new memory e t q = absurd (memory refl)

pub asks_one : (one other : AskStep) (old new behind : Standing) → one ≢ asked.NoMemory → other ≢ asked.NoMemory → AskAnswers one old new → AskAnswers other old behind →
    (bare one ≡ bare other) × (new ≡ behind)
asks_one one other old new behind m k a b =
    let mid : b.mid ≡ a.mid = same_end ask_move_of b.passed a.passed old b.mid a.mid b.quietly a.quietly (ask_stops_at other b.mid behind k b.ends) (ask_stops_at one a.mid new m a.ends) in
    let first = ask_ends_so one a.mid new m a.ends in
    let second = ask_ends_so other a.mid behind k (subst (λ (s : Standing). AskEnds other s behind) mid b.ends) in
    (first.0 ∙ sym second.0, first.1 ∙ sym second.1)

pub one : HandshakesAnswerInOneWay
one = record { answers = answers; asks = asks_one }
