-- A fault stays.
use Rattle.std.proofs.Common.{◌≡◌, List, [], ◌∷◌, sym, ap, ◌∙◌, subst}
use Rattle.m2_handshake.specs.declared.answer.HalfStep.{HalfStep}
use Rattle.m2_handshake.specs.declared.answer.HalfStep.TheVariants as answer
use Rattle.m2_handshake.specs.declared.ask.AskStep.{AskStep}
use Rattle.m2_handshake.specs.declared.ask.AskStep.TheVariants as step
use Rattle.m2_handshake.specs.declared.fault.HalfFault.{HalfFault}
use Rattle.m2_handshake.specs.declared.stage.Stage.TheVariants.{Faulty}
use Rattle.m2_handshake.specs.Asking.{AskAnswers, AskEnds}
use Rattle.m2_handshake.specs.Asks.{bare_ask}
use Rattle.m2_handshake.specs.Half.{Writer, Answers, Ends}
use Rattle.m2_handshake.specs.Laws.{KeepsItsFault}
use Rattle.m2_handshake.specs.Moves.{Move, stays, quiet, writes, signs, asks, fails, ask_move_at, ask_move_of, move_at, move_of, wants_memory_at, wants_memory_to_ask_at, Quietly}
use Rattle.m2_handshake.specs.Standing.{Standing, faulted_at}
use Rattle.m2_handshake.proofs.Leading.{true_isnt_false}

fails_alone : (f : HalfFault) (s : Standing) → s.stage ≡ Faulty f → move_of s ≡ fails f
fails_alone f s e = ap (λ stage. move_at stage s) e

fails_asked : (f : HalfFault) (s : Standing) → s.stage ≡ Faulty f → ask_move_of s ≡ fails f
fails_asked f s e = ap (λ stage. ask_move_at stage s) e

kept : (f g : HalfFault) (s : Standing) → s.stage ≡ Faulty f → faulted_at s.stage g s ≡ s
kept f g s e = ap (λ stage. faulted_at stage g s) e

-- a move that is no fault
abbrev pub IsSound : Move → Type 0
IsSound (fails f) = ⊥
IsSound _ = Unit {0}

isnt_fails : (f : HalfFault) (m : Move) → IsSound m → m ≡ fails f → ⊥
isnt_fails f m h e = subst IsSound e h

pub same_fault : (f g : HalfFault) → fails g ≡ fails f → g ≡ f
same_fault f g e = cc

no_quiet : (move : Standing → Move) (f : HalfFault) (ms : List Standing) (a b : Standing) → move a ≡ fails f → Quietly move ms a b → a ≡ b
no_quiet move f [] a b h path = path
no_quiet move f (m ∷ ms) a b h path = absurd (isnt_fails f (quiet m) tt (sym path.0 ∙ h))

ends : (f : HalfFault) (result : HalfStep) (old new : Writer) → old.standing.stage ≡ Faulty f → Ends result old new →
    (result ≡ answer.Fault f) × (new.standing.stage ≡ Faulty f) × (new.out ≡ old.out)
ends f answer.NotYet old new e h = absurd (isnt_fails f stays tt (sym h.0 ∙ fails_alone f old.standing e))
ends f answer.Wrote old new e h = absurd (isnt_fails f (writes h.0 new.standing) tt (sym h.1 ∙ fails_alone f old.standing e))
ends f answer.Authed old new e h = absurd (isnt_fails f (signs new.standing) tt (sym h.0 ∙ fails_alone f old.standing e))
ends f (answer.Fault g) old new e h =
    let same = same_fault f g (sym h.0 ∙ fails_alone f old.standing e) in
    (ap answer.Fault same, ap (λ (x : Writer). x.standing.stage) h.1 ∙ ap (λ (s : Standing). s.stage) (kept f g old.standing e) ∙ e, ap (λ (x : Writer). x.out) h.1)
ends f answer.NoMemory old new e h = absurd (true_isnt_false (sym h.0 ∙ ap (λ stage. wants_memory_at stage old.standing) e))

ask_ends : (f : HalfFault) (result : AskStep) (s new : Standing) → s.stage ≡ Faulty f → AskEnds result s new →
    (result ≡ step.Fault f) × (new.stage ≡ Faulty f)
ask_ends f step.NotYet s new e h = absurd (isnt_fails f stays tt (sym h.0 ∙ fails_asked f s e))
ask_ends f (step.Asked ask) s new e h = absurd (isnt_fails f (asks (bare_ask ask) new) tt (sym h ∙ fails_asked f s e))
ask_ends f (step.Fault g) s new e h =
    let same = same_fault f g (sym h.0 ∙ fails_asked f s e) in
    (ap step.Fault same, ap (λ (x : Standing). x.stage) (h.1 ∙ kept f g s e) ∙ e)
ask_ends f step.NoMemory s new e h = absurd (true_isnt_false (sym h.0 ∙ ap (λ stage. wants_memory_to_ask_at stage s) e))

next : (f : HalfFault) (result : HalfStep) (old new : Writer) → old.standing.stage ≡ Faulty f → Answers result old new →
    (result ≡ answer.Fault f) × (new.standing.stage ≡ Faulty f) × (new.out ≡ old.out)
next f result old new e a =
    let same = no_quiet move_of f a.passed old.standing a.mid (fails_alone f old.standing e) a.quietly in
    ends f result (record { standing = a.mid; out = old.out }) new (ap (λ (x : Standing). x.stage) (sym same) ∙ e) a.ends

ask : (f : HalfFault) (result : AskStep) (old new : Standing) → old.stage ≡ Faulty f → AskAnswers result old new →
    (result ≡ step.Fault f) × (new.stage ≡ Faulty f)
ask f result old new e a =
    let same = no_quiet ask_move_of f a.passed old a.mid (fails_asked f old e) a.quietly in
    ask_ends f result a.mid new (ap (λ (x : Standing). x.stage) (sym same) ∙ e) a.ends

pub fault_stays : KeepsItsFault
fault_stays = record { next = next; ask = ask }
