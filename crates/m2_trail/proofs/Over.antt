-- A half that waits for no ask any more does so from then on, and is not asked.
use Rattle.std.proofs.Common.{◌≡◌, Bool, true, false, List, [], ◌∷◌, Option, Some, None, refl, sym, ap, ◌∙◌, subst}
use Rattle.m2_frame.specs.Frame.{Parts}
use Rattle.m2_handshake.specs.declared.answer.HalfStep.{HalfStep}
use Rattle.m2_handshake.specs.declared.answer.HalfStep.TheVariants as answer
use Rattle.m2_handshake.specs.declared.ask.Ask.{Ask}
use Rattle.m2_handshake.specs.declared.ask.AskStep.{AskStep}
use Rattle.m2_handshake.specs.declared.ask.AskStep.TheVariants as step
use Rattle.m2_handshake.specs.declared.fault.HalfFault.{HalfFault}
use Rattle.m2_handshake.specs.declared.stage.Stage.{Stage}
use Rattle.m2_handshake.specs.declared.stage.Stage.TheVariants.{Opening, Banner, Waits, Authed, Asked, Ended, Faulty}
use Rattle.m2_handshake.specs.Asking.{AskAnswers, AskEnds}
use Rattle.m2_handshake.specs.Half.{Writer, Answers, Ends}
use Rattle.m2_handshake.specs.Moves.{Move, stays, quiet, writes, signs, asks, fails, take_frame, refuse_held, ask_move_at, ask_move_of, move_at, move_of, Quietly}
use Rattle.m2_handshake.specs.Reading.{Found, begun, refused, framed, found_in}
use Rattle.m2_handshake.specs.Standing.{Standing, faulted, faulted_at}
use Rattle.m2_trail.specs.Incoming.{is_over}

differ : true ≡ false → ⊥
differ e = cc

-- a fault is over
over_fault_at : (stage : Stage) (f : HalfFault) (s : Standing) → s.stage ≡ stage → is_over (faulted_at stage f s).stage ≡ true
over_fault_at Opening f s q = refl
over_fault_at Banner f s q = refl
over_fault_at (Waits awaited) f s q = refl
over_fault_at Authed f s q = refl
over_fault_at Asked f s q = refl
over_fault_at Ended f s q = refl
over_fault_at (Faulty g) f s q = ap is_over q

pub over_fault : (f : HalfFault) (s : Standing) → is_over (faulted f s).stage ≡ true
over_fault f s = over_fault_at s.stage f s refl

-- ---- the moves of a half that is over

-- where it goes quietly it is over still, and it doesn't ask
abbrev KeepsOver : Move → Type 0
KeepsOver stays = Unit {0}
KeepsOver (quiet s) = is_over s.stage ≡ true
KeepsOver (writes words s) = ⊥
KeepsOver (signs s) = is_over s.stage ≡ true
KeepsOver (asks ask s) = ⊥
KeepsOver (fails f) = Unit {0}

taken_over : (s : Standing) (found : Found) → is_over s.stage ≡ true → KeepsOver (take_frame s found)
taken_over s begun o = tt
taken_over s (refused f) o = tt
taken_over s (framed f n) o = o

refused_over : (s : Standing) (held : Option Parts) → is_over s.stage ≡ true → KeepsOver (refuse_held s held)
refused_over s (Some f) o = tt
refused_over s None o = taken_over s (found_in s.rest) o

ask_over_at : (stage : Stage) (s : Standing) → s.stage ≡ stage → is_over stage ≡ true → KeepsOver (ask_move_at stage s)
ask_over_at Opening s q o = absurd (differ (sym o))
ask_over_at Banner s q o = absurd (differ (sym o))
ask_over_at (Waits awaited) s q o = absurd (differ (sym o))
ask_over_at Authed s q o = absurd (differ (sym o))
ask_over_at Asked s q o = absurd (differ (sym o))
ask_over_at Ended s q o = refused_over s s.held (ap is_over q)
ask_over_at (Faulty f) s q o = tt

ask_over : (s : Standing) → is_over s.stage ≡ true → KeepsOver (ask_move_of s)
ask_over s o = ask_over_at s.stage s refl o

move_over_at : (stage : Stage) (s : Standing) → s.stage ≡ stage → is_over stage ≡ true → KeepsOver (move_at stage s)
move_over_at Opening s q o = absurd (differ (sym o))
move_over_at Banner s q o = absurd (differ (sym o))
move_over_at (Waits awaited) s q o = absurd (differ (sym o))
move_over_at Authed s q o = absurd (differ (sym o))
move_over_at Asked s q o = absurd (differ (sym o))
move_over_at Ended s q o = ap is_over q
move_over_at (Faulty f) s q o = tt

move_over : (s : Standing) → is_over s.stage ≡ true → KeepsOver (move_of s)
move_over s o = move_over_at s.stage s refl o

quietly_over : (move : Standing → Move) → ((s : Standing) → is_over s.stage ≡ true → KeepsOver (move s)) →
    (ms : List Standing) (a b : Standing) → Quietly move ms a b → is_over a.stage ≡ true → is_over b.stage ≡ true
quietly_over move keeps [] a b path o = subst (λ (s : Standing). is_over s.stage ≡ true) path o
quietly_over move keeps (m ∷ ms) a b path o = quietly_over move keeps ms m b path.1 (subst KeepsOver path.0 (keeps a o))

-- ---- its answers

ask_end_over : (result : AskStep) (mid new : Standing) → is_over mid.stage ≡ true → AskEnds result mid new → is_over new.stage ≡ true
ask_end_over step.NotYet mid new o e = subst (λ (s : Standing). is_over s.stage ≡ true) (sym e.1) o
ask_end_over (step.Asked ask) mid new o e = absurd (subst KeepsOver e (ask_over mid o))
ask_end_over (step.Fault f) mid new o e = subst (λ (s : Standing). is_over s.stage ≡ true) (sym e.1) (over_fault f mid)
ask_end_over step.NoMemory mid new o e = subst (λ (s : Standing). is_over s.stage ≡ true) (sym e.1) o

pub asked_over : (result : AskStep) (old new : Standing) → is_over old.stage ≡ true → AskAnswers result old new → is_over new.stage ≡ true
asked_over result old new o a = ask_end_over result a.mid new (quietly_over ask_move_of ask_over a.passed old a.mid a.quietly o) a.ends

-- it isn't asked
pub never_asked : (ask : Ask) (old new : Standing) → is_over old.stage ≡ true → AskAnswers (step.Asked ask) old new → ⊥
never_asked ask old new o a = subst KeepsOver a.ends (ask_over a.mid (quietly_over ask_move_of ask_over a.passed old a.mid a.quietly o))

end_over : (result : HalfStep) (mid new : Writer) → is_over mid.standing.stage ≡ true → Ends result mid new → is_over new.standing.stage ≡ true
end_over answer.NotYet mid new o e = subst (λ (w : Writer). is_over w.standing.stage ≡ true) (sym e.1) o
end_over answer.Wrote mid new o e = absurd (subst KeepsOver e.1 (move_over mid.standing o))
end_over answer.Authed mid new o e = subst KeepsOver e.0 (move_over mid.standing o)
end_over (answer.Fault f) mid new o e = subst (λ (w : Writer). is_over w.standing.stage ≡ true) (sym e.1) (over_fault f mid.standing)
end_over answer.NoMemory mid new o e = subst (λ (w : Writer). is_over w.standing.stage ≡ true) (sym e.1) o

pub answered_over : (result : HalfStep) (old new : Writer) → is_over old.standing.stage ≡ true → Answers result old new → is_over new.standing.stage ≡ true
answered_over result old new o a =
    end_over result (record { standing = a.mid; out = old.out }) new (quietly_over move_of move_over a.passed old.standing a.mid a.quietly o) a.ends

-- ---- the other way round: one that isn't over was not over before

pub unover : (P : Type 0) (before after : Bool) → (before ≡ true → after ≡ true) → (before ≡ false → P) → after ≡ false → P
unover P true after more p a = absurd (differ (sym (more refl) ∙ a))
unover P false after more p a = p refl
