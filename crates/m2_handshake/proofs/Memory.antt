-- A fault that a half answers is of what was read.
use Rattle.std.proofs.Common.{ℕ, List, [], ◌∷◌, sym, subst}
use Rattle.m2_control.specs.declared.control.Control.{Control}
use Rattle.m2_control.specs.declared.control.Control.TheVariants as control
use Rattle.m2_handshake.specs.declared.answer.HalfStep.{HalfStep}
use Rattle.m2_handshake.specs.declared.answer.HalfStep.TheVariants as answer
use Rattle.m2_handshake.specs.declared.ask.AskStep.{AskStep}
use Rattle.m2_handshake.specs.declared.ask.AskStep.TheVariants as step
use Rattle.m2_handshake.specs.declared.fault.HalfFault.{HalfFault}
use Rattle.m2_handshake.specs.declared.stage.Stage.{Stage}
use Rattle.m2_handshake.specs.declared.stage.Stage.TheVariants.{Opening, Banner, Waits, Authed, Asked, Ended, Faulty}
use Rattle.m2_handshake.specs.Asking.{AskAnswers, AskEnds, after_reply}
use Rattle.m2_handshake.specs.Half.{Writer, Answers, Ends}
use Rattle.m2_handshake.specs.Laws.{IsOfBytes, KeepsOfBytes, TellsMemoryApart}
use Rattle.m2_handshake.specs.Moves.{Move, move_of, ask_move_of, Quietly}
use Rattle.m2_handshake.specs.Standing.{Standing, fed, fed_at, faulted_at}
use Rattle.m2_handshake.proofs.Fitting.{Fits, fits, ask_fits}

fed_kept : (stage : Stage) (s : Standing) (piece : List ℕ) → KeepsOfBytes s.stage → KeepsOfBytes (fed_at stage s piece).stage
fed_kept Opening s piece k = k
fed_kept Banner s piece k = k
fed_kept (Waits awaited) s piece k = k
fed_kept Authed s piece k = k
fed_kept Asked s piece k = k
fed_kept Ended s piece k = k
fed_kept (Faulty f) s piece k = k

feed : (s : Standing) (piece : List ℕ) → KeepsOfBytes s.stage → KeepsOfBytes (fed s piece).stage
feed s piece k = fed_kept s.stage s piece k

-- a fault that is kept is a new one or the one that was kept
fault_kept : (stage : Stage) (f : HalfFault) (s : Standing) → KeepsOfBytes s.stage → IsOfBytes f → KeepsOfBytes (faulted_at stage f s).stage
fault_kept Opening f s k h = h
fault_kept Banner f s k h = h
fault_kept (Waits awaited) f s k h = h
fault_kept Authed f s k h = h
fault_kept Asked f s k h = h
fault_kept Ended f s k h = h
fault_kept (Faulty g) f s k h = k

quietly : (move : Standing → Move) → ((s : Standing) → KeepsOfBytes s.stage → Fits s (move s)) → (ms : List Standing) (a b : Standing) → Quietly move ms a b → KeepsOfBytes a.stage → KeepsOfBytes b.stage
quietly move h [] a b same k = subst (λ (s : Standing). KeepsOfBytes s.stage) same k
quietly move h (m ∷ ms) a b path k = quietly move h ms m b path.1 (subst (Fits a) path.0 (h a k))

ends : (result : HalfStep) (old new : Writer) → KeepsOfBytes old.standing.stage → Ends result old new → KeepsOfBytes new.standing.stage
ends answer.NotYet old new k e = subst (λ (x : Writer). KeepsOfBytes x.standing.stage) (sym e.1) k
ends answer.Wrote old new k e = subst (Fits old.standing) e.1 (fits old.standing k)
ends answer.Authed old new k e = subst (Fits old.standing) e.0 (fits old.standing k)
ends (answer.Fault f) old new k e = subst (λ (x : Writer). KeepsOfBytes x.standing.stage) (sym e.1) (fault_kept old.standing.stage f old.standing k (subst (Fits old.standing) e.0 (fits old.standing k)))
ends answer.NoMemory old new k e = subst (λ (x : Writer). KeepsOfBytes x.standing.stage) (sym e.1) k

next : (result : HalfStep) (old new : Writer) → KeepsOfBytes old.standing.stage → Answers result old new → KeepsOfBytes new.standing.stage
next result old new k a = ends result (record { standing = a.mid; out = old.out }) new (quietly move_of fits a.passed old.standing a.mid a.quietly k) a.ends

next_fault : (f : HalfFault) (old new : Writer) → KeepsOfBytes old.standing.stage → Answers (answer.Fault f) old new → IsOfBytes f
next_fault f old new k a = subst (Fits a.mid) a.ends.0 (fits a.mid (quietly move_of fits a.passed old.standing a.mid a.quietly k))

ask_ends : (result : AskStep) (s new : Standing) → KeepsOfBytes s.stage → AskEnds result s new → KeepsOfBytes new.stage
ask_ends step.NotYet s new k e = subst (λ (x : Standing). KeepsOfBytes x.stage) (sym e.1) k
ask_ends (step.Asked ask) s new k e = subst (Fits s) e (ask_fits s k)
ask_ends (step.Fault f) s new k e = subst (λ (x : Standing). KeepsOfBytes x.stage) (sym e.1) (fault_kept s.stage f s k (subst (Fits s) e.0 (ask_fits s k)))
ask_ends step.NoMemory s new k e = subst (λ (x : Standing). KeepsOfBytes x.stage) (sym e.1) k

ask : (result : AskStep) (old new : Standing) → KeepsOfBytes old.stage → AskAnswers result old new → KeepsOfBytes new.stage
ask result old new k a = ask_ends result a.mid new (quietly ask_move_of ask_fits a.passed old a.mid a.quietly k) a.ends

ask_fault : (f : HalfFault) (old new : Standing) → KeepsOfBytes old.stage → AskAnswers (step.Fault f) old new → IsOfBytes f
ask_fault f old new k a = subst (Fits a.mid) a.ends.0 (ask_fits a.mid (quietly ask_move_of ask_fits a.passed old a.mid a.quietly k))

reply : (c : Control) → KeepsOfBytes (after_reply c)
reply (control.IdentMissingFeatures p) = tt
reply (control.Wait p) = tt
reply c = tt

pub memory_apart : TellsMemoryApart
memory_apart = record { feed = feed; next = next; next_fault = next_fault; ask = ask; ask_fault = ask_fault; reply = reply }
