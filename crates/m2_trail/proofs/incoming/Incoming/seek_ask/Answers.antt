-- An answer towards an ask keeps what an incoming socket keeps.
use Rattle.std.proofs.Common.{ap, ◌∙◌, refl, subst}
use Rattle.m2_handshake.specs.declared.ask.AskStep.{AskStep}
use Rattle.m2_handshake.specs.declared.ask.AskStep.TheVariants as step
use Rattle.m2_handshake.specs.Asking.{AskAnswers}
use Rattle.m2_handshake.specs.Moves.{can_ask}
use Rattle.m2_trail.specs.Incoming.{IncomingNow}
use Rattle.m2_trail.proofs.Stepping.{quiet_kept, ask_kept}
use Rattle.m2_trail.proofs.incoming.Incoming.seek_ask.Goals as goal

pub invariant_of-self : goal.invariant_of-self
invariant_of-self g c =
    let answers = subst (λ (r : AskStep). AskAnswers r c.self.inside.half.standing c.ask.new.self.standing) c.in-NotYet.is c.ask.ensures in (
      quiet_kept step.NotYet _ _ (ap (λ (v : IncomingNow). v.ask) c.self.view_is ∙ c.requires.unasked) (ap (λ (v : IncomingNow). can_ask v.half) c.self.view_is ∙ c.requires.signed)
          c.self.invariant.0 (λ x. refl) answers,
      c.self.invariant.1,
    )

pub invariant_of-self-in-Asked : goal.invariant_of-self-in-Asked
invariant_of-self-in-Asked g c =
    let answers = subst (λ (r : AskStep). AskAnswers r c.self.inside.half.standing c.ask.new.self.standing) c.in-Asked.is c.ask.ensures in (
      ask_kept c.in-Asked.ask _ _ (ap (λ (v : IncomingNow). v.left) c.self.view_is ∙ c.requires.put) (ap (λ (v : IncomingNow). v.ask) c.self.view_is ∙ c.requires.unasked)
          (ap (λ (v : IncomingNow). can_ask v.half) c.self.view_is ∙ c.requires.signed) c.self.invariant.0 answers,
      c.self.invariant.1,
    )

pub invariant_of-self-in-Fault : goal.invariant_of-self-in-Fault
invariant_of-self-in-Fault g c =
    let answers = subst (λ (r : AskStep). AskAnswers r c.self.inside.half.standing c.ask.new.self.standing) c.in-Fault.is c.ask.ensures in (
      quiet_kept (step.Fault c.in-Fault.fault) _ _ (ap (λ (v : IncomingNow). v.ask) c.self.view_is ∙ c.requires.unasked) (ap (λ (v : IncomingNow). can_ask v.half) c.self.view_is ∙ c.requires.signed)
          c.self.invariant.0 (λ x. refl) answers,
      c.self.invariant.1,
    )

pub invariant_of-self-in-NoMemory : goal.invariant_of-self-in-NoMemory
invariant_of-self-in-NoMemory g c =
    let answers = subst (λ (r : AskStep). AskAnswers r c.self.inside.half.standing c.ask.new.self.standing) c.in-NoMemory.is c.ask.ensures in (
      quiet_kept step.NoMemory _ _ (ap (λ (v : IncomingNow). v.ask) c.self.view_is ∙ c.requires.unasked) (ap (λ (v : IncomingNow). can_ask v.half) c.self.view_is ∙ c.requires.signed)
          c.self.invariant.0 (λ x. refl) answers,
      c.self.invariant.1,
    )
