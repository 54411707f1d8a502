-- An answer of the handshake keeps what an incoming socket keeps.
use Rattle.std.proofs.Common.{ap, ◌∙◌}
use Rattle.m2_trail.specs.Incoming.{IncomingNow}
use Rattle.m2_trail.proofs.Stepping.{answer_kept}
use Rattle.m2_trail.proofs.incoming.Incoming.go_on.Goals as goal

pub invariant_of-self : goal.invariant_of-self
invariant_of-self g c =
    (answer_kept c.go_on.result _ _ _ (ap (λ (v : IncomingNow). v.ask) c.self.view_is ∙ c.requires.unasked) c.self.invariant.0 c.go_on.ensures, c.self.invariant.1)
