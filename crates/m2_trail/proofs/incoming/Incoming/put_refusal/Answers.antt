-- A refusal keeps what an incoming socket keeps.
use Rattle.std.proofs.Common.{arith, ap, ◌∙◌, is_some}
use Rattle.m2_trail.specs.Incoming.{IncomingNow}
use Rattle.m2_trail.proofs.Judging.{refusal_left}
use Rattle.m2_trail.proofs.incoming.Incoming.put_refusal.Goals as goal

pub invariant_of-self-2 : goal.invariant_of-self-2
invariant_of-self-2 g c = (
  refusal_left c.args.bits _ _ _ _ (omega arith) c.take-refused.ensures.after (ap (λ (v : IncomingNow). is_some v.ask) c.self.view_is ∙ c.requires.asked)
      (ap (λ (v : IncomingNow). v.is_judged) c.self.view_is ∙ c.requires.unjudged) c.self.invariant.0 c.in_ok-put_reply.ensures,
  c.self.invariant.1,
)
