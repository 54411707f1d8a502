-- The numbers of an ask that agrees with a policy can be read.
use Rattle.std.proofs.Common.{subst}
use Rattle.std.specs.Option.{IfSome}
use Rattle.m2_control.specs.Laws.{IsInBounds}
use Rattle.m2_handshake.specs.Greeting.{control_of}
use Rattle.m2_trail.specs.Incoming.{IncomingNow}
use Rattle.m2_trail.proofs.Readable.{ask_readable}
use Rattle.m2_trail.proofs.arrival.Arrival.ask_facts.Goals as goal

pub returns-clause-readable : goal.returns-clause-readable
returns-clause-readable g c = λ f. ask_readable f c.args.self.now.ask c.ask.result.now c.facts_of_ask.result c.ask.ensures c.facts_of_ask.ensures
    (subst (λ (v : IncomingNow). IfSome v.ask (λ ask. IsInBounds (control_of ask))) c.self.view_is c.has_bounds.ensures)
