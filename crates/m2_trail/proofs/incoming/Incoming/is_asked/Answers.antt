-- What a socket that was asked keeps.
use Rattle.std.proofs.Common.{ap, ◌∙◌, subst, is_some}
use Rattle.m2_trail.specs.Arrivals.{IsArrival}
use Rattle.m2_trail.specs.Incoming.{IncomingNow}
use Rattle.m2_trail.proofs.Whole.{is_arrival, the_ask}
use Rattle.m2_trail.proofs.incoming.Incoming.is_asked.Goals as goal

pub returns : goal.returns
returns g c =
    let here = the_ask c.self.inside.ask (ap (λ (v : IncomingNow). is_some v.ask) c.self.view_is ∙ c.requires) in
    subst IsArrival c.self.view_is (is_arrival _ here.0 here.1 c.self.invariant.0)
