-- What a socket of the peer keeps.
use Rattle.std.proofs.Common.{subst}
use Rattle.m2_trail.specs.Incoming.{IncomingNow}
use Rattle.m2_trail.specs.Trails.{IsWholeTrail}
use Rattle.m2_trail.proofs.Whole.{whole_trail}
use Rattle.m2_trail.proofs.incoming.Incoming.is_whole.Goals as goal

pub returns-clause-whole : goal.returns-clause-whole
returns-clause-whole g c = subst (λ (v : IncomingNow). IsWholeTrail v.trail v.end) c.self.view_is (whole_trail _ c.self.invariant.0)
