-- A socket that is left has a whole trail.
use Rattle.m2_trail.proofs.Whole.{whole_trail}
use Rattle.m2_trail.proofs.incoming.Incoming.leave.Goals as goal

pub new-requires : goal.new-requires
new-requires g c = whole_trail _ c.self.invariant.0
