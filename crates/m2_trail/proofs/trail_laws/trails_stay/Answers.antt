-- The law.
use Rattle.m2_trail.proofs.Staying.{trails_stay}
use Rattle.m2_trail.proofs.trail_laws.trails_stay.Goals as goal

pub returns : goal.returns
returns c = trails_stay
