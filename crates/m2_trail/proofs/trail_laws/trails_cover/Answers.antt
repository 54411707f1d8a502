-- The law.
use Rattle.m2_trail.proofs.Staying.{trails_cover}
use Rattle.m2_trail.proofs.trail_laws.trails_cover.Goals as goal

pub returns : goal.returns
returns c = trails_cover
