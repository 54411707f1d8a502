use Rattle.m2_growth.proofs.HalfTurns.{halves_grow}
use Rattle.m2_growth.proofs.growth_laws.halves_grow.Goals as goal

pub returns : goal.returns
returns g c = halves_grow _
