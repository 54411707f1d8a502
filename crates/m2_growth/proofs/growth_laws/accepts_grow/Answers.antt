use Rattle.m2_growth.proofs.Accepts.{accepts_grow}
use Rattle.m2_growth.proofs.growth_laws.accepts_grow.Goals as goal

pub returns : goal.returns
returns c = accepts_grow
