use Rattle.m2_growth.proofs.Plans.{plans_grow}
use Rattle.m2_growth.proofs.growth_laws.plans_grow.Goals as goal

pub returns : goal.returns
returns c = plans_grow
