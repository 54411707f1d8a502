use Rattle.m2_growth.proofs.Going.{grows_then}
use Rattle.m2_growth.proofs.growth_laws.growth_goes_on.Goals as goal

pub returns : goal.returns
returns c = grows_then
