use Rattle.m2_growth.proofs.Fed.{record_fed}
use Rattle.m2_growth.proofs.growth_laws.records_are_fed.Goals as goal

pub returns : goal.returns
returns c = record_fed
