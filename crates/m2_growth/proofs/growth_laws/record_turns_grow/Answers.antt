use Rattle.m2_growth.proofs.RecordTurns.{record_turns}
use Rattle.m2_growth.proofs.growth_laws.record_turns_grow.Goals as goal

pub returns : goal.returns
returns g c = record_turns
