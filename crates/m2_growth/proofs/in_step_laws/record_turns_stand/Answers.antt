use Rattle.m2_growth.proofs.Dialled.{records_stand}
use Rattle.m2_growth.proofs.in_step_laws.record_turns_stand.Goals as goal

pub returns : goal.returns
returns g c = records_stand
