use Rattle.m2_growth.proofs.Accepts.{accepts_stand}
use Rattle.m2_growth.proofs.in_step_laws.accepts_stand.Goals as goal

pub returns : goal.returns
returns c = accepts_stand
