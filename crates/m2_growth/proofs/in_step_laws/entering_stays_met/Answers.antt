use Rattle.m2_growth.proofs.Entering.{entered_met}
use Rattle.m2_growth.proofs.in_step_laws.entering_stays_met.Goals as goal

pub returns : goal.returns
returns c = λ node old new enters step has met. entered_met node old new enters step has met
