use Rattle.m2_growth.proofs.Telling.{passed_met}
use Rattle.m2_growth.proofs.in_step_laws.passing_stays_met.Goals as goal

pub returns : goal.returns
returns c = λ what old new passed step opens met. passed_met what old new passed step opens met
