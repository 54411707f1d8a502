use Rattle.m2_promise.proofs.Passing.{faults_running}
use Rattle.m2_promise.proofs.passing_laws.fault_keeps_running.Goals as goal

pub returns : goal.returns
returns c = faults_running c.ends_stay_in_step.ensures.faults
