use Rattle.m2_promise.proofs.Passing.{flows_running}
use Rattle.m2_promise.proofs.passing_laws.flow_keeps_running.Goals as goal

pub returns : goal.returns
returns c = flows_running c.ends_stay_in_step.ensures.flows
