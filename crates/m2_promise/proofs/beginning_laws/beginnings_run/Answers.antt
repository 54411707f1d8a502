use Rattle.m2_promise.proofs.Starting.{begins_running}
use Rattle.m2_promise.proofs.beginning_laws.beginnings_run.Goals as goal

pub returns : goal.returns
returns c = begins_running
