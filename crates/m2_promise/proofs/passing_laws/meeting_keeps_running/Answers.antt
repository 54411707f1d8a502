use Rattle.m2_promise.proofs.Passing.{meets_running}
use Rattle.m2_promise.proofs.passing_laws.meeting_keeps_running.Goals as goal

pub returns : goal.returns
returns c = meets_running c.ends_stay_in_step.ensures.meetings
