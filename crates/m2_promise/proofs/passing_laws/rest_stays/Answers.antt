use Rattle.m2_promise.proofs.Resting.{rest_stays}
use Rattle.m2_promise.proofs.passing_laws.rest_stays.Goals as goal

pub returns : goal.returns
returns c =
    rest_stays c.acting_keeps_running.ensures c.acting_keeps_orders.ensures c.ends_stay_in_step.ensures.turns_keep c.meeting_keeps_running.ensures c.flow_keeps_running.ensures
    c.fault_keeps_running.ensures c.hearing_keeps_orders.ensures c.ends_stay_in_step.ensures.calls_keep
