-- The lemma, by what is promised of ends in memory and of asks.
use Rattle.m2_promise.proofs.Acting.{keeps_running}
use Rattle.m2_promise.proofs.run_laws.acting_keeps_running.Goals as goal

pub returns : goal.returns
returns c = keeps_running c.ends_stay_in_step.ensures.in_step c.ends_stay_in_step.ensures.turns c.ends_stay_in_step.ensures.arrivals
