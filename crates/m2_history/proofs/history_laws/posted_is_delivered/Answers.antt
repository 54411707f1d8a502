use Rattle.m2_history.proofs.Delivering.{deliver}
use Rattle.m2_history.proofs.history_laws.posted_is_delivered.Goals as goal

pub returns : goal.returns
returns c = deliver c.observed_is_a_run.ensures
