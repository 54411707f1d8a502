use Rattle.m2_queues.proofs.Unsent.{unsent-sent}
use Rattle.m2_queues.proofs.queue_laws.the_unsent_go_one_by_one.Goals as goal

pub returns-clause-sent : goal.returns-clause-sent
returns-clause-sent c q h there = unsent-sent q h there
