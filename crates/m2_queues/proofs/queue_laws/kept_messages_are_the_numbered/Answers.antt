use Rattle.m2_queues.proofs.Histories.{holds}
use Rattle.m2_queues.proofs.queue_laws.kept_messages_are_the_numbered.Goals as goal

pub returns : goal.returns
returns c keeps calls = (holds keeps calls).kept
