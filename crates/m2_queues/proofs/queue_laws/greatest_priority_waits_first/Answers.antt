use Rattle.m2_message.specs.Message.{priority_of}
use Rattle.m2_queues.proofs.Joining.{falling}
use Rattle.m2_queues.proofs.Histories.{holds}
use Rattle.m2_queues.proofs.queue_laws.greatest_priority_waits_first.Goals as goal

pub returns : goal.returns
returns c keeps calls = falling priority_of _ (holds keeps calls).falls
