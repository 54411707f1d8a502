use Rattle.m2_queues.proofs.Histories.{holds}
use Rattle.m2_queues.proofs.queue_laws.each_priority_keeps_its_order.Goals as goal

pub returns : goal.returns
returns c keeps calls p = (holds keeps calls).each p
