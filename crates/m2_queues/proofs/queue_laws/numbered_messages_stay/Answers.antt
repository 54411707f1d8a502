use Rattle.m2_queues.proofs.Histories.{numbered_stay}
use Rattle.m2_queues.proofs.queue_laws.numbered_messages_stay.Goals as goal

pub returns : goal.returns
returns c h call not_back = numbered_stay h call not_back
