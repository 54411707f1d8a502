use Rattle.m2_queues.proofs.Histories.{calls-append}
use Rattle.m2_queues.proofs.queue_laws.calls_go_on.Goals as goal

pub returns : goal.returns
returns c h first more = calls-append h first more
