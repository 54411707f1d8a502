use Rattle.std.proofs.Common.{arith}
use Rattle.m2_queues.proofs.Lanes.{length-items_among}
use Rattle.m2_queues.proofs.priority_queue.PriorityQueue.len.Goals as goal

pub returns : goal.returns
returns g c = rw (← c.self.view_is, length-items_among) (omega (arith, c.self.invariant.counted, c.self.inside.lane.ok))
