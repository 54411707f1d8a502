use Rattle.std.proofs.Common.{◌≡◌, ◌+◌, ap, length, arith, eqb}
use Rattle.m2_queues.proofs.Lanes.{length-items_among}
use Rattle.m2_queues.proofs.priority_queue.PriorityQueue.is_empty.Goals as goal

pub returns : goal.returns
returns g c =
    let w = c.self.inside in
    let long : w.len ≡ length w.lane.items + length w.others.items = omega (arith, c.self.invariant.counted, w.lane.ok) in
    rw (← c.self.view_is, length-items_among) (ap (λ n. eqb n 0) long)
