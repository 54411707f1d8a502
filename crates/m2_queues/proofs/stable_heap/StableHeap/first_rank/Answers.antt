use Rattle.std.proofs.Common.{heap_items}
use Rattle.m2_queues.proofs.InOrder.{first_rank_of}
use Rattle.m2_queues.proofs.stable_heap.StableHeap.first_rank.Goals as goal

pub returns-in-Some : goal.returns-in-Some
returns-in-Some g c =
    let first = first_rank_of c.in-Some.posted.now (heap_items c.self.inside.heap) c.in-Some.ensures.item.3.0 c.in-Some.ensures.lookup (c.in-Some.ensures.greatest c.self.invariant.in_heap) c.self.invariant.apart in
    rw (← c.self.view_is, c.rank.ensures) first
