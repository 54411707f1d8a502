use Rattle.m2_mem_fabric.proofs.Order.{leave_in_order}
use Rattle.m2_mem_fabric.proofs.stream.Stream.abandon.Goals as goal

pub invariant_of-self : goal.invariant_of-self
invariant_of-self c =
    let s = c.self.inside in
    rw c.clear.ensures.items (leave_in_order s.abandoned s.put.bytes s.taken.bytes s.waiting.items c.self.invariant)
