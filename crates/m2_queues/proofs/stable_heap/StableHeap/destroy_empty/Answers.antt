use Rattle.std.proofs.Common.{◌≡◌, ap, length, arith}
use Rattle.m2_queues.specs.StableHeapFields.{items_of}
use Rattle.m2_queues.proofs.InOrder.{length-items_of}
use Rattle.m2_queues.proofs.stable_heap.StableHeap.destroy_empty.Goals as goal

pub destroy_empty-requires : goal.destroy_empty-requires
destroy_empty-requires g c =
    let none : length (items_of c.self.inside.heap.data.items) ≡ 0 = ap length (rw (← c.self.view_is) at c.requires) in
    omega (arith, c.self.inside.heap.data.ok, length-items_of c.self.inside.heap.data.items, none)
