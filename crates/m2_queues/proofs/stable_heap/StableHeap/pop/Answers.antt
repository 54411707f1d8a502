-- The heap's top is the head of the line.
use Rattle.std.proofs.Common.{refl, arith, heap_items}
use Rattle.m2_queues.proofs.InOrder.{after_take}
use Rattle.m2_queues.proofs.stable_heap.StableHeap.pop.Goals as goal

pub invariant_of-self-2 : goal.invariant_of-self-2
invariant_of-self-2 g c =
    let taken = after_take c.self.inside.posts c.in_ok-item.field-0 (heap_items c.self.inside.heap) (heap_items c.pop.new.self)
    c.in_ok-item.ensures.permutation (c.in_ok-item.ensures.below_top c.self.invariant.in_heap) c.self.invariant.apart c.self.invariant.earlier in
    record {
      in_heap = (c.in_ok-item.ensures.heap_order c.self.invariant.in_heap).0;
      apart = taken.apart;
      earlier = taken.earlier;
      roomy = omega (arith, c.in_ok-item.ensures.len, c.in_ok-item.ensures.capacity, c.self.invariant.roomy);
      counted = c.self.invariant.counted;
    }

pub returns : goal.returns
returns g c =
    let taken = after_take c.self.inside.posts c.in_ok-item.field-0 (heap_items c.self.inside.heap) (heap_items c.pop.new.self)
    c.in_ok-item.ensures.permutation (c.in_ok-item.ensures.below_top c.self.invariant.in_heap) c.self.invariant.apart c.self.invariant.earlier in
    rw (← c.self.view_is) (rw taken.items (record { item = refl; rest = refl }))
