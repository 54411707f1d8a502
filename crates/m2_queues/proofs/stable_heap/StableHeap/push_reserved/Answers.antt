-- Joining the heap's items is joining the line behind the rank.
use Rattle.std.proofs.Common.{◌<◌, refl, arith, heap_items}
use Rattle.m2_queues.proofs.InOrder.{after_put}
use Rattle.m2_queues.proofs.stable_heap.StableHeap.push_reserved.Goals as goal

pub invariant_of-self : goal.invariant_of-self
invariant_of-self g c =
    let roomy : 0 < c.self.inside.room = rw (← c.self.view_is) at c.requires in
    let placed = after_put c.self.inside.posts (record { rank = c.args.rank; post = record { 0 = c.self.inside.posts }; item = c.args.item })
    (heap_items c.self.inside.heap) (heap_items c.push.new.self) refl c.in-Ok.ensures.permutation c.self.invariant.apart c.self.invariant.earlier in
    record {
      in_heap = c.in-Ok.ensures.heap_order c.self.invariant.in_heap;
      apart = placed.apart;
      earlier = placed.earlier;
      roomy = omega (arith, c.in-Ok.ensures.len, c.in-Ok.ensures.capacity, c.self.invariant.roomy);
      counted = omega (arith, c.self.invariant.counted);
    }

pub returns : goal.returns
returns g c =
    let placed = after_put c.self.inside.posts (record { rank = c.args.rank; post = record { 0 = c.self.inside.posts }; item = c.args.item })
    (heap_items c.self.inside.heap) (heap_items c.push.new.self) refl c.in-Ok.ensures.permutation c.self.invariant.apart c.self.invariant.earlier in
    rw (← c.self.view_is, placed.items)
