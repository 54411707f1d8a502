use Rattle.std.proofs.Common.{◌≡◌, ◌+◌, ℕ, List, [], ◌∷◌, refl, sym, ap, ◌∙◌, length, arith}
use Rattle.m2_queues.specs.PriorityQueue.{Ranked}
use Rattle.m2_queues.specs.PriorityQueueFields.{items_among}
use Rattle.m2_queues.proofs.Lanes.{length-items_among}
use Rattle.m2_queues.proofs.priority_queue.PriorityQueue.destroy_empty.Goals as goal

-- no item is in the lane, and none is among the others
none : {T : Type 0} (rank : ℕ) (lane : List T) (rs : List (Ranked T)) → items_among rank lane rs ≡ [] → length lane + length rs ≡ 0
none rank lane rs h = sym (length-items_among rank lane rs) ∙ ap length h

nil : {T : Type 0} (xs : List T) → length xs ≡ 0 → xs ≡ []
nil [] h = refl
nil (x ∷ xs) h = absurd (omega (arith, h))

pub destroy_empty-requires : goal.destroy_empty-requires
destroy_empty-requires g c =
    let w = c.self.inside in
    omega (arith, w.lane.ok, none w.lane_rank w.lane.items w.others.items (rw (← c.self.view_is) at c.requires))

pub destroy_empty-requires-2 : goal.destroy_empty-requires-2
destroy_empty-requires-2 g c =
    let w = c.self.inside in
    nil w.others.items (omega (arith, none w.lane_rank w.lane.items w.others.items (rw (← c.self.view_is) at c.requires)))
