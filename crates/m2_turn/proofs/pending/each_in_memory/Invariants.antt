use Rattle.std.specs.Prelude.{IfSome, take}
use Rattle.std.specs.List.{All}
use Rattle.slab.specs.Slab.{get}
use Rattle.m2_turn.specs.Hearing.{IsHalfInMemory}
use Rattle.m2_turn.proofs.pending.each_in_memory.Given as goal

-- so far
abbrev pub invariant-places : goal.invariant-places
invariant-places g l = All (λ key. IfSome (get l.slots key) IsHalfInMemory) (take l.place l.order.items)
