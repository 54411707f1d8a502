use Rattle.std.proofs.Common.{subst, IfSome}
use Rattle.std.specs.List.{AllByRecursion}
use Rattle.std.proofs.lemmas.List.Elements.{recursion_from_All}
use Rattle.slab.specs.Slab.{get}
use Rattle.m2_turn.specs.Hearing.{IsHalfInMemory}
use Rattle.m2_turn.proofs.Wholes.{all_in_order}
use Rattle.m2_turn.proofs.pending.Pendings.are_in_memory.Goals as goal

pub returns : goal.returns
returns g c =
    subst (AllByRecursion IsHalfInMemory) c.self.view_is
    (all_in_order IsHalfInMemory c.self.inside.slots c.self.inside.order.items
    (recursion_from_All (λ key. IfSome (get c.self.inside.slots key) IsHalfInMemory) c.self.inside.order.items c.each_in_memory.ensures))
