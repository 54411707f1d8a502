use Rattle.std.proofs.Common.{subst, IfSome}
use Rattle.std.specs.List.{AllByRecursion}
use Rattle.std.proofs.lemmas.List.Elements.{recursion_from_All}
use Rattle.slab.specs.Slab.{get}
use Rattle.m2_turn.specs.Halves.{IsWholeHere}
use Rattle.m2_turn.proofs.Wholes.{all_in_order}
use Rattle.m2_turn.proofs.pending.Pendings.are_whole.Goals as goal

pub returns : goal.returns
returns g c =
    subst (AllByRecursion IsWholeHere) c.self.view_is
    (all_in_order IsWholeHere c.self.inside.slots c.self.inside.order.items
    (recursion_from_All (λ key. IfSome (get c.self.inside.slots key) IsWholeHere) c.self.inside.order.items c.each_is_whole.ensures))
