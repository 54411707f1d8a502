-- The passes of those that are left are to what they share; and there is one less each time.
use Rattle.std.proofs.Common.{length}
use Rattle.std.specs.List.{AllByRecursion}
use Rattle.m2_node.specs.Nodes.{IsServedBy}
use Rattle.m2_node.proofs.node.clear_centers.Given as goal

abbrev pub invariant-centers : goal.invariant-centers
invariant-centers g l = AllByRecursion (IsServedBy l.shared.numbers l.shared.throttles) l.centers.items

abbrev pub decreases-centers : goal.decreases-centers
decreases-centers g l = length l.centers.items
