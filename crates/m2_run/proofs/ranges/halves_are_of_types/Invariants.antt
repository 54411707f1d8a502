-- The halves so far are.
use Rattle.std.proofs.Common.{take}
use Rattle.std.specs.List.{AllByRecursion}
use Rattle.m2_node.specs.m2_links_go_on.m2_history.Link.{IsWholeHalf}
use Rattle.m2_node.specs.m2_links_go_on.Left.{IsSeen}
use Rattle.m2_run.proofs.ranges.halves_are_of_types.Given as goal

abbrev pub invariant-halves : goal.invariant-halves
invariant-halves g l = AllByRecursion IsWholeHalf (take l.half-index l.loose) × AllByRecursion IsSeen (take l.half-index l.loose)
