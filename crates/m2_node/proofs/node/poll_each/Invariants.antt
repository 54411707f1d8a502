-- The centers so far have waited, the others are as they were, and the passes of all are to what they share.
use Rattle.std.specs.List.{AllByRecursion}
use Rattle.m2_node.specs.Nodes.{IsServedBy}
use Rattle.m2_node.specs.Way.{PollsSo}
use Rattle.m2_node.proofs.Each.{AreDone}
use Rattle.m2_node.proofs.node.poll_each.Given as goal

abbrev pub invariant-centers : goal.invariant-centers
invariant-centers g l = record {
  done : AreDone PollsSo l.j l.fn.centers.items l.centers.items;
  served : AllByRecursion (IsServedBy l.shared.numbers l.shared.throttles) l.centers.items;
}
