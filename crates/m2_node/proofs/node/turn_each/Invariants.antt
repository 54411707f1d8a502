-- The centers so far have taken their turns, the others are as they were, and the passes of all are to what they share; what the centers have
-- handed on is dispatched.
use Rattle.std.proofs.Common.{◌≡◌, []}
use Rattle.std.specs.List.{AllByRecursion}
use Rattle.m2_node.specs.Handing.{IsDispatched}
use Rattle.m2_node.specs.Nodes.{IsServedBy}
use Rattle.m2_node.specs.Way.{TurnsSo}
use Rattle.m2_node.specs.declared.end.RunEnd.{RunEnd}
use Rattle.m2_node.proofs.Each.{AreDone}
use Rattle.m2_node.proofs.node.turn_each.Given as goal

abbrev pub invariant-centers : goal.invariant-centers
invariant-centers g l = record {
  done : AreDone (TurnsSo (RunEnd g.row.P-End.Denot) l.now l.shared.numbers l.shared.throttles) l.j l.fn.centers.items l.centers.items;
  served : AllByRecursion (IsServedBy l.shared.numbers l.shared.throttles) l.centers.items;
  dispatched : IsDispatched l.shared.throttles l.centers.items l.dispatcher;
  none : l.parcels.items ≡ [];
}
