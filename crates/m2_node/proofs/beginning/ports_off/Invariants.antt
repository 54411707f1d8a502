-- The ports so far make nothing.
use Rattle.std.proofs.Common.{◌≡◌, length}
use Rattle.std.specs.List.{AllByRecursion}
use Rattle.m2_node.specs.Begins.{IsPortFor}
use Rattle.m2_node.proofs.beginning.ports_off.Given as goal

abbrev pub invariant-centers : goal.invariant-centers
invariant-centers g l = record {
  count : length l.ports.items ≡ l.counter;
  each : AllByRecursion (IsPortFor l.node) l.ports.items;
}
