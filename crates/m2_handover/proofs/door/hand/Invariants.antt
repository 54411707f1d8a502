-- The ways so far have refused it.
use Rattle.std.proofs.Common.{◌≡◌, take}
use Rattle.std.specs.List.{AllByRecursion}
use Rattle.m2_handover.specs.Way.{Refuses}
use Rattle.m2_handover.proofs.door.hand.Given as goal

abbrev pub invariant-ways : goal.invariant-ways
invariant-ways g l = record {
  left : l.left ≡ l.fn.handed;
  ways : l.ways.items ≡ l.fn.ways.items;
  refused : AllByRecursion (Refuses l.fn.handed) (take l.k l.fn.ways.items);
}
