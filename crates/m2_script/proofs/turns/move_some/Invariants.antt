-- The calls so far and those that are to move still are all that are to move.
use Rattle.std.proofs.Common.{◌≡◌, ◌++◌, ◌-◌, drop, take}
use Rattle.m2_script.proofs.turns.move_some.Given as goal

abbrev pub invariant-loop : goal.invariant-loop
invariant-loop l = record {
  into : l.into.items ++ take (l.count - l.counter) l.from.rest.items ≡ l.initial.into.items ++ take l.count l.initial.from.rest.items;
  from : drop (l.count - l.counter) l.from.rest.items ≡ drop l.count l.initial.from.rest.items;
}
