use Rattle.std.proofs.Common.{◌≡◌, drop, take}
use Rattle.std.specs.List.{AllByRecursion}
use Rattle.m2_weave.specs.Counting.{IsNamed}
use Rattle.m2_weave.specs.Strands.{strand_now}
use Rattle.m2_weave.specs.Table.{names_of}
use Rattle.m2_weave.proofs.weaving.all_named.Given as goal

-- those so far are
abbrev pub invariant-loop-n : goal.invariant-loop-n
invariant-loop-n l = record {
  left : l.left ≡ drop l.n (strand_now l.s).items;
  named : AllByRecursion (IsNamed (names_of l.sockets)) (take l.n (strand_now l.s).items);
}
