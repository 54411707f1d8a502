-- What the pairs before the place do has been passed on, and those from it on are as they were.
use Rattle.std.proofs.Common.{◌≡◌, ◌++◌, map, take, drop}
use Rattle.m2_fabric.specs.Kept.{cleared_pair, directions}
use Rattle.m2_fabric.specs.News.{AreTold, logs_of, pair_after, told_to}
use Rattle.m2_fabric.proofs.pair.pass_each.Given as goal

abbrev pub invariant-loop-pair : goal.invariant-loop-pair
invariant-loop-pair g l = record {
  same : map cleared_pair l.pair-items ≡ map cleared_pair l.initial.pair-items;
  pairs : l.pair-items ≡ map (pair_after l.what (logs_of (g.H.Holder.seen l.initial.h))) (take l.pair-index l.initial.pair-items) ++ drop l.pair-index l.initial.pair-items;
  told : AreTold (told_to l.what (logs_of (g.H.Holder.seen l.initial.h)) (directions (take l.pair-index l.initial.pair-items)))
      (g.H.Holder.seen l.initial.h) (g.H.Holder.seen l.h);
  rest : g.H.Holder.rest l.h ≡ g.H.Holder.rest l.initial.h;
}
