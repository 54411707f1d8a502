-- What the sockets before the place do has been passed on, and those from it on are as they were.
use Rattle.std.proofs.Common.{◌≡◌, ◌++◌, map, take, drop}
use Rattle.m2_fabric.specs.Kept.{cleared, of_sockets}
use Rattle.m2_fabric.specs.News.{AreTold, kept_after, logs_of, told_to}
use Rattle.m2_fabric.proofs.pair.pass_sockets.Given as goal

abbrev pub invariant-loop-kept : goal.invariant-loop-kept
invariant-loop-kept g l = record {
  same : map cleared l.kept-items ≡ map cleared l.initial.kept-items;
  sockets : l.kept-items
      ≡ map (kept_after l.what (logs_of (g.H.Holder.seen l.initial.h)) l.first l.second) (take l.kept-index l.initial.kept-items) ++ drop l.kept-index l.initial.kept-items;
  told : AreTold (told_to l.what (logs_of (g.H.Holder.seen l.initial.h)) (of_sockets l.first l.second (take l.kept-index l.initial.kept-items)))
      (g.H.Holder.seen l.initial.h) (g.H.Holder.seen l.h);
  rest : g.H.Holder.rest l.h ≡ g.H.Holder.rest l.initial.h;
}
