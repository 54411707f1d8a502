use Rattle.std.proofs.Common.{◌≡◌, drop, take}
use Rattle.std.specs.List.{list_any}
use Rattle.m2_weave.specs.Rule.{strand_at}
use Rattle.m2_weave.specs.Table.{woven_of}
use Rattle.m2_weave.specs.Tally.{IsForgotten, is_on}
use Rattle.m2_weave.proofs.counts.Counts.clear.Given as goal

-- what was counted of the sockets of the items so far is forgotten
abbrev pub invariant-loop-n : goal.invariant-loop-n
invariant-loop-n l = record {
  left : l.left ≡ drop l.n (strand_at (woven_of l.strands l.sockets) l.k).items;
  forgotten : IsForgotten l.sockets (λ k. list_any (is_on k) (take l.n (strand_at (woven_of l.strands l.sockets) l.k).items)) l.initial.self l.self;
}
