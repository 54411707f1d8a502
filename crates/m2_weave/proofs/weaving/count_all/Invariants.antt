use Rattle.std.proofs.Common.{◌≡◌, map, take}
use Rattle.m2_weave.specs.Counted.{entries_of}
use Rattle.m2_weave.specs.Counting.{counted}
use Rattle.m2_weave.specs.Strands.{strand_now}
use Rattle.m2_weave.specs.Table.{names_of, woven_of}
use Rattle.m2_weave.specs.Tally.{IsClear}
use Rattle.m2_weave.proofs.weaving.count_all.Given as goal

-- the strands so far; and nothing is counted between them
abbrev pub invariant-loop-k : goal.invariant-loop-k
invariant-loop-k l = record {
  entries : entries_of l.all.items ≡ take l.k (counted (names_of l.sockets) (woven_of l.strands l.sockets));
  clear : IsClear l.sockets (map strand_now l.strands) l.counts;
}
