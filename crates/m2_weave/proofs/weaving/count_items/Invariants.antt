use Rattle.std.proofs.Common.{◌≡◌, ◌++◌, drop}
use Rattle.m2_weave.specs.Counting.{counted_items}
use Rattle.m2_weave.specs.Rule.{strand_at}
use Rattle.m2_weave.specs.Table.{names_of, woven_of}
use Rattle.m2_weave.specs.Tally.{CountsAre}
use Rattle.m2_weave.proofs.weaving.count_items.Given as goal

-- the items so far are counted
abbrev pub invariant-loop-n : goal.invariant-loop-n
invariant-loop-n l = record {
  left : l.left ≡ drop l.n (strand_at (woven_of l.strands l.sockets) l.k).items;
  counts : CountsAre l.sockets (woven_of l.strands l.sockets) (strand_at (woven_of l.strands l.sockets) l.k) l.n l.counts;
  entries : l.entries.items ++ counted_items (names_of l.sockets) (woven_of l.strands l.sockets) (strand_at (woven_of l.strands l.sockets) l.k) l.n
      (drop l.n (strand_at (woven_of l.strands l.sockets) l.k).items)
      ≡ counted_items (names_of l.sockets) (woven_of l.strands l.sockets) (strand_at (woven_of l.strands l.sockets) l.k) 0
      (strand_at (woven_of l.strands l.sockets) l.k).items;
}
