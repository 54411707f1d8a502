use Rattle.std.proofs.Common.{◌≡◌, drop, take}
use Rattle.m2_weave.specs.Strands.{written_by, strand_now, total}
use Rattle.m2_weave.proofs.stopping.written_on.Given as goal

-- of the items so far
abbrev pub invariant-loop-n : goal.invariant-loop-n
invariant-loop-n l = record {
  left : l.left ≡ drop l.n (strand_now l.s).items;
  sum : l.sum ≡ total (written_by l.k) (take l.n (strand_now l.s).items);
}
