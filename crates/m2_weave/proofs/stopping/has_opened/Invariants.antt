use Rattle.std.proofs.Common.{◌≡◌, drop}
use Rattle.std.specs.List.{list_any}
use Rattle.m2_weave.specs.Strands.{opens, strand_now}
use Rattle.m2_weave.proofs.stopping.has_opened.Given as goal

-- none of those so far
abbrev pub invariant-loop-n : goal.invariant-loop-n
invariant-loop-n l = record {
  left : l.left ≡ drop l.n (strand_now l.s).items;
  none : list_any (opens l.k) l.left ≡ list_any (opens l.k) (strand_now l.s).items;
}
