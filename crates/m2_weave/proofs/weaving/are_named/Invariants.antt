use Rattle.std.proofs.Common.{take}
use Rattle.std.specs.List.{AllByRecursion}
use Rattle.m2_weave.specs.declared.strand.Strand.{Strand}
use Rattle.m2_weave.specs.Counting.{IsNamed}
use Rattle.m2_weave.specs.Strands.{strand_now}
use Rattle.m2_weave.specs.Table.{names_of}
use Rattle.m2_weave.proofs.weaving.are_named.Given as goal

-- those so far are
abbrev pub invariant-loop-s : goal.invariant-loop-s
invariant-loop-s l = AllByRecursion (λ (s : Strand). AllByRecursion (IsNamed (names_of l.sockets)) (strand_now s).items) (take l.s-index l.strands)
