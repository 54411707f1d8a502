use Rattle.std.proofs.Common.{◌≡◌, map, take}
use Rattle.m2_weave.specs.Strands.{read_by_halves, strand_now}
use Rattle.m2_weave.proofs.stopping.halves_read.Given as goal

-- of the strands so far
abbrev pub invariant-loop-s : goal.invariant-loop-s
invariant-loop-s l = l.sum ≡ read_by_halves (map strand_now (take l.s-index l.strands)) l.k
