use Rattle.std.specs.Prelude.{take}
use Rattle.std.specs.List.{All}
use Rattle.m2_fabric.specs.Kinds.{IsInMemory}
use Rattle.m2_fabric.proofs.kinds.are_in_memory.Given as goal

-- so far
abbrev pub invariant-ends : goal.invariant-ends
invariant-ends g l = All (λ e. IsInMemory (g.E.End.seen e)) (take l.end-index l.ends)
