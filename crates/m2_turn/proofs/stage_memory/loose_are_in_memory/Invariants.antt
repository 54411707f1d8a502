use Rattle.std.specs.Prelude.{take}
use Rattle.std.specs.List.{All}
use Rattle.m2_turn.specs.Hearing.{IsLooseInMemory}
use Rattle.m2_turn.proofs.stage_memory.loose_are_in_memory.Given as goal

-- so far
abbrev pub invariant-halves : goal.invariant-halves
invariant-halves g l = All IsLooseInMemory (take l.half-index l.loose)
