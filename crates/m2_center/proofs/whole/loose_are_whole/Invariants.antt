use Rattle.std.specs.Prelude.{take}
use Rattle.std.specs.List.{All}
use Rattle.m2_turn.specs.Halves.{IsWhole}
use Rattle.m2_center.proofs.whole.loose_are_whole.Given as goal

-- so far
abbrev pub invariant-halves : goal.invariant-halves
invariant-halves g l = All IsWhole (take l.half-index l.loose)
