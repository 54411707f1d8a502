use Rattle.std.proofs.Common.{◌≡◌, ◌++◌}
use Rattle.std.specs.Prelude.{drop, take}
use Rattle.m2_turn.proofs.halves_turn.turn_round.Given as goal

abbrev pub invariant-round : goal.invariant-round
invariant-round g l = l.halves ≡ drop l.counter l.fn.halves ++ take l.counter l.fn.halves
