-- The halves so far rest.
use Rattle.std.proofs.Common.{take}
use Rattle.std.specs.List.{AllByRecursion}
use Rattle.m2_run.specs.Opened.{made_of_all}
use Rattle.m2_run.specs.Still.{IsAtRest}
use Rattle.m2_run.proofs.resting.halves_rest.Given as goal

abbrev pub invariant-halves : goal.invariant-halves
invariant-halves g l = AllByRecursion (IsAtRest (made_of_all l.all)) (take l.half-index l.halves)
