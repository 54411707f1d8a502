use Rattle.std.proofs.Common.{take}
use Rattle.std.specs.List.{AllByRecursion}
use Rattle.m2_promise.specs.Posted.{PostsOfTypes}
use Rattle.m2_promise.proofs.types.lines_fit.Given as goal

abbrev pub invariant-loop-line : goal.invariant-loop-line
invariant-loop-line l = AllByRecursion PostsOfTypes (take l.line-index l.lines)
