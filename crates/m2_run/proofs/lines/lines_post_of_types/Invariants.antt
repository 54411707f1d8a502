-- The lines so far do.
use Rattle.std.proofs.Common.{take}
use Rattle.std.specs.List.{AllByRecursion}
use Rattle.m2_run.specs.Joined.{PostsOfTypes}
use Rattle.m2_run.proofs.lines.lines_post_of_types.Given as goal

abbrev pub invariant-lines : goal.invariant-lines
invariant-lines l = AllByRecursion PostsOfTypes (take l.line-index l.lines)
