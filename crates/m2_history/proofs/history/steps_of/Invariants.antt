use Rattle.std.proofs.Common.{◌≡◌, ◌++◌, drop}
use Rattle.std.specs.Prelude.{replicate}
use Rattle.m2_history.specs.Steps.{steps_from}
use Rattle.m2_history.proofs.history.steps_of.Given as goal

-- those so far, and those of what is left
abbrev pub invariant-loop-strand : goal.invariant-loop-strand
invariant-loop-strand l = l.steps.items ++ steps_from l.at.items (drop l.strand-index l.order) ≡ steps_from (replicate l.strands 0) l.order
