use Rattle.std.proofs.Common.{take}
use Rattle.std.specs.List.{AllByRecursion}
use Rattle.m2_history.specs.Link.{IsWholeHalf}
use Rattle.m2_history.proofs.records.all_whole.Given as goal

-- those so far are
abbrev pub invariant-loop-half : goal.invariant-loop-half
invariant-loop-half g l = AllByRecursion IsWholeHalf (take l.half-index l.loose)
