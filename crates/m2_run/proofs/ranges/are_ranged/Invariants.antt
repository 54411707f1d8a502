-- The records so far are.
use Rattle.std.proofs.Common.{take}
use Rattle.std.specs.List.{AllByRecursion}
use Rattle.m2_run.specs.Types.{IsRanged}
use Rattle.m2_run.proofs.ranges.are_ranged.Given as goal

abbrev pub invariant-records : goal.invariant-records
invariant-records g l = AllByRecursion IsRanged (take l.side-index l.records)
