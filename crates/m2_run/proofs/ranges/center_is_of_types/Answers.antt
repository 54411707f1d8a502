-- From what each part says.
use Rattle.std.proofs.Common.{subst}
use Rattle.std.specs.List.{AllByRecursion}
use Rattle.m2_run.specs.Types.{IsRanged}
use Rattle.m2_run.proofs.ranges.center_is_of_types.Goals as goal

pub returns : goal.returns
returns g c = record {
  center = c.is_center.ensures.center;
  records = c.is_center.ensures.records;
  ranged = subst (AllByRecursion IsRanged) c.records.ensures c.are_ranged.ensures;
}
