use Rattle.std.proofs.Common.{refl}
use Rattle.m2_scenario.proofs.Joined.{none_joined}
use Rattle.m2_scenario.proofs.link_table.LinkTable.empty.Goals as goal

pub invariant_of-result : goal.invariant_of-result
invariant_of-result c = none_joined _ _ c.empty.ensures refl refl
