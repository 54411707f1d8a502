-- The passes are of the throttles by which all that is left was granted; and there is one record less each time.
use Rattle.std.proofs.Common.{length}
use Rattle.m2_dispatch.specs.m2_shared.Gates.{ArePassesOf, places}
use Rattle.m2_script.specs.m2_center.Finishing.{AllOwn}
use Rattle.m2_node.proofs.node.end_records.Given as goal

abbrev pub invariant-records : goal.invariant-records
invariant-records g l = record {
  passes : ArePassesOf l.throttles l.passes;
  owned : AllOwn (places l.throttles) l.records.items;
}

abbrev pub decreases-records : goal.decreases-records
decreases-records g l = length l.records.items
