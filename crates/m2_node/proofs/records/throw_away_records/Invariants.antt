-- Those that are left have done nothing, and the passes are the throttles'.
use Rattle.std.proofs.Common.{length}
use Rattle.std.specs.List.{AllByRecursion}
use Rattle.m2_dispatch.specs.m2_shared.Gates.{ArePassesOf}
use Rattle.m2_links_go_on.specs.Made.{IsBegun}
use Rattle.m2_node.proofs.records.throw_away_records.Given as goal

abbrev pub invariant-records : goal.invariant-records
invariant-records g l = record {
  passes : ArePassesOf l.throttles l.passes;
  begun : AllByRecursion IsBegun l.records.items;
}

abbrev pub decreases-records : goal.decreases-records
decreases-records g l = length l.records.items
