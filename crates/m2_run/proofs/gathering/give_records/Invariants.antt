-- Whatever puts the ends of the records that are left last, behind those so far, puts those of all records last, where memory lasted so far;
-- and what those records hold was granted by these throttles.
use Rattle.std.proofs.Common.{List, length, map, reverse}
use Rattle.std.specs.Prelude.{OnOk}
use Rattle.std.specs.List.{flat_map}
use Rattle.m2_dispatch.specs.m2_shared.Gates.{ArePassesOf, places}
use Rattle.m2_node.specs.m2_script.m2_center.Finishing.{AllOwn}
use Rattle.m2_fabric.specs.End.{SeenEnd}
use Rattle.m2_run.specs.Gathering.{Opens}
use Rattle.m2_run.specs.Kept.{ends_of_record}
use Rattle.m2_run.proofs.gathering.give_records.Given as goal

abbrev pub invariant-records : goal.invariant-records
invariant-records g l =
    let seen = g.E.End.seen in
    record {
      passes : ArePassesOf l.throttles l.passes;
      owned : AllOwn (places l.throttles) l.records.items;
      given : OnOk l.given ((all : List SeenEnd) → Opens l.cuts l.made (flat_map ends_of_record (reverse l.records.items)) (map seen l.into.items) all →
          Opens l.cuts l.made (flat_map ends_of_record l.fn.records.items) (map seen l.fn.into.items) all);
    }

abbrev pub decreases-records : goal.decreases-records
decreases-records g l = length l.records.items
