-- Those before the ones that are left, which are turned round, are ended; what is left is served by what they share; and there is room for it.
use Rattle.std.proofs.Common.{◌-◌, ◌≤◌, length}
use Rattle.std.specs.Prelude.{slice_get, vec_capacity, vec_len}
use Rattle.std.specs.List.{AllByRecursion}
use Rattle.m2_node.specs.Nodes.{IsServedBy}
use Rattle.m2_run.proofs.Lasts.{AreEndedOf}
use Rattle.m2_run.proofs.ending.end_centers.Given as goal

abbrev pub invariant-centers : goal.invariant-centers
invariant-centers g l =
    let now = l.ended-inside in
    record {
      ended : AreEndedOf l.cuts (slice_get g.B.Inboxes.inboxes) l.number l.fn.centers.items l.centers.items l.fn.ended
          (record { centers = now.centers.items; left = now.left; puts = now.rights.puts.items; gets = now.rights.gets.items });
      served : AllByRecursion (IsServedBy l.shared.numbers l.shared.throttles) l.centers.items;
      room : length l.centers.items ≤ vec_capacity now.centers - vec_len now.centers;
    }

abbrev pub decreases-centers : goal.decreases-centers
decreases-centers g l = length l.centers.items
