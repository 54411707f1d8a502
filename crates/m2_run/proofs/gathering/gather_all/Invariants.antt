-- Of the nodes so far the fabric tells what they left, without a fault, and those that are left are in hand; and there is room for their logs.
use Rattle.std.proofs.Common.{◌≡◌, ◌-◌, ◌≤◌, length}
use Rattle.std.specs.Prelude.{vec_capacity, vec_len}
use Rattle.m2_run.proofs.InHand.{AreInHand}
use Rattle.m2_run.proofs.gathering.gather_all.Given as goal

abbrev pub invariant-nodes : goal.invariant-nodes
invariant-nodes g l =
    let seen = g.F.Fabric.seen in
    record {
      in_hand : AreInHand l.cuts l.nodes l.fn.ends.items l.ends.items l.fn.loose.items l.loose.rest.items l.logs.items (seen l.fn.fabric) (seen l.fabric);
      faults : (seen l.fabric).faults ≡ (seen l.fn.fabric).faults;
      few : length l.ends.items ≤ length l.nodes;
      room : length l.ends.items ≤ vec_capacity l.logs - vec_len l.logs;
    }

abbrev pub decreases-nodes : goal.decreases-nodes
decreases-nodes g l = length l.ends.items
