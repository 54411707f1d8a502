use Rattle.std.proofs.Common.{◌≡◌, length, not}
use Rattle.m2_turn.specs.HandingOn.{HandsAllOn}
use Rattle.m2_turn.specs.Mailing.{is_none}
use Rattle.m2_turn.proofs.handing_on.hand_all_on.Given as goal

abbrev pub invariant-turning : goal.invariant-turning
invariant-turning g l = record {
  on : HandsAllOn g.D.Dispatcher.heard l.fn.queued l.queued l.fn.into.items l.into.items;
  any : l.any ≡ not (is_none on.dispatched);
}

abbrev pub decreases-turning : goal.decreases-turning
decreases-turning g l = length l.queued.waiting
