use Rattle.std.proofs.Common.{◌≡◌, ◌-◌, ◌≤◌, ◌++◌, length, map, vec_capacity, vec_len}
use Rattle.m2_trail.specs.Arrivals.{left_of}
use Rattle.m2_turn.specs.Sessions.{PendingNow}
use Rattle.m2_turn.proofs.leaving.leave_all.Given as goal

abbrev pub invariant-leaving : goal.invariant-leaving
invariant-leaving g l = record {
  left : l.loose.items ++ map (λ (p : PendingNow). left_of p.half) l.halves ≡ l.fn.loose.items ++ map (λ (p : PendingNow). left_of p.half) l.fn.halves;
  room : length l.halves ≤ vec_capacity l.loose - vec_len l.loose;
}

abbrev pub decreases-leaving : goal.decreases-leaving
decreases-leaving g l = length l.halves
