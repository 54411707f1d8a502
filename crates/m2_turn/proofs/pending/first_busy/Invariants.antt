use Rattle.std.proofs.Common.{◌≡◌, drop}
use Rattle.m2_turn.specs.Busy.{is_busy}
use Rattle.m2_turn.specs.Pending.{first_key}
use Rattle.m2_turn.proofs.pending.first_busy.Given as goal

-- it is none of those so far
abbrev pub invariant-places : goal.invariant-places
invariant-places g l = first_key is_busy l.slots (drop l.place l.order.items) ≡ first_key is_busy l.slots l.order.items
