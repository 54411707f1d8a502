use Rattle.std.proofs.Common.{◌≡◌, drop}
use Rattle.m2_turn.specs.Hearing.{is_on}
use Rattle.m2_turn.specs.Pending.{first_key}
use Rattle.m2_turn.proofs.pending.key_of.Given as goal

-- it is none of those so far
abbrev pub invariant-places : goal.invariant-places
invariant-places g l = first_key (is_on l.id) l.slots (drop l.place l.order.items) ≡ first_key (is_on l.id) l.slots l.order.items
