use Rattle.std.proofs.Common.{arith, ◌∙◌}
use Rattle.m2_turn.proofs.Waiting.{made}
use Rattle.m2_turn.proofs.pending.Pendings.new.Goals as goal

pub invariant_of-result : goal.invariant_of-result
invariant_of-result g c = (
  made c.in_ok-slots.slots 64 c.reserve.new.self.items c.in_ok-slots.ensures.empty (c.reserve.ensures.items ∙ c.new-order.ensures.items) c.in_ok-slots.ensures.capacity,
  omega (arith, c.in_ok-reserve.ensures.ok, c.reserve.ensures.len, c.new-order.ensures.len),
)
