use Rattle.std.proofs.Common.{ap, sym, subst, ◌∙◌, arith}
use Rattle.m2_turn.specs.Pending.{IsOrderOf, in_order}
use Rattle.m2_turn.proofs.Waiting.{popped, popped_first}
use Rattle.m2_turn.proofs.pending.Pendings.pop.Goals as goal

pub invariant_of-self-2 : goal.invariant_of-self-2
invariant_of-self-2 g c = (
  popped c.self.inside.slots c.remove.new.self 64 c.in_ok-key.key c.pop_front.new.self.items
      (subst (IsOrderOf c.self.inside.slots 64) c.in_ok-key.ensures.items c.self.invariant.0)
      c.remove.ensures.updates c.remove.ensures.len c.remove.ensures.capacity,
  omega (arith, c.pop_front.ensures.capacity, c.self.invariant.1),
)

pub returns : goal.returns
returns g c =
    sym c.self.view_is
    ∙ ap (in_order c.self.inside.slots) c.in_ok-key.ensures.items
    ∙ popped_first c.self.inside.slots c.remove.new.self 64 c.in_ok-key.key c.remove.result c.pop_front.new.self.items
    (subst (IsOrderOf c.self.inside.slots 64) c.in_ok-key.ensures.items c.self.invariant.0)
    c.remove.ensures.value c.remove.ensures.updates
