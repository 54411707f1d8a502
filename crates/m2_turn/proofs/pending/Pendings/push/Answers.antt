use Rattle.std.proofs.Common.{ap, sym, subst, ◌∙◌, length, ◌++◌, ◌∷◌, [], arith}
use Rattle.m2_turn.specs.Pending.{IsOrderOf, in_order}
use Rattle.m2_turn.proofs.Waiting.{length-in_order, pushed, pushed_last}
use Rattle.m2_turn.proofs.pending.Pendings.push.Goals as goal

pub insert_reserved-key-requires : goal.insert_reserved-key-requires
insert_reserved-key-requires g c =
    omega (arith, c.requires, c.self.invariant.0.all, c.self.invariant.0.room, length-in_order c.self.inside.slots c.self.inside.order.items c.self.invariant.0.held, ap length c.self.view_is)

pub push_back_reserved-requires : goal.push_back_reserved-requires
push_back_reserved-requires g c =
    omega (arith, c.requires, c.self.invariant.1, c.self.inside.order.ok, length-in_order c.self.inside.slots c.self.inside.order.items c.self.invariant.0.held, ap length c.self.view_is)

pub invariant_of-self : goal.invariant_of-self
invariant_of-self g c =
    let keyed = c.insert_reserved-key.ensures in (
      subst (IsOrderOf c.insert_reserved-key.new.self 64) (sym c.push_back_reserved.ensures.items)
          (pushed c.self.inside.slots c.insert_reserved-key.new.self 64 c.insert_reserved-key.result c.args.pending c.self.inside.order.items c.self.invariant.0 keyed.was_vacant keyed.updates keyed.len keyed.capacity
          (omega (arith, c.requires, length-in_order c.self.inside.slots c.self.inside.order.items c.self.invariant.0.held, ap length c.self.view_is))),
      omega (arith, c.push_back_reserved.ensures.capacity, c.self.invariant.1),
    )

pub returns : goal.returns
returns g c =
    let keyed = c.insert_reserved-key.ensures in
    ap (in_order c.insert_reserved-key.new.self) c.push_back_reserved.ensures.items
    ∙ pushed_last c.self.inside.slots c.insert_reserved-key.new.self 64 c.insert_reserved-key.result c.args.pending c.self.inside.order.items c.self.invariant.0 keyed.was_vacant keyed.updates
    ∙ ap (λ l. l ++ c.args.pending ∷ []) c.self.view_is
