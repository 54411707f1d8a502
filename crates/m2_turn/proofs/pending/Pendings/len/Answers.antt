use Rattle.std.proofs.Common.{ap, arith, sym, ◌∙◌, length}
use Rattle.m2_turn.proofs.Waiting.{length-in_order}
use Rattle.m2_turn.proofs.pending.Pendings.len.Goals as goal

pub returns : goal.returns
returns g c = record {
  length = c.len.ensures ∙ c.self.inside.order.ok.0 ∙ sym (sym (ap length c.self.view_is) ∙ length-in_order c.self.inside.slots c.self.inside.order.items c.self.invariant.0.held);
  few = omega (arith, c.len.ensures, c.self.inside.order.ok.0, c.self.invariant.0.few);
}
