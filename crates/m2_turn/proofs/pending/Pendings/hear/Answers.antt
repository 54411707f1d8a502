use Rattle.std.proofs.Common.{OnOk, sym, subst, ◌≡◌, ◌∙◌}
use Rattle.m2_turn.specs.Hearing.{first_told, is_on, pending_told}
use Rattle.m2_turn.specs.Pending.{in_order}
use Rattle.m2_turn.proofs.Waiting.{first_held, heard_first, heard_order, none_told}
use Rattle.m2_turn.proofs.pending.Pendings.hear.Goals as goal

pub hear_at-requires : goal.hear_at-requires
hear_at-requires g c = first_held (is_on c.args.id.now) c.self.inside.slots c.in-Some.key c.self.inside.order.items (sym c.key_of.ensures ∙ c.in-Some.is)

pub invariant_of-self : goal.invariant_of-self
invariant_of-self g c = (
  heard_order c.hear_at.result (pending_told c.args.news c.args.bytes.now) c.self.inside.slots c.hear_at.new.slots 64 c.in-Some.key c.self.inside.order.items c.self.invariant.0
      (first_held (is_on c.args.id.now) c.self.inside.slots c.in-Some.key c.self.inside.order.items (sym c.key_of.ensures ∙ c.in-Some.is))
      c.hear_at.ensures.ok c.hear_at.ensures.err,
  c.self.invariant.1,
)

pub returns-in-Some-clause-ok : goal.returns-in-Some-clause-ok
returns-in-Some-clause-ok g c =
    subst (λ l. OnOk c.hear_at.result (in_order c.hear_at.new.slots c.self.inside.order.items ≡ first_told (is_on c.args.id.now) (pending_told c.args.news c.args.bytes.now) l)) c.self.view_is
    (heard_first c.hear_at.result (is_on c.args.id.now) (pending_told c.args.news c.args.bytes.now) c.self.inside.slots c.hear_at.new.slots 64 c.in-Some.key c.self.inside.order.items c.self.invariant.0
    (sym c.key_of.ensures ∙ c.in-Some.is) c.hear_at.ensures.ok)

pub returns-in-None-clause-ok : goal.returns-in-None-clause-ok
returns-in-None-clause-ok g c =
    subst (λ l. l ≡ first_told (is_on c.args.id.now) (pending_told c.args.news c.args.bytes.now) l) c.self.view_is
    (none_told (is_on c.args.id.now) (pending_told c.args.news c.args.bytes.now) c.self.inside.slots c.self.inside.order.items (sym c.key_of.ensures ∙ c.in-None.is))
