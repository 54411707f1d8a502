use Rattle.std.proofs.Common.{ap, sym, ◌∙◌}
use Rattle.m2_turn.proofs.Lending.{first_is, log_among, none_is}
use Rattle.m2_turn.proofs.pending.Pendings.log.Goals as goal

pub returns-in-Some : goal.returns-in-Some
returns-in-Some g c =
    c.log_at.ensures
    ∙ first_is c.self.inside.slots c.args.id.now c.in-Some.key c.self.inside.order.items (sym c.key_of.ensures ∙ c.in-Some.is)
    ∙ ap (λ l. log_among l c.args.id.now) c.self.view_is

pub returns-in-None : goal.returns-in-None
returns-in-None g c =
    none_is c.self.inside.slots c.args.id.now c.self.inside.order.items (sym c.key_of.ensures ∙ c.in-None.is)
    ∙ ap (λ l. log_among l c.args.id.now) c.self.view_is
