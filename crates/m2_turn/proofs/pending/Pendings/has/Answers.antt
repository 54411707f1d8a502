use Rattle.std.proofs.Common.{ap, is_some, ◌∙◌}
use Rattle.std.specs.List.{list_any}
use Rattle.m2_turn.specs.Hearing.{is_on}
use Rattle.m2_turn.proofs.Waiting.{any_first}
use Rattle.m2_turn.proofs.pending.Pendings.has.Goals as goal

pub returns : goal.returns
returns g c =
    c.is_some.ensures ∙ ap is_some c.key_of.ensures ∙ any_first (is_on c.args.id.now) c.self.inside.slots c.self.inside.order.items ∙ ap (list_any (is_on c.args.id.now)) c.self.view_is
