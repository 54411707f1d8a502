use Rattle.std.proofs.Common.{ap, is_some, ◌∙◌}
use Rattle.std.specs.List.{list_any}
use Rattle.m2_turn.specs.Busy.{is_busy}
use Rattle.m2_turn.proofs.Waiting.{any_first}
use Rattle.m2_turn.proofs.pending.Pendings.any_busy.Goals as goal

pub returns : goal.returns
returns g c = c.is_some.ensures ∙ ap is_some c.first_busy.ensures ∙ any_first is_busy c.self.inside.slots c.self.inside.order.items ∙ ap (list_any is_busy) c.self.view_is
