use Rattle.std.proofs.Common.{ap, sym, ◌∙◌}
use Rattle.std.specs.List.{list_any}
use Rattle.m2_fabric.specs.End.{SeenEnd}
use Rattle.m2_fabric.specs.Sockets.{same_socket}
use Rattle.m2_center.proofs.RecordsHear.{has_so}
use Rattle.m2_center.proofs.record_ends.has_end.Goals as goal

pub returns-else-is_feed : goal.returns-else-is_feed
returns-else-is_feed g c =
    has_so c.args.id.now c.args.side.now c.any_is.result (sym c.is_feed.ensures ∙ c.if-is_feed.false)
    (c.any_is.ensures ∙ ap (list_any (λ (e : SeenEnd). same_socket c.args.id.now e.id)) c.spent.ensures)
