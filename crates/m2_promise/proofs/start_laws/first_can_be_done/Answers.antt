use Rattle.m2_promise.proofs.Going.{can_be_done}
use Rattle.m2_promise.proofs.start_laws.first_can_be_done.Goals as goal

pub returns : goal.returns
returns g c = can_be_done g.row.P-End.Denot c.first_is_kept.ensures c.scripts_can_be_done.ensures
