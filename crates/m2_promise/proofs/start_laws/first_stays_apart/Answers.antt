use Rattle.m2_promise.proofs.EndsApart.{first_stays}
use Rattle.m2_promise.proofs.start_laws.first_stays_apart.Goals as goal

pub returns : goal.returns
returns g c = first_stays g.row.P-End.Denot c.first_is_kept.ensures c.deeds_stay_kept.ensures
