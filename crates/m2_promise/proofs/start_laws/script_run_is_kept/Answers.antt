use Rattle.m2_promise.proofs.Going.{run_is_kept}
use Rattle.m2_promise.proofs.start_laws.script_run_is_kept.Goals as goal

pub returns : goal.returns
returns g c = run_is_kept g.row.P-End.Denot c.first_is_kept.ensures c.scripts_stay_kept.ensures
