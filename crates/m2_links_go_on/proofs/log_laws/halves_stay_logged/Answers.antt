use Rattle.m2_links_go_on.proofs.HalfLogs.{halves_stay_logged}
use Rattle.m2_links_go_on.proofs.log_laws.halves_stay_logged.Goals as goal

pub returns : goal.returns
returns g c = halves_stay_logged _
