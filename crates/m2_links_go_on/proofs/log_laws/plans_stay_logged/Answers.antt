use Rattle.m2_links_go_on.proofs.HalfLogs.{plans_stay_logged}
use Rattle.m2_links_go_on.proofs.log_laws.plans_stay_logged.Goals as goal

pub returns : goal.returns
returns g c = plans_stay_logged
