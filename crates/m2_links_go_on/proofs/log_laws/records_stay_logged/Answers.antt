use Rattle.m2_links_go_on.proofs.RecordTurns.{records_stay_logged}
use Rattle.m2_links_go_on.proofs.log_laws.records_stay_logged.Goals as goal

pub returns : goal.returns
returns g c = records_stay_logged
