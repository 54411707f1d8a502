use Rattle.m2_links_go_on.proofs.CenterTurns.{turns_stay_logged}
use Rattle.m2_links_go_on.proofs.log_laws.turns_stay_logged.Goals as goal

pub returns : goal.returns
returns g c = turns_stay_logged _
