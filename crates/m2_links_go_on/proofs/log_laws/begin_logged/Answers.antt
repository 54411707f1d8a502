use Rattle.m2_links_go_on.proofs.AreHeard.{begin_logged}
use Rattle.m2_links_go_on.proofs.log_laws.begin_logged.Goals as goal

pub returns : goal.returns
returns g c = begin_logged
