use Rattle.m2_links_go_on.proofs.Rest.{rest_stays_logged}
use Rattle.m2_links_go_on.proofs.log_laws.rest_stays_logged.Goals as goal

pub returns : goal.returns
returns g c = rest_stays_logged
