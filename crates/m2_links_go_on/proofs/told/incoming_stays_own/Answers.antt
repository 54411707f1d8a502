use Rattle.m2_links_go_on.proofs.ClusterTelling.{incoming_own}
use Rattle.m2_links_go_on.proofs.told.incoming_stays_own.Goals as goal

pub returns : goal.returns
returns g c = incoming_own
