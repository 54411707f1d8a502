use Rattle.m2_links_go_on.proofs.ClusterTelling.{stays_own}
use Rattle.m2_links_go_on.proofs.told.told_stays_own.Goals as goal

pub returns : goal.returns
returns g c = stays_own
