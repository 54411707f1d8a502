use Rattle.m2_links_go_on.proofs.ClusterTelling.{stays_judged}
use Rattle.m2_links_go_on.proofs.told.told_stays_judged.Goals as goal

pub returns : goal.returns
returns g c = stays_judged
