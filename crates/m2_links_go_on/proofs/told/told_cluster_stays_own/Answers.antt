use Rattle.m2_links_go_on.proofs.ClusterTelling.{all_stay_own}
use Rattle.m2_links_go_on.proofs.told.told_cluster_stays_own.Goals as goal

pub returns : goal.returns
returns g c = all_stay_own
