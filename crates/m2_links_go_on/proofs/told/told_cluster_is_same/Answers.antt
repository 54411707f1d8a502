use Rattle.m2_links_go_on.proofs.ClusterTelling.{same_nodes}
use Rattle.m2_links_go_on.proofs.told.told_cluster_is_same.Goals as goal

pub returns : goal.returns
returns g c = same_nodes
