use Rattle.m2_links_go_on.proofs.ClusterTelling.{same_center}
use Rattle.m2_links_go_on.proofs.told.told_center_is_same.Goals as goal

pub returns : goal.returns
returns g c = same_center
