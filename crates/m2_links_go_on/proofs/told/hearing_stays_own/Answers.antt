use Rattle.m2_links_go_on.proofs.ClusterTelling.{hearing_own}
use Rattle.m2_links_go_on.proofs.told.hearing_stays_own.Goals as goal

pub returns : goal.returns
returns g c = hearing_own
