use Rattle.m2_links_go_on.proofs.Weaving.{told_woven}
use Rattle.m2_links_go_on.proofs.telling_laws.told_stays_woven.Goals as goal

pub returns : goal.returns
returns g c = told_woven _
