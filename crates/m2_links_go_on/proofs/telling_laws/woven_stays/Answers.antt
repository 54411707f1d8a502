use Rattle.m2_links_go_on.proofs.Weaving.{woven_stays}
use Rattle.m2_links_go_on.proofs.telling_laws.woven_stays.Goals as goal

pub returns : goal.returns
returns c = woven_stays
