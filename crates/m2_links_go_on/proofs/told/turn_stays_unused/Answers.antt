use Rattle.m2_links_go_on.proofs.Unused.{turn_unused}
use Rattle.m2_links_go_on.proofs.told.turn_stays_unused.Goals as goal

pub returns : goal.returns
returns g c = turn_unused _
