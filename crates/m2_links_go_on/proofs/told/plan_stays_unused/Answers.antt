use Rattle.m2_links_go_on.proofs.Unused.{plan_unused}
use Rattle.m2_links_go_on.proofs.told.plan_stays_unused.Goals as goal

pub returns : goal.returns
returns g c = plan_unused
