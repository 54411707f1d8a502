use Rattle.m2_links_go_on.proofs.Bringing.{plan_brings}
use Rattle.m2_links_go_on.proofs.cluster_laws.plan_brings_elsewhere.Goals as goal

pub returns : goal.returns
returns g c = plan_brings _
