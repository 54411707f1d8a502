use Rattle.m2_links_go_on.proofs.Turning.{plan_grows}
use Rattle.m2_links_go_on.proofs.cluster_laws.plan_grows.Goals as goal

pub returns : goal.returns
returns g c = plan_grows _
