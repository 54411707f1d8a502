use Rattle.m2_links_go_on.proofs.Turning.{node_plan_grows}
use Rattle.m2_links_go_on.proofs.cluster_laws.node_plan_grows.Goals as goal

pub returns : goal.returns
returns g c = node_plan_grows _
