use Rattle.m2_links_go_on.proofs.Turning.{turn_grows}
use Rattle.m2_links_go_on.proofs.cluster_laws.turn_grows.Goals as goal

pub returns : goal.returns
returns g c = turn_grows _ _
