use Rattle.m2_links_go_on.proofs.Bringing.{turn_brings}
use Rattle.m2_links_go_on.proofs.cluster_laws.turn_brings_elsewhere.Goals as goal

pub returns : goal.returns
returns g c = turn_brings _ _
