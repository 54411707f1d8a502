use Rattle.m2_promise.proofs.Deeds.{deeds_keep_nodes}
use Rattle.m2_promise.proofs.plan_laws.deeds_keep_nodes.Goals as goal

pub returns : goal.returns
returns g c = deeds_keep_nodes _ _
