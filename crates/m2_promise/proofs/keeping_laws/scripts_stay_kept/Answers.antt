use Rattle.m2_promise.proofs.Scripts.{scripts_kept}
use Rattle.m2_promise.proofs.keeping_laws.scripts_stay_kept.Goals as goal

pub returns : goal.returns
returns g c = scripts_kept _ _ c.deeds_stay_kept.ensures c.deeds_keep_nodes.ensures c.plans_go_on_further.ensures
