use Rattle.m2_promise.proofs.Scripts.{scripts_can}
use Rattle.m2_promise.proofs.keeping_laws.scripts_can_be_done.Goals as goal

pub returns : goal.returns
returns g c = scripts_can _ _ c.deeds_stay_kept.ensures c.kept_can_be_done.ensures c.scripts_are_within.ensures
