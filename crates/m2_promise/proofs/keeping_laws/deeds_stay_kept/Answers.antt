use Rattle.m2_promise.proofs.Doing.{deeds_kept}
use Rattle.m2_promise.proofs.keeping_laws.deeds_stay_kept.Goals as goal

pub returns : goal.returns
returns g c =
    deeds_kept _ _ c.rest_stays.ensures c.one_turn_acts.ensures c.one_plan_acts.ensures c.turn_stays_unused.ensures c.plan_stays_unused.ensures
    c.clusters_hold_all.ensures c.told_nodes_hear.ensures c.told_cluster_stays_own.ensures c.told_cluster_stays_judged.ensures c.hearing_stays_at.ensures
    c.deeds_keep_nodes.ensures
