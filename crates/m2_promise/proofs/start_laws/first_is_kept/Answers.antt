use Rattle.m2_promise.proofs.First.{first_kept}
use Rattle.m2_promise.proofs.start_laws.first_is_kept.Goals as goal

pub returns : goal.returns
returns c =
    first_kept c.beginnings_run.ensures c.beginnings_have_orders.ensures c.new_centers_are_new.ensures c.new_clusters_begin.ensures c.begin_logged.ensures
