use Rattle.m2_promise.proofs.ClusterActs.{holds_all}
use Rattle.m2_promise.proofs.beginning_laws.clusters_hold_all.Goals as goal

pub returns : goal.returns
returns g c = holds_all
