use Rattle.m2_promise.proofs.ClusterActs.{new_clusters}
use Rattle.m2_promise.proofs.beginning_laws.new_clusters_begin.Goals as goal

pub returns : goal.returns
returns g c = new_clusters
