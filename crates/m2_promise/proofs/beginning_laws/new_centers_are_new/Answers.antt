use Rattle.m2_promise.proofs.ClusterActs.{new_centers}
use Rattle.m2_promise.proofs.beginning_laws.new_centers_are_new.Goals as goal

pub returns : goal.returns
returns g c = new_centers
