use Rattle.m2_promise.proofs.ClusterActs.{one_plan}
use Rattle.m2_promise.proofs.beginning_laws.one_plan_acts.Goals as goal

pub returns : goal.returns
returns g c = one_plan _
