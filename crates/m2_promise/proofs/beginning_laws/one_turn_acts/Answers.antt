use Rattle.m2_promise.proofs.ClusterActs.{one_turn}
use Rattle.m2_promise.proofs.beginning_laws.one_turn_acts.Goals as goal

pub returns : goal.returns
returns g c = one_turn _ _
