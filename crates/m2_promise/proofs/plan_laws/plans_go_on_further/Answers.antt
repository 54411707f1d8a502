use Rattle.m2_promise.proofs.Further.{plans_go_on_further}
use Rattle.m2_promise.proofs.plan_laws.plans_go_on_further.Goals as goal

pub returns : goal.returns
returns g c = plans_go_on_further
