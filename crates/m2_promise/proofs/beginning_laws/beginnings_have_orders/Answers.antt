use Rattle.m2_promise.proofs.Starting.{begins_ordered}
use Rattle.m2_promise.proofs.beginning_laws.beginnings_have_orders.Goals as goal

pub returns : goal.returns
returns c = begins_ordered
