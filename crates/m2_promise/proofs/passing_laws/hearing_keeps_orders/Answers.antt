use Rattle.m2_promise.proofs.Hearing.{keeps_orders}
use Rattle.m2_promise.proofs.passing_laws.hearing_keeps_orders.Goals as goal

pub returns : goal.returns
returns c = keeps_orders c.woven_stays.ensures
