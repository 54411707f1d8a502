-- Where there is an order of all, the greedy one has all.
use Rattle.m2_weave.specs.Rule.{by_bytes}
use Rattle.m2_weave.specs.Stops.{sizes}
use Rattle.m2_weave.proofs.Staying.{stays_met}
use Rattle.m2_weave.proofs.weave_laws.a_stop_is_no_order.Goals as goal

pub returns : goal.returns
returns c = λ w u stop order woven.
    stop.short (c.greedy_is_an_order.ensures stop.rank (by_bytes w) (sizes w) stop.order order (stays_met w) stop.greedy woven).whole
