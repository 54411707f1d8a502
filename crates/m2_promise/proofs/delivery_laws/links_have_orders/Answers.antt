-- The lemma.
use Rattle.m2_promise.proofs.Tables.{order_is}
use Rattle.m2_promise.proofs.delivery_laws.links_have_orders.Goals as goal

pub returns : goal.returns
returns c = λ l o. (o.0, order_is l o)
