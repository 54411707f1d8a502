-- The lemma, by what is promised of links.
use Rattle.m2_promise.proofs.Orders.{has_order}
use Rattle.m2_promise.proofs.run_laws.acting_keeps_orders.Goals as goal

pub returns : goal.returns
returns c = λ i old new run acts orders h g a b l.
    has_order i old new c.staying_goes_on.ensures c.links_go_on.ensures run (c.acting_keeps_running.ensures i old new run acts) acts h g a b l c.links_are_woven.ensures orders
