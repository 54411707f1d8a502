-- By the logs of both nodes' dispatchers what was dispatched on a lossy link is some of what was posted, in order.
use Rattle.std.proofs.Common.{◌≡◌, ℕ, true, false, List}
use Rattle.m2_lives.specs.m2_bytes_fit.Orders.{entries_of}
use Rattle.m2_lives.specs.m2_bytes_fit.Trails.{TrailsTellEachPoint}
use Rattle.m2_links_go_on.specs.m2_growth.Holding.{Holding}
use Rattle.m2_links_go_on.specs.m2_history.HalfStrands.{OrdersGivePoints}
use Rattle.m2_channel.specs.m2_never_reset.Orders.{far_items, near_items}
use Rattle.m2_script.specs.m2_record.RecordNow.{RecordNow}
use Rattle.m2_promise.specs.Running.{HaveOrders, IsLinkOf, IsRunning, RunNow}
use Rattle.m2_links_go_on.specs.m2_weave.WeaveLaws.{AsksComeFirst, ReadWasWritten}
use Rattle.m2_links_go_on.specs.m2_history.WovenLink.{IsLink, IsOrderOf, LinkNow, items_by, order_of}
use Rattle.m2_links_go_on.specs.m2_history.Lossy.{AreSomeLogs, WovenComesInOrder}
use Rattle.m2_links_go_on.proofs.m2_history.Whole.{far_whole, near_whole, by_actors}
use Rattle.m2_promise.specs.Delivered.{BothLogs, link_in}
use Rattle.m2_promise.specs.DeliveryLaws.{LinksHaveOrders, RunsHaveLinks}
use Rattle.m2_promise.specs.Lossy.{AreLossyHeard, ComeInOrderOn}
use Rattle.m2_promise.proofs.Links.{far_record, near_record}
use Rattle.m2_promise.proofs.Logs.{some_there}

module _ (x : RunNow) (run : IsRunning x) (h g : Holding) (a b : RecordNow) (logs : BothLogs) (l : IsLinkOf x h g a b) (heard : AreLossyHeard logs a b)
    (read : ReadWasWritten) (asked : AsksComeFirst) (points : OrdersGivePoints) (tell : TrailsTellEachPoint)
    (link : IsLink (link_in h g a b)) (order : List ℕ) (is_order : IsOrderOf (link_in h g a b) order) where
  abbrev it : LinkNow
  it = link_in h g a b

  near_all : near_items (entries_of (order_of it order)) ≡ items_by it true
  near_all = near_whole read asked points tell it is_order.sockets link is_order.rows order (by_actors it order link is_order)

  far_all : far_items (entries_of (order_of it order)) ≡ items_by it false
  far_all = far_whole read asked points tell it is_order.sockets link is_order.rows order (by_actors it order link is_order)

  some_logs : AreSomeLogs (it.facts true) (it.facts false) (entries_of (order_of it order)) logs.near logs.far
  some_logs = record {
    near = some_there a (near_record x run h g a b l) (near_items (entries_of (order_of it order))) near_all logs.near b.core.facts.node.number heard.near.heard heard.far_number;
    far = some_there b (far_record x run h g a b l) (far_items (entries_of (order_of it order))) far_all logs.far a.core.facts.node.number heard.far.heard heard.near_number;
  }

  pub come_on : WovenComesInOrder → ComeInOrderOn it logs
  come_on comes = comes it order logs.near logs.far heard.nodes link is_order some_logs

pub all_come : (x : RunNow) (h g : Holding) (a b : RecordNow) (logs : BothLogs) → RunsHaveLinks → LinksHaveOrders → ReadWasWritten → AsksComeFirst → OrdersGivePoints → TrailsTellEachPoint → WovenComesInOrder →
    IsRunning x → HaveOrders x → IsLinkOf x h g a b → AreLossyHeard logs a b → ComeInOrderOn (link_in h g a b) logs
all_come x h g a b logs has_link has_order read asked points tell comes run orders l heard =
    let found = has_order (link_in h g a b) (orders h g a b l) in
    come_on x run h g a b logs l heard read asked points tell (has_link x h g a b run l heard.near.plan heard.far.plan) found.0 found.1 comes
