-- By the logs of both nodes' dispatchers what was dispatched is the first of what was posted; and what is counted as acknowledged was
-- accepted.
use Rattle.std.proofs.Common.{◌≡◌, ℕ, ◌≤◌, true, false, List, ◌++◌, length, refl, sym, ap, subst, ◌∙◌}
use Rattle.std.specs.List.{AllByRecursion}
use Rattle.m2_channel.specs.Observed.{Logs, all_of}
use Rattle.m2_channel.specs.ObservedLaws.{AreLogs, AreLogsOf, IsLogOf}
use Rattle.m2_lives.specs.m2_bytes_fit.Orders.{entries_of}
use Rattle.m2_lives.specs.m2_bytes_fit.Trails.{TrailsTellEachPoint}
use Rattle.m2_lives.specs.m2_bytes_fit.m2_trail.Arrivals.{LooseNow}
use Rattle.m2_links_go_on.specs.m2_growth.Halves.{all_left}
use Rattle.m2_links_go_on.specs.m2_growth.Holding.{Holding}
use Rattle.m2_links_go_on.specs.m2_history.HalfStrands.{OrdersGivePoints}
use Rattle.m2_links_go_on.specs.m2_history.Link.{parts_of}
use Rattle.m2_links_go_on.specs.m2_weave.m2_journal.Items.{JournalItem}
use Rattle.m2_links_go_on.specs.m2_weave.m2_journal.Replay.{after_items, replay}
use Rattle.m2_links_go_on.specs.m2_weave.m2_journal.State.{State, start}
use Rattle.m2_links_go_on.specs.m2_history.m2_channel.Lossy.{AreSomeOf}
use Rattle.m2_channel.specs.m2_never_reset.LinkOf.{letters}
use Rattle.m2_channel.specs.m2_never_reset.Orders.{IsBroughtOver, IsNeverReset, SideItem, far_after, far_items, near_after, near_items}
use Rattle.m2_dispatch.specs.m2_queues.OutQueues.{Queue}
use Rattle.m2_script.specs.m2_record.IsRecord.{IsRecord}
use Rattle.m2_script.specs.m2_record.RecordNow.{RecordNow, speaks_of}
use Rattle.m2_promise.specs.Running.{HaveOrders, IsLinkOf, IsRunning, RunNow}
use Rattle.m2_links_go_on.specs.m2_weave.WeaveLaws.{AsksComeFirst, ReadWasWritten}
use Rattle.m2_links_go_on.specs.m2_history.WovenLaws.{WovenIsDelivered, WovenIsNeverReset, link_of}
use Rattle.m2_links_go_on.specs.m2_history.WovenLink.{AreUp, IsLink, IsOrderOf, LinkNow, items_by, items_in, order_of}
use Rattle.m2_links_go_on.proofs.m2_history.Whole.{far_whole, near_whole, by_actors}
use Rattle.m2_promise.specs.Delivered.{AreDeliveredOn, AreLosslessUp, BothLogs, HasAccepted, HasHeardInLives, HasHeardPeer, PostsInRanges, link_in}
use Rattle.m2_lives.specs.ObservedRun.{IsLogInLives}
use Rattle.m2_promise.specs.DeliveryLaws.{LinksHaveOrders, RunsHaveLinks}
use Rattle.m2_promise.proofs.Links.{far_record, near_record, never_down}

-- ---- one record

module _ (r : RecordNow) (is : IsRecord r) (items : List JournalItem) (same : items ≡ items_in r.plan (parts_of r)) where
  -- where its items lead
  abbrev then_at : State
  then_at = after_items r.core.facts items (start r.core.facts)

  leads : then_at ≡ replay r.core.facts (speaks_of r) r.journal
  leads = ap (λ is. after_items r.core.facts is (start r.core.facts)) same

  stands : is.state ≡ then_at
  stands = is.at_state.replay.state ∙ sym leads

  -- what its node's dispatchers were called with is what was accepted there
  pub heard_there : (logs : Logs) (number : ℕ) → HasHeardPeer logs r → number ≡ r.place → AreLogsOf number logs then_at
  heard_there logs number heard same_number =
      subst (λ n. IsLogOf n (all_of logs) then_at) (sym same_number) (subst (IsLogOf r.place (all_of logs)) stands (heard is.state is.at_state).first)

  -- or some of it
  pub some_there : (logs : Logs) (number : ℕ) → HasHeardPeer logs r → number ≡ r.place → AreSomeOf number logs then_at
  some_there logs number heard same_number =
      subst (λ n. AreSomeOf n logs then_at) (sym same_number) (subst (λ s. AreSomeOf r.place logs s) stands (heard is.state is.at_state).some)

  -- or it is in the record's lives
  pub in_lives_there : (logs : Logs) (number : ℕ) → HasHeardInLives logs r → number ≡ r.place → IsLogInLives number logs then_at
  in_lives_there logs number heard same_number =
      subst (λ n. IsLogInLives n logs then_at) (sym same_number) (subst (λ s. IsLogInLives r.place logs s) stands (heard is.state is.at_state))

  pub base_there : then_at.out.queue.base ≡ r.core.live.out.queue.base
  base_there = ap (λ (s : State). s.out.queue.base) (sym stands) ∙ ap (λ (q : Queue). q.base) (sym is.at_state.core.queue)

  pub letters_there : length (letters then_at.deliveries) ≡ length (letters (replay r.core.facts (speaks_of r) r.journal).deliveries)
  letters_there = ap (λ (s : State). length (letters s.deliveries)) leads

acknowledged : (sender reader : RecordNow) (s t : State) → IsBroughtOver t s → s.out.queue.base ≡ sender.core.live.out.queue.base →
    length (letters t.deliveries) ≡ length (letters (replay reader.core.facts (speaks_of reader) reader.journal).deliveries) → HasAccepted sender reader
acknowledged sender reader s t over base count = subst (λ n. n ≤ length (letters (replay reader.core.facts (speaks_of reader) reader.journal).deliveries)) base (subst (λ n. s.out.queue.base ≤ n) count over.base)

-- ---- a link

module _ (a b : RecordNow) (loose : List LooseNow) (logs : BothLogs) (of_a : IsRecord a) (of_b : IsRecord b) (up : AreLosslessUp logs a b)
    (read : ReadWasWritten) (asked : AsksComeFirst) (points : OrdersGivePoints) (tell : TrailsTellEachPoint)
    (link : IsLink (link_of a b loose)) (order : List ℕ) (is_order : IsOrderOf (link_of a b loose) order) where
  abbrev it : LinkNow
  it = link_of a b loose

  abbrev all : List SideItem
  all = entries_of (order_of it order)

  near_all : near_items all ≡ items_by it true
  near_all = near_whole read asked points tell it is_order.sockets link is_order.rows order (by_actors it order link is_order)

  far_all : far_items all ≡ items_by it false
  far_all = far_whole read asked points tell it is_order.sockets link is_order.rows order (by_actors it order link is_order)

  are_logs : AreLogs (it.facts true) (it.facts false) all logs.near logs.far
  are_logs = record {
    near = heard_there a of_a (near_items all) near_all logs.near b.core.facts.node.number up.near.heard up.far_number;
    far = heard_there b of_b (far_items all) far_all logs.far a.core.facts.node.number up.far.heard up.near_number;
  }

  are_up : AreUp it
  are_up true = never_down a up.near.up
  are_up false = never_down b up.far.up

  unreset : WovenIsNeverReset → IsNeverReset (it.facts true) (it.facts false) all
  unreset never = (never it order up.nodes link are_up is_order).never_reset

  pub delivered_on : WovenIsNeverReset → WovenIsDelivered → AreDeliveredOn logs it a b
  delivered_on never delivers = record {
    both = record {
      order = order;
      is_order = is_order;
      journals = record { near_plan = refl; far_plan = refl; near_items = near_all; far_items = far_all };
      never_reset = unreset never;
      delivered = delivers it order logs.near logs.far up.nodes link are_up is_order are_logs;
    };
    near_acknowledged =
        acknowledged a b (near_after a.core.facts all) (far_after b.core.facts all) (unreset never).brought_over.far
        (base_there a of_a (near_items all) near_all) (letters_there b of_b (far_items all) far_all);
    far_acknowledged =
        acknowledged b a (far_after b.core.facts all) (near_after a.core.facts all) (unreset never).brought_over.near
        (base_there b of_b (far_items all) far_all) (letters_there a of_a (near_items all) near_all);
  }

pub all_delivered : (x : RunNow) (h g : Holding) (a b : RecordNow) (logs : BothLogs) → RunsHaveLinks → LinksHaveOrders → ReadWasWritten → AsksComeFirst → OrdersGivePoints → TrailsTellEachPoint →
    WovenIsNeverReset → WovenIsDelivered → IsRunning x → HaveOrders x → IsLinkOf x h g a b → AllByRecursion PostsInRanges a.plan → AllByRecursion PostsInRanges b.plan → AreLosslessUp logs a b →
    AreDeliveredOn logs (link_in h g a b) a b
all_delivered x h g a b logs has_link has_order read asked points tell never delivers run orders l near far up =
    let found = has_order (link_in h g a b) (orders h g a b l) in
    delivered_on a b (all_left h.halves ++ all_left g.halves) logs (near_record x run h g a b l) (far_record x run h g a b l) up read asked points tell
    (has_link x h g a b run l near far) found.0 found.1 never delivers
