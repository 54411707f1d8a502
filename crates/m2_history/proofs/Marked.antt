-- A lossless link that is woven: up to the first mark-down its entries are a history, and what is observed is a run of the channel.
use Rattle.std.proofs.Common.{◌≡◌, ℕ, true, false, List, ◌++◌, map, ap, ◌∙◌, subst}
use Rattle.std.proofs.lemmas.List.{map-append}
use Rattle.std.proofs.lemmas.List.Elements.{filter-append}
use Rattle.m2_bytes_fit.specs.Orders.{BytesGiveFits, LosslessBytesAreNeverReset, entries_of}
use Rattle.m2_bytes_fit.specs.Trails.{TrailsTellEachPoint}
use Rattle.m2_channel.specs.Observed.{Logs, all_of, before_down}
use Rattle.m2_channel.specs.ObservedLaws.{AreBrought, ObservedIsARun, ObservedIsARunToAMark}
use Rattle.m2_channel.specs.m2_never_reset.Order.{AreFirstOf}
use Rattle.m2_channel.specs.m2_never_reset.Orders as orders
use Rattle.m2_channel.specs.m2_never_reset.Orders.{AreNodes, SideItem, far_items, near_items, posts_in}
use Rattle.m2_channel.proofs.Keys.{first_of_first}
use Rattle.m2_channel.proofs.Orders.{near_turned, posts-append}
use Rattle.m2_channel.proofs.m2_never_reset.Sided.{far_append, near_append}
use Rattle.m2_dispatch.specs.Heard as heard
use Rattle.m2_dispatch.specs.Heard.{is_key}
use Rattle.m2_journal.specs.Items.{JournalItem}
use Rattle.m2_journal.specs.Lawful.{key_of}
use Rattle.m2_journal.specs.SideFacts.{SideFacts}
use Rattle.m2_channel.specs.Lossy.{IsByteOrder}
use Rattle.m2_message.specs.Message.{Content, unnumbered}
use Rattle.m2_policy.specs.declared.path.Key.{Key}
use Rattle.m2_weave.specs.WeaveLaws.{AsksComeFirst, ReadWasWritten}
use Rattle.m2_history.specs.Delivered.{CountsAreOfTheItems}
use Rattle.m2_history.specs.HalfStrands.{OrdersGivePoints}
use Rattle.m2_history.specs.Marked.{BothComeFirst, IsWovenToAMark, WovenIsARunToAMark}
use Rattle.m2_history.specs.WovenLaws.{WovenBytesFit, kept_by}
use Rattle.m2_history.specs.WovenLink.{IsLink, IsOrderOf, LinkNow, items_by, order_of}
use Rattle.m2_history.proofs.Before.{history_before, lawful_order, more_behind, never_reset_before}
use Rattle.m2_history.proofs.Whole.{by_actors, far_whole, near_whole, posts_counted}

abbrev of_it : SideFacts → Key → List JournalItem → List Content
of_it g key is = orders.of_key g key (map unnumbered (posts_in is))

-- the first entries post the first of what all post
first_posts : (g : SideFacts) (key : Key) (all front more : List JournalItem) → all ≡ front ++ more → AreFirstOf (of_it g key front) (of_it g key all)
first_posts g key all front more e = (
  of_it g key more,
  ap (of_it g key) e
      ∙ ap (λ ms. orders.of_key g key (map unnumbered ms)) (posts-append front more)
      ∙ ap (orders.of_key g key) (map-append unnumbered (posts_in front) (posts_in more))
      ∙ filter-append (λ m. is_key (key_of g m) key) (map unnumbered (posts_in front)) (map unnumbered (posts_in more)),
)

module _ (read : ReadWasWritten) (asked : AsksComeFirst) (points : OrdersGivePoints) (tell : TrailsTellEachPoint) (bytes : WovenBytesFit) (gives : BytesGiveFits)
    (l : LinkNow) (order : List ℕ) (nodes : AreNodes (l.facts true) (l.facts false)) (link : IsLink l) (o : IsOrderOf l order) where
  abbrev f : SideFacts
  f = l.facts true

  abbrev g : SideFacts
  g = l.facts false

  abbrev all : List SideItem
  all = entries_of (order_of l order)

  abbrev before : List SideItem
  before = before_down all

  fits : IsByteOrder f g (order_of l order)
  fits = (bytes l order link o).fits

  rest : (more : List SideItem) × (all ≡ before ++ more)
  rest = more_behind (order_of l order)

  near_are : near_items all ≡ items_by l true
  near_are = near_whole read asked points tell l o.sockets link o.rows order (by_actors l order link o)

  far_are : far_items all ≡ items_by l false
  far_are = far_whole read asked points tell l o.sockets link o.rows order (by_actors l order link o)

  come_first : CountsAreOfTheItems → (near far : Logs) → AreBrought f g before near far → BothComeFirst f g (kept_by l true) (kept_by l false) near far
  come_first counts near far brought = record {
    near = λ key.
        first_of_first _ (of_it g key (near_items before)) _ (brought.near.as_posted.in_order key)
        (subst (AreFirstOf (of_it g key (near_items before))) (posts_counted counts l link true g (near_items all) near_are key)
        (first_posts g key (near_items all) (near_items before) (near_items rest.0) (ap near_items rest.1 ∙ near_append before rest.0)));
    far = λ key.
        first_of_first _ (of_it f key (far_items before)) _
        (subst (λ is. AreFirstOf (map unnumbered (heard.of_key g.node.number key (all_of near))) (of_it f key is)) (near_turned before) (brought.far.as_posted.in_order key))
        (subst (AreFirstOf (of_it f key (far_items before))) (posts_counted counts l link false f (far_items all) far_are key)
        (first_posts f key (far_items all) (far_items before) (far_items rest.0) (ap far_items rest.1 ∙ far_append before rest.0)));
  }

  pub is_a_run : LosslessBytesAreNeverReset → ObservedIsARun → ObservedIsARunToAMark → CountsAreOfTheItems → (near_logs far_logs : Logs) → IsWovenToAMark l order near_logs far_logs
  is_a_run never run to_a_mark counts near_logs far_logs = record {
    never_reset = never_reset_before gives f g nodes (order_of l order) fits link.joined.peers never;
    dispatched = λ near far logs.
        come_first counts near far (run f g before near far nodes (history_before gives f g nodes (order_of l order) fits link.joined.peers) logs);
    observed = to_a_mark f g all near_logs far_logs nodes (lawful_order gives f g nodes (order_of l order) fits link.joined.peers);
  }

pub a_run_to_a_mark : ReadWasWritten → AsksComeFirst → OrdersGivePoints → TrailsTellEachPoint → WovenBytesFit → BytesGiveFits → LosslessBytesAreNeverReset → ObservedIsARun → ObservedIsARunToAMark →
    CountsAreOfTheItems → WovenIsARunToAMark
a_run_to_a_mark read asked points tell bytes gives never run to_a_mark counts l order near_logs far_logs nodes link o =
    is_a_run read asked points tell bytes gives l order nodes link o never run to_a_mark counts near_logs far_logs
