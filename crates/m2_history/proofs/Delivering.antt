-- What is dispatched of a key is the first of what was posted of it, in the words of the counts.
use Rattle.std.proofs.Common.{◌≡◌, ◌≤◌, List, length, map, sym, ap, ◌∙◌, subst, arith}
use Rattle.std.proofs.lemmas.List.{length-append, length-map}
use Rattle.m2_channel.specs.Channel as channel
use Rattle.m2_channel.specs.Observed.{Logs, all_of, handed, heard_from, observed, turned}
use Rattle.m2_channel.specs.ObservedLaws.{IsBrought, ObservedIsARun}
use Rattle.m2_channel.proofs.Observing.{heard_keys}
use Rattle.m2_channel.proofs.Orders.{far_after_turned, near_turned}
use Rattle.m2_channel.proofs.Through.{posted_keys}
use Rattle.m2_channel.specs.m2_never_reset.Order.{AreFirstOf}
use Rattle.m2_dispatch.specs.Heard as heard
use Rattle.m2_journal.specs.Items.{items_of}
use Rattle.m2_journal.specs.Replay.{AreLawful, after_items}
use Rattle.m2_journal.specs.SideFacts.{SideFacts}
use Rattle.m2_journal.specs.State.{State, start}
use Rattle.m2_message.specs.Message.{Content, unnumbered}
use Rattle.m2_channel.specs.m2_never_reset.Orders as orders
use Rattle.m2_channel.specs.m2_never_reset.Orders.{SideItem, near_items, far_items, far_after, posts_in}
use Rattle.m2_policy.specs.declared.path.Key.{Key}
use Rattle.m2_history.specs.Counted.{accepted, posted}
use Rattle.m2_history.specs.Delivered.{Kept, IsCounted, IsDelivered, PostedIsDelivered}
use Rattle.m2_history.proofs.Counting.{counts_are}

-- the first ones are no more
no_more : (some all : List Content) → AreFirstOf some all → length some ≤ length all
no_more some all first = let sizes = ap length first.1 ∙ length-append some first.0 in omega arith

-- one direction
delivered : (f g : SideFacts) (order : List SideItem) (near far : Kept) (logs : Logs) → IsBrought f g order logs → IsCounted f near → IsCounted g far →
    near_items order ≡ items_of near.sources near.journal → far_after g order ≡ after_items g (items_of far.sources far.journal) (start g) → IsDelivered f g near far logs
delivered f g order near far logs brought near_counted far_counted near_is far_is =
    let peer = f.node.number in
    let log = all_of logs in
    let posted_are : (key : Key) → orders.of_key g key (map unnumbered (posts_in (near_items order))) ≡ map unnumbered (posted near.plan g.node.fast key near.journal) =
    λ key. ap (λ is. orders.of_key g key (map unnumbered (posts_in is))) near_is ∙ sym (near_counted.posted g key) in
    let accepted_are : (key : Key) → length (channel.of_key key (handed (far_after g order).deliveries)) ≡ accepted key far.journal =
    λ key. ap (λ (s : State). length (channel.of_key key (handed s.deliveries))) far_is ∙ sym (far_counted.accepted key) in
    let first : (key : Key) → AreFirstOf (channel.of_key key (heard_from peer log)) (channel.of_key key (handed (far_after g order).deliveries)) =
    λ key. subst (λ l. AreFirstOf (channel.of_key key (heard_from peer log)) (channel.of_key key l)) brought.acceptances
    (subst (λ l. AreFirstOf (channel.of_key key l) (channel.of_key key (channel.acceptances (observed f g order logs)))) brought.dispatches (brought.delivered.dispatched key)) in
    let over : (key : Key) → AreFirstOf (channel.of_key key (handed (far_after g order).deliveries)) (channel.of_key key (channel.posts (observed f g order logs))) =
    λ key. subst (λ l. AreFirstOf (channel.of_key key l) (channel.of_key key (channel.posts (observed f g order logs)))) brought.acceptances (brought.delivered.accepted key) in
    record {
      in_order = λ key. subst (AreFirstOf (map unnumbered (heard.of_key peer key log))) (posted_are key) (brought.as_posted.in_order key);
      few = λ key.
          let sizes : length (channel.of_key key (heard_from peer log)) ≡ length (heard.of_key peer key log) =
          ap length (heard_keys peer key log) ∙ length-map (heard.of_key peer key log) unnumbered in
          omega (arith, sizes, no_more _ _ (first key), accepted_are key);
      accepted = λ key.
          let all : channel.of_key key (channel.posts (observed f g order logs)) ≡ map unnumbered (posted near.plan g.node.fast key near.journal) =
          ap (channel.of_key key) brought.posts ∙ (posted_keys g key (posts_in (near_items order)) ∙ posted_are key) in
          let sizes = ap length all ∙ length-map (posted near.plan g.node.fast key near.journal) unnumbered in
          omega (arith, sizes, no_more _ _ (over key), accepted_are key);
    }

pub deliver : ObservedIsARun → PostedIsDelivered
deliver run f g order near far near_logs far_logs nodes history are logs =
    let brought = run f g order near_logs far_logs nodes history logs in
    let near_counted = counts_are f near are.near_plan (subst (λ is. AreLawful f is (start f)) are.near_items history.near_lawful) in
    let far_counted = counts_are g far are.far_plan (subst (λ is. AreLawful g is (start g)) are.far_items history.far_lawful) in
    record {
      near = delivered f g order near far far_logs brought.near near_counted far_counted are.near_items (ap (λ is. after_items g is (start g)) are.far_items);
      far = delivered g f (turned order) far near near_logs brought.far far_counted near_counted (near_turned order ∙ are.far_items)
          (far_after_turned f order ∙ ap (λ is. after_items f is (start f)) are.near_items);
    }
