-- What is promised of two journals in one order: what is dispatched of a key is the first of what was posted of it, in the words of
-- the counts of either side.
use Rattle.std.specs.Prelude.{◌≡◌, ◌≤◌, List, length, map}
use Rattle.m2_channel.specs.Channel as channel
use Rattle.m2_channel.specs.Observed.{Logs, all_of, handed}
use Rattle.m2_channel.specs.ObservedLaws.{AreLogs}
use Rattle.m2_channel.specs.m2_never_reset.Order.{AreFirstOf}
use Rattle.m2_dispatch.specs.Heard as heard
use Rattle.m2_journal.specs.declared.entry.Entry.{Entry}
use Rattle.m2_journal.specs.declared.facts.PlanStep.{PlanStep}
use Rattle.m2_journal.specs.Items.{Sources, items_of}
use Rattle.m2_journal.specs.Plan.{planned}
use Rattle.m2_journal.specs.Replay.{AreLawful, after_items}
use Rattle.m2_journal.specs.SideFacts.{SideFacts}
use Rattle.m2_journal.specs.State.{start}
use Rattle.m2_message.specs.Message.{unnumbered}
use Rattle.m2_channel.specs.m2_never_reset.Orders as orders
use Rattle.m2_channel.specs.m2_never_reset.Orders.{SideItem, near_items, far_items, posts_in, AreNodes, IsHistory}
use Rattle.m2_policy.specs.declared.path.Key.{Key}
use Rattle.m2_history.specs.Counted.{posted, accepted}

-- a side's plan, its journal, and what that speaks of
pub record Kept : Type 0 where
  pub plan : List PlanStep
  pub journal : List Entry
  pub sources : Sources

-- ---- of one journal

-- What is counted of a lawful journal is what its entries post, and what the messages are that it leaves handed on.
pub record IsCounted (f : SideFacts) (k : Kept) : Type 0 where
  pub posted : (g : SideFacts) (key : Key) →
      map unnumbered (posted k.plan g.node.fast key k.journal) ≡ orders.of_key g key (map unnumbered (posts_in (items_of k.sources k.journal)))
  pub accepted : (key : Key) →
      accepted key k.journal ≡ length (channel.of_key key (handed (after_items f (items_of k.sources k.journal) (start f)).deliveries))

abbrev pub CountsAreOfTheItems : Type 0
CountsAreOfTheItems = (f : SideFacts) (k : Kept) → k.sources.plan ≡ map planned k.plan → AreLawful f (items_of k.sources k.journal) (start f) → IsCounted f k

-- ---- of two, in one order

-- these two are the journals of the order
pub record AreOfOrder (order : List SideItem) (near far : Kept) : Type 0 where
  pub near_plan : near.sources.plan ≡ map planned near.plan
  pub far_plan : far.sources.plan ≡ map planned far.plan
  pub near_items : near_items order ≡ items_of near.sources near.journal
  pub far_items : far_items order ≡ items_of far.sources far.journal

-- From the near side to the far side, of each key: what is dispatched is the first of what was posted, in order, each once, and no
-- more than was accepted. A message is the same whatever numbers the runtime wrote into it.
pub record IsDelivered (f g : SideFacts) (near far : Kept) (logs : Logs) : Type 0 where
  pub in_order : (key : Key) →
      AreFirstOf (map unnumbered (heard.of_key f.node.number key (all_of logs))) (map unnumbered (posted near.plan g.node.fast key near.journal))
  pub few : (key : Key) → length (heard.of_key f.node.number key (all_of logs)) ≤ accepted key far.journal
  pub accepted : (key : Key) → accepted key far.journal ≤ length (posted near.plan g.node.fast key near.journal)

pub record AreDelivered (f g : SideFacts) (a b : Kept) (a_logs b_logs : Logs) : Type 0 where
  pub near : IsDelivered f g a b b_logs
  pub far : IsDelivered g f b a a_logs

-- so it is in every history of a lossless link without a mark-down
abbrev pub PostedIsDelivered : Type 0
PostedIsDelivered = (f g : SideFacts) (order : List SideItem) (near far : Kept) (near_logs far_logs : Logs) → AreNodes f g → IsHistory f g order →
    AreOfOrder order near far → AreLogs f g order near_logs far_logs → AreDelivered f g near far near_logs far_logs
