-- There is something to hear in a life that a mark-down ends.
use Rattle.std.specs.Prelude.{◌≡◌, ◌≢◌, ℕ, true, List, [], ◌∷◌, ◌++◌, Some}
use Rattle.m2_channel.specs.Channel.{KeyedMessage}
use Rattle.m2_channel.specs.Observed.{Logs, all_of}
use Rattle.m2_journal.specs.Items as item
use Rattle.m2_journal.specs.Plan.{to_go_down}
use Rattle.m2_journal.specs.SideFacts.{SideFacts}
use Rattle.m2_journal.specs.m2_message.Message.{Content}
use Rattle.m2_never_reset.specs.Orders.{SideItem, far_item, near_items, AreNodes}
use Rattle.m2_lives.specs.LifeAfterLife.{sending_side}
use Rattle.m2_lives.specs.Lives.{held_in}
use Rattle.m2_lives.specs.Observed.{heard_in_lives}
use Rattle.m2_lives.specs.ObservedLaws.{IsHistoryOfLives}
use Rattle.m2_lives.specs.ObservedRun.{AreLogsInLives}

-- a history in which one message is dispatched, behind which the side that has accepted it is marked down; the other side's life of
-- that name holds it first
pub record AMessageIsHeardInALife : Type 0 where
  pub f : SideFacts
  pub g : SideFacts
  pub before : List SideItem
  pub near_logs : Logs
  pub far_logs : Logs
  pub nodes : AreNodes f g
  pub history : IsHistoryOfLives f g (before ++ far_item (item.down true (Some to_go_down)) ∷ [])
  pub logs : AreLogsInLives f g (before ++ far_item (item.down true (Some to_go_down)) ∷ []) near_logs far_logs
  pub life : ℕ
  pub message : KeyedMessage
  pub kept : life ≢ 0
  pub dispatched : heard_in_lives f.node.number (all_of far_logs) ≡ record { life = life; message = message } ∷ []
  pub more : List Content
  pub held : held_in life message.key (sending_side f g (near_items (before ++ far_item (item.down true (Some to_go_down)) ∷ []))) ≡ message.message ∷ more
