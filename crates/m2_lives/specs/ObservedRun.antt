-- What is to be promised of two journals of a lossless link in an order that fits, with mark-downs by either side: what is
-- observed in either direction is a run of the ordered channel with lives.
use Rattle.std.specs.Prelude.{◌≡◌, ℕ, ◌==◌, List, length, map, take}
use Rattle.std.specs.List.{filter}
use Rattle.m2_channel.specs.Observed.{Logs, all_of, turned}
use Rattle.m2_channel.specs.ObservedLaws.{posted_to}
use Rattle.m2_channel.specs.m2_dispatch.Heard.{is_key}
use Rattle.m2_channel.specs.m2_dispatch.m2_message.Message.{Content}
use Rattle.m2_channel.specs.m2_dispatch.m2_policy.declared.path.Key.{Key}
use Rattle.m2_channel.specs.m2_never_reset.Orders.{SideItem, near_items, near_after, far_after, posts_in, AreNodes}
use Rattle.m2_channel.specs.m2_never_reset.m2_journal.Lawful.{key_of}
use Rattle.m2_channel.specs.m2_never_reset.m2_journal.SideFacts.{SideFacts}
use Rattle.m2_channel.specs.m2_never_reset.m2_journal.State.{State}
use Rattle.m2_lives.specs.Lives.{ReceivingLife, new_lives, receiving_lives, after_in_lives, IsRunOfLives, LifeMessage, posts, acceptances, dispatches}
use Rattle.m2_lives.specs.LivesLaws.{ArePiecesOf, IsDeliveredInLives}
use Rattle.m2_lives.specs.Observed.{observed_in_lives, heard_in_lives, handed_in_lives, stretches}
use Rattle.m2_lives.specs.ObservedLaws.{IsHistoryOfLives}

-- ---- what a log has to be

-- those of a key, in order
abbrev pub with_key : Key → List LifeMessage → List LifeMessage
with_key key xs = filter (λ (x : LifeMessage). is_key x.message.key key) xs

-- Of each key, what a dispatcher was called with of a side's peer is one piece of each stretch between two of which the side has
-- thrown away what wasn't dispatched yet, each piece the first ones of what it accepted in that stretch.
abbrev pub IsLogInLives : (peer : ℕ) → Logs → State → Type 0
IsLogInLives peer logs s = (key : Key) → ArePiecesOf (with_key key (heard_in_lives peer (all_of logs))) (map (with_key key) (stretches s.deliveries))

pub record AreLogsInLives (f g : SideFacts) (order : List SideItem) (near_logs far_logs : Logs) : Type 0 where
  pub near : IsLogInLives g.node.number near_logs (near_after f order)
  pub far : IsLogInLives f.node.number far_logs (far_after g order)

-- ---- one direction

-- those of the life of this name, in order
abbrev pub in_life : ℕ → List LifeMessage → List LifeMessage
in_life name xs = filter (λ (x : LifeMessage). x.life == name) xs

-- of each key how many of these
abbrev pub count_of_key : SideFacts → Key → List Content → ℕ
count_of_key g key ms = length (filter (λ m. is_key (key_of g m) key) ms)

-- from the near side to the far side
pub record IsBroughtInLives (f g : SideFacts) (order : List SideItem) (logs : Logs) : Type 0 where
  -- what is observed is a run of the channel with lives, in which no reset comes without a mark before it
  pub run : IsRunOfLives (observed_in_lives f g order logs) new_lives
  pub delivered : IsDeliveredInLives (observed_in_lives f g order logs)
  -- it posts what the near side has posted, accepts what the far side has accepted in each of its lives, and dispatches what the
  -- logs tell
  pub posts : posts (observed_in_lives f g order logs) ≡ posted_to g (posts_in (near_items order))
  pub acceptances : acceptances (observed_in_lives f g order logs) ≡ handed_in_lives (far_after g order).deliveries
  pub dispatches : dispatches (observed_in_lives f g order logs) ≡ heard_in_lives f.node.number (all_of logs)
  -- and of each key these are one piece of each life, in order, each the first ones of what was accepted in it
  pub pieces : (key : Key) → ArePiecesOf (with_key key (heard_in_lives f.node.number (all_of logs)))
      (map (λ (l : ReceivingLife). with_key key (in_life l.name (handed_in_lives (far_after g order).deliveries))) (receiving_lives (after_in_lives (observed_in_lives f g order logs) new_lives)))
  -- the current lives have the names of those of the two records
  pub sends : (after_in_lives (observed_in_lives f g order logs) new_lives).sends.name ≡ (near_after f order).life
  pub receives : (after_in_lives (observed_in_lives f g order logs) new_lives).receives.name ≡ (far_after g order).life
  -- what of the current life is acknowledged is what the near side counts as that
  pub acknowledged : (key : Key) → (after_in_lives (observed_in_lives f g order logs) new_lives).sends.acknowledged key
      ≡ count_of_key g key (take (near_after f order).out.queue.base (near_after f order).out.numbered)

pub record AreBroughtInLives (f g : SideFacts) (order : List SideItem) (near_logs far_logs : Logs) : Type 0 where
  pub near : IsBroughtInLives f g order far_logs
  pub far : IsBroughtInLives g f (turned order) near_logs

abbrev pub ObservedIsARunOfLives : Type 0
ObservedIsARunOfLives = (f g : SideFacts) (order : List SideItem) (near_logs far_logs : Logs) → AreNodes f g → IsHistoryOfLives f g order →
    AreLogsInLives f g order near_logs far_logs → AreBroughtInLives f g order near_logs far_logs
