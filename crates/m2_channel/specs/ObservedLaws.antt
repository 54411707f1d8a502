-- What is promised of the observed run: for every two journals of a lossless link without a mark-down, in every order of
-- their entries that fits, it is a run of the ordered channel without a reset; so messages come over as they were posted.
use Rattle.std.specs.Prelude.{◌≡◌, ℕ, ◌≤◌, List, [], ◌∷◌, ◌++◌, length, map}
use Rattle.std.specs.List.{AllByRecursion}
use Rattle.m2_dispatch.specs.Heard as heard
use Rattle.m2_dispatch.specs.Heard.{Heard}
use Rattle.m2_dispatch.specs.m2_message.Message.{Content, unnumbered}
use Rattle.m2_dispatch.specs.m2_policy.declared.path.Key.{Key}
use Rattle.m2_never_reset.specs.m2_journal.Items as item
use Rattle.m2_never_reset.specs.m2_journal.Lawful.{key_of}
use Rattle.m2_never_reset.specs.m2_journal.Replay.{AreLawful}
use Rattle.m2_never_reset.specs.m2_journal.SideFacts.{SideFacts}
use Rattle.m2_never_reset.specs.m2_journal.State.{State, start}
use Rattle.m2_never_reset.specs.Order.{AreFirstOf}
use Rattle.m2_never_reset.specs.LinkOf.{letters}
use Rattle.m2_never_reset.specs.Orders as orders
use Rattle.m2_never_reset.specs.Orders.{SideItem, near_item, far_item, near_items, far_items, near_after, far_after, posts_in, trouble_in, AreNodes, FitThroughout, IsHistory, IsNoFullReset}
use Rattle.m2_channel.specs.Channel as channel
use Rattle.m2_channel.specs.Channel.{KeyedMessage, keyed, new_channel, after_steps, IsRun, IsNoMark, IsNoReset, unmarked, posts, acceptances, dispatches}
use Rattle.m2_channel.specs.ChannelLaws.{IsDelivered}
use Rattle.m2_channel.specs.Observed.{Logs, all_of, shown_from, observed, heard_from, turned, before_down, handed, IsNoDiscard, IsLetter}

-- ---- what a log has to be

-- Where no messages were thrown away, of each key what a dispatcher was called with of a side's peer is the first ones of what
-- the side accepted, in order, each once. A message is the same whatever numbers the runtime wrote into it.
abbrev pub IsLogOf : (peer : ℕ) → List Heard → State → Type 0
IsLogOf peer log s = AllByRecursion IsNoDiscard s.deliveries → (key : Key) →
    AreFirstOf (map unnumbered (heard.of_key peer key log)) (channel.of_key key (handed s.deliveries))

-- so it is of both dispatchers of a side together
abbrev pub AreLogsOf : (peer : ℕ) → Logs → State → Type 0
AreLogsOf peer logs s = IsLogOf peer (all_of logs) s

-- ---- one direction

-- what was posted, each message with its key at the far side
abbrev pub posted_to : SideFacts → List Content → List KeyedMessage
posted_to g ms = map (λ m. keyed (key_of g m) m) ms

-- what is dispatched at the far side of what the near side posted
pub record ComeAsPosted (f g : SideFacts) (posted : List Content) (logs : Logs) : Type 0 where
  -- of each key the first ones that were posted, in order, each once
  pub in_order : (key : Key) →
      AreFirstOf (map unnumbered (heard.of_key f.node.number key (all_of logs))) (orders.of_key g key (map unnumbered posted))
  -- no more than was posted; and where it is as many, all of it
  pub few : length (heard_from f.node.number (all_of logs)) ≤ length posted
  pub done : length (heard_from f.node.number (all_of logs)) ≡ length posted → (key : Key) →
      map unnumbered (heard.of_key f.node.number key (all_of logs)) ≡ orders.of_key g key (map unnumbered posted)

-- from the near side to the far side
pub record IsBrought (f g : SideFacts) (order : List SideItem) (logs : Logs) : Type 0 where
  -- what is observed is a run of the channel, without a mark and without a reset
  pub run : IsRun (observed f g order logs) new_channel
  pub no_mark : AllByRecursion IsNoMark (observed f g order logs)
  pub delivered : IsDelivered (observed f g order logs)
  -- it posts what the near side has posted, accepts what the far side has accepted, and dispatches what the logs tell
  pub posts : posts (observed f g order logs) ≡ posted_to g (posts_in (near_items order))
  pub acceptances : acceptances (observed f g order logs) ≡ handed (far_after g order).deliveries
  pub dispatches : dispatches (observed f g order logs) ≡ heard_from f.node.number (all_of logs)
  -- what the near side counts as acknowledged is what the channel has acknowledged
  pub acknowledged : (after_steps (observed f g order logs) new_channel).acknowledged ≡ (near_after f order).out.queue.base
  -- the far side throws nothing away, and isn't told that the near side has reset the session
  pub letters_only : AllByRecursion IsLetter (far_after g order).deliveries
  -- so messages come over as they were posted
  pub as_posted : ComeAsPosted f g (posts_in (near_items order)) logs

-- ---- both

pub record AreBrought (f g : SideFacts) (order : List SideItem) (near_logs far_logs : Logs) : Type 0 where
  pub near : IsBrought f g order far_logs
  pub far : IsBrought g f (turned order) near_logs

pub record AreLogs (f g : SideFacts) (order : List SideItem) (near_logs far_logs : Logs) : Type 0 where
  pub near : AreLogsOf g.node.number near_logs (near_after f order)
  pub far : AreLogsOf f.node.number far_logs (far_after g order)

abbrev pub ObservedIsARun : Type 0
ObservedIsARun = (f g : SideFacts) (order : List SideItem) (near_logs far_logs : Logs) → AreNodes f g → IsHistory f g order →
    AreLogs f g order near_logs far_logs → AreBrought f g order near_logs far_logs

-- ---- with mark-downs

-- Both journals are lawful, and the order of their entries fits up to the first that marks a side down.
pub record IsLawfulOrder (f g : SideFacts) (order : List SideItem) : Type 0 where
  pub near_lawful : AreLawful f (near_items order) (start f)
  pub far_lawful : AreLawful g (far_items order) (start g)
  pub fits : FitThroughout f g (before_down order) (start f) (start g)

-- What is observed is a run of the channel, in which no reset comes without a mark before it; and up to the first mark
-- all comes over as it was posted.
pub record IsBroughtToAMark (f g : SideFacts) (order : List SideItem) (logs : Logs) : Type 0 where
  pub run : IsRun (observed f g order logs) new_channel
  pub delivered : IsDelivered (unmarked (observed f g order logs))

pub record AreBroughtToAMark (f g : SideFacts) (order : List SideItem) (near_logs far_logs : Logs) : Type 0 where
  pub near : IsBroughtToAMark f g order far_logs
  pub far : IsBroughtToAMark g f (turned order) near_logs
  -- the entries before the first mark-down are a history, and whatever the dispatchers were called with of what was accepted
  -- by then is brought over as without a mark
  pub before : IsHistory f g (before_down order)
  pub dispatched : (near far : Logs) → AreLogs f g (before_down order) near far → AreBrought f g (before_down order) near far

abbrev pub ObservedIsARunToAMark : Type 0
ObservedIsARunToAMark = (f g : SideFacts) (order : List SideItem) (near_logs far_logs : Logs) → AreNodes f g →
    IsLawfulOrder f g order → AreLogs f g order near_logs far_logs → AreBroughtToAMark f g order near_logs far_logs

-- ---- acknowledgements

-- The number that an Acked entry names is at most that of the messages that the other side has accepted by then.
pub record AcknowledgedWasAccepted (f g : SideFacts) (before : List SideItem) (number : ℕ) : Type 0 where
  pub near : IsHistory f g (before ++ near_item (item.acked number) ∷ []) → number ≤ length (letters (far_after g before).deliveries)
  pub far : IsHistory f g (before ++ far_item (item.acked number) ∷ []) → number ≤ length (letters (near_after f before).deliveries)

abbrev pub AcknowledgedIsAccepted : Type 0
AcknowledgedIsAccepted = (f g : SideFacts) (before : List SideItem) (number : ℕ) → AreNodes f g → AcknowledgedWasAccepted f g before number

-- ---- resets

-- Of the entries of an order, wherever the sides stand: a reset is observed exactly where one throws messages away, sets
-- numbers back after an acceptance, or obeys a full reset.
pub record ShowsResets (f g : SideFacts) (order : List SideItem) (near far : State) : Type 0 where
  pub trouble : AllByRecursion IsNoReset (shown_from f g order near far) → trouble_in f g order near far ≡ 0
  pub near_obeys : AllByRecursion IsNoReset (shown_from f g order near far) → AllByRecursion IsNoFullReset (near_items order)
  pub far_obeys : AllByRecursion IsNoReset (shown_from f g order near far) → AllByRecursion IsNoFullReset (far_items order)
  pub none : trouble_in f g order near far ≡ 0 → AllByRecursion IsNoFullReset (near_items order) → AllByRecursion IsNoFullReset (far_items order) →
      AllByRecursion IsNoReset (shown_from f g order near far)

abbrev pub ResetsAreObserved : Type 0
ResetsAreObserved = (f g : SideFacts) (order : List SideItem) (near far : State) → ShowsResets f g order near far

-- ---- there is something to observe

-- a history in which one message is posted, accepted, dispatched and acknowledged
pub record AMessageIsObserved : Type 0 where
  pub f : SideFacts
  pub g : SideFacts
  pub order : List SideItem
  pub near_logs : Logs
  pub far_logs : Logs
  pub nodes : AreNodes f g
  pub history : IsHistory f g order
  pub logs : AreLogs f g order near_logs far_logs
  pub brought : AreBrought f g order near_logs far_logs
  pub message : KeyedMessage
  pub more : List Content
  pub posted : channel.of_key message.key (posts (observed f g order far_logs)) ≡ message.message ∷ more
  pub accepted : acceptances (observed f g order far_logs) ≡ message ∷ []
  pub dispatched : dispatches (observed f g order far_logs) ≡ message ∷ []
  pub acknowledged : (after_steps (observed f g order far_logs) new_channel).acknowledged ≡ 1
