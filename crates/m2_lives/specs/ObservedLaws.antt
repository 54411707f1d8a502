-- What is promised of two journals of a lossless link in an order that fits, with mark-downs by either side: each life of a
-- side accepts from the one life of its name of the other side, and what counts acknowledged was accepted in that life.
use Rattle.std.specs.Prelude.{◌≡◌, ◌≢◌, ℕ, ◌≤◌, ◌⊎◌, true, false, if◌then◌else◌, List, [], ◌∷◌, ◌++◌, length, map, Option, Some, None}
use Rattle.m2_bytes_fit.specs.Orders.{OrderEntry, entries_of}
use Rattle.m2_channel.specs.Channel.{KeyedMessage}
use Rattle.m2_channel.specs.Observed.{Logs, all_of, observed}
use Rattle.m2_channel.specs.ObservedLaws.{posted_to}
use Rattle.m2_journal.specs.Items as item
use Rattle.m2_journal.specs.Items.{JournalItem}
use Rattle.m2_journal.specs.Replay.{AreLawful, after_items}
use Rattle.m2_journal.specs.SideFacts.{SideFacts}
use Rattle.m2_journal.specs.State.{State, start}
use Rattle.m2_journal.specs.Steps.{after, event_at}
use Rattle.m2_journal.specs.m2_fabric.declared.socket.SocketId.{SocketId}
use Rattle.m2_journal.specs.m2_fabric.Sockets.{goes_to}
use Rattle.m2_journal.specs.m2_message.Message.{Content, unnumbered}
use Rattle.m2_journal.specs.m2_session.declared.event.Event.{Event}
use Rattle.m2_journal.specs.m2_session.Steps.{step_of}
use Rattle.m2_channel.specs.Lossy.{IsByteOrder}
use Rattle.m2_never_reset.specs.Order.{AreFirstOf}
use Rattle.m2_never_reset.specs.Orders.{SideItem, near_item, far_item, near_items, far_items, near_after, far_after, posts_in, AreNodes, FitThroughout}
use Rattle.m2_lives.specs.Lives.{new_lives, after_in_lives, Has, of_life, posts, dispatches}
use Rattle.m2_lives.specs.LivesLaws.{AreNames}
use Rattle.m2_lives.specs.Observed.{heard_in_lives, handed_in_lives, observed_in_lives, without_lives, without_acknowledgements}

-- ---- an order

-- Both journals are lawful, and the order of their entries fits. Either side may be marked down.
pub record IsHistoryOfLives (f g : SideFacts) (order : List SideItem) : Type 0 where
  pub near_lawful : AreLawful f (near_items order) (start f)
  pub far_lawful : AreLawful g (far_items order) (start g)
  pub fits : FitThroughout f g order (start f) (start g)

-- so it is where bytes fit throughout, and the two sides dial different places
abbrev pub BytesGiveLives : Type 0
BytesGiveLives = (f g : SideFacts) (order : List OrderEntry) → AreNodes f g → ((k : SocketId) → goes_to f.peer k ≡ true → goes_to g.peer k ≡ false) →
    IsByteOrder f g order → IsHistoryOfLives f g (entries_of order)

-- ---- lives

-- a life of a side, with the messages that got a number in it, each without the two numbers that the runtime writes
pub record NumberedLife : Type 0 where
  pub name : ℕ
  pub numbered : List Content

-- the life in which a record is
abbrev pub current_life : State → NumberedLife
current_life s = record { name = s.life; numbered = map unnumbered s.out.numbered }

-- the one that an entry ends, which sets numbers back
abbrev pub ended_by : Option Event → State → List NumberedLife
ended_by (Some e) s = if (step_of s.session e).effects.set_back then current_life s ∷ [] else []
ended_by None s = []

-- the lives that these entries end, in order, and all lives behind them
abbrev pub ended_lives : SideFacts → List JournalItem → State → List NumberedLife
ended_lives f [] s = []
ended_lives f (i ∷ is) s = ended_by (event_at f i s) s ++ ended_lives f is (after f i s)

abbrev pub lives_of : SideFacts → List JournalItem → List NumberedLife
lives_of f items = ended_lives f items (start f) ++ current_life (after_items f items (start f)) ∷ []

-- what a record has accepted in the life of this name
abbrev pub accepted_of : (name : ℕ) → State → List KeyedMessage
accepted_of name s = of_life name (handed_in_lives s.deliveries)

-- No two lives of a side have one name, but 0, in which nothing is accepted. What a side has accepted in a life is the first ones
-- of what the other side has numbered in its life of that name, in order, each once; where there is none, it is nothing.
pub record AcceptsInLives (reader sender : SideFacts) (read sent : List JournalItem) : Type 0 where
  pub names : AreNames (map (λ (l : NumberedLife). l.name) (lives_of reader read))
  pub unnamed : accepted_of 0 (after_items reader read (start reader)) ≡ []
  pub accepted : (name : ℕ) → let took = map (λ (m : KeyedMessage). m.message) (accepted_of name (after_items reader read (start reader))) in
      (took ≡ []) ⊎ Has (λ (l : NumberedLife). (l.name ≡ name) × AreFirstOf took l.numbered) (lives_of sender sent)

pub record BothAcceptInLives (f g : SideFacts) (order : List SideItem) : Type 0 where
  pub near : AcceptsInLives f g (near_items order) (far_items order)
  pub far : AcceptsInLives g f (far_items order) (near_items order)

abbrev pub EachLifeAcceptsFromOne : Type 0
EachLifeAcceptsFromOne = (f g : SideFacts) (order : List SideItem) → AreNodes f g → IsHistoryOfLives f g order → BothAcceptInLives f g order

-- ---- acknowledgements

-- how many messages it has accepted in that life
abbrev pub accepted_in : (name : ℕ) → State → ℕ
accepted_in name s = length (accepted_of name s)

-- The number that an Acked entry names is at most that of the messages that the other side has accepted by then in its life of the
-- same name, which isn't 0.
pub record AcknowledgedInItsLife (f g : SideFacts) (before : List SideItem) (number : ℕ) : Type 0 where
  pub near : IsHistoryOfLives f g (before ++ near_item (item.acked number) ∷ []) →
      ((near_after f before).life ≢ 0) × (number ≤ accepted_in (near_after f before).life (far_after g before))
  pub far : IsHistoryOfLives f g (before ++ far_item (item.acked number) ∷ []) →
      ((far_after g before).life ≢ 0) × (number ≤ accepted_in (far_after g before).life (near_after f before))

abbrev pub AcknowledgedIsAcceptedInItsLife : Type 0
AcknowledgedIsAcceptedInItsLife = (f g : SideFacts) (before : List SideItem) (number : ℕ) → AreNodes f g → AcknowledgedInItsLife f g before number

-- ---- without lives

-- Of any order and logs: but for acknowledgements, what is observed with lives is what is observed without them. So without a mark
-- all holds that is promised of the channel without lives.
abbrev pub LivesShowTheSame : Type 0
LivesShowTheSame = (f g : SideFacts) (order : List SideItem) (logs : Logs) →
    without_lives (observed_in_lives f g order logs) ≡ without_acknowledgements (observed f g order logs)

-- ---- what is observed

-- Of any order and logs: the current lives have the names of those of the two records, and what is posted and dispatched is what
-- the near side has posted, each message with its key at the far side, and what the far side's logs tell.
pub record IsObservedInLives (f g : SideFacts) (order : List SideItem) (logs : Logs) : Type 0 where
  pub sends : (after_in_lives (observed_in_lives f g order logs) new_lives).sends.name ≡ (near_after f order).life
  pub receives : (after_in_lives (observed_in_lives f g order logs) new_lives).receives.name ≡ (far_after g order).life
  pub posts : posts (observed_in_lives f g order logs) ≡ posted_to g (posts_in (near_items order))
  pub dispatches : dispatches (observed_in_lives f g order logs) ≡ heard_in_lives f.node.number (all_of logs)

abbrev pub LivesAreNamed : Type 0
LivesAreNamed = (f g : SideFacts) (order : List SideItem) (logs : Logs) → IsObservedInLives f g order logs
