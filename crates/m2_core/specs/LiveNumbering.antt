-- The next message of a queue, composed on a feed.
use Rattle.std.specs.Prelude.{◌≡◌, ℕ, ◌<◌, ◌≤◌, Option, Some, length, Result, Ok, Err}
use Rattle.m2_bytes.specs.declared.memory.NoMemory as memory
use Rattle.m2_control.specs.declared.fields.TheConstants.{GREATEST_NUMBER}
use Rattle.m2_feed.specs.FeedNow.{FeedNow}
use Rattle.m2_message.specs.Message.{Content}
use Rattle.m2_message.specs.declared.message.TheConstants.{MOST_PART}
use Rattle.m2_queues.specs.OutQueues.{Outgoing, Queue, after_next, after_sent, message_at, next_number}
use Rattle.m2_core.specs.OnFeed.{ChangesRoom, ComposesMessage}

-- the next message has a number that isn't above the greatest
abbrev pub HasNumber : Queue → Type 0
HasNumber q = (n : ℕ) × (next_number q ≡ Some n) × (n ≤ GREATEST_NUMBER)

-- the parts of a message fit in a frame
pub record FitsFrame (m : Content) : Type 0 where
  pub front : length m.front ≤ MOST_PART
  pub middle : length m.middle ≤ MOST_PART
  pub tail : length m.tail ≤ MOST_PART

-- those of the next message do
pub record IsNextSendable (q : Queue) : Type 0 where
  pub fits : (n : ℕ) (m : Content) → next_number q ≡ Some n → message_at (after_next q) n ≡ Some m → FitsFrame m

-- the next message of a queue goes onto a feed
pub record Numbers (number last : ℕ) (before after : Outgoing) (old new : Option FeedNow) : Type 0 where
  pub message : Content
  pub next : next_number before.queue ≡ Some number
  pub fits : number ≤ GREATEST_NUMBER
  pub there : message_at (after_next before.queue) number ≡ Some message
  pub unsent : (after_next before.queue).cursor < length (after_next before.queue).kept
  pub queue : after ≡ record before { queue = after_sent (after_next before.queue) }
  pub composes : ComposesMessage number last message old new

-- where memory lasts
abbrev pub NumbersOn : Result ℕ memory.NoMemory → (last : ℕ) → (before after : Outgoing) → (old new : Option FeedNow) → Type 0
NumbersOn (Ok number) last before after old new = Numbers number last before after old new
NumbersOn (Err _) last before after old new = (after ≡ before) × ChangesRoom old new
