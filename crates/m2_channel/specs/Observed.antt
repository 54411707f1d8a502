-- What is observed of the ordered channel from one side of a link to the other: the steps that the entries of both
-- journals show, in an order of both, and behind these the dispatches that the other side's logs show. This project's own.
use Rattle.std.specs.Prelude.{ℕ, ◌+◌, ◌&&◌, ◌||◌, ◌==◌, Bool, true, false, nat_lt, if◌then◌else◌, List, [], ◌∷◌, ◌++◌, length, map, Option, Some, None}
use Rattle.m2_dispatch.specs.Heard as heard
use Rattle.m2_dispatch.specs.Heard.{Heard}
use Rattle.m2_dispatch.specs.m2_message.Message.{Content}
use Rattle.m2_never_reset.specs.m2_session.declared.event.Effects.{Effects}
use Rattle.m2_never_reset.specs.m2_session.declared.event.Event.{Event}
use Rattle.m2_never_reset.specs.m2_session.declared.session.Session.{Session}
use Rattle.m2_never_reset.specs.m2_session.Steps.{step_of}
use Rattle.m2_never_reset.specs.m2_journal.Feeds.{next_said}
use Rattle.m2_never_reset.specs.m2_journal.Items as item
use Rattle.m2_never_reset.specs.m2_journal.Items.{JournalItem}
use Rattle.m2_never_reset.specs.m2_journal.Lawful.{key_of}
use Rattle.m2_never_reset.specs.m2_journal.Plan.{to_post}
use Rattle.m2_never_reset.specs.m2_journal.Said.{Said, brings}
use Rattle.m2_never_reset.specs.m2_journal.SideFacts.{SideFacts}
use Rattle.m2_never_reset.specs.m2_journal.State as state
use Rattle.m2_never_reset.specs.m2_journal.State.{Feed, Delivery, State, start}
use Rattle.m2_never_reset.specs.m2_journal.Steps.{after, event_at}
use Rattle.m2_never_reset.specs.LinkOf.{letters}
use Rattle.m2_never_reset.specs.Orders.{SideItem, near_item, far_item}
use Rattle.m2_channel.specs.Channel.{KeyedMessage, keyed, ChannelStep, post, accept, dispatch, acknowledge, mark, reset}

-- ---- what an entry shows

-- of the side that posts: a post, with the key that the message has at the other side, and an acknowledgement
abbrev pub shown_by_sender : SideFacts → JournalItem → List ChannelStep
shown_by_sender g (item.post place (Some (to_post m))) = post (key_of g m) m ∷ []
shown_by_sender g (item.acked number) = acknowledge number ∷ []
shown_by_sender g _ = []

-- the message that is next on the feed
abbrev pub brought_by : Option Said → List Content
brought_by (Some (brings m)) = m ∷ []
brought_by _ = []

abbrev pub brought_on : ℕ → Option Feed → List Content
brought_on last (Some d) = brought_by (next_said last d)
brought_on last None = []

-- of the side that accepts: the message in the bytes, with the key of the entry
abbrev pub shown_by_reader : JournalItem → State → List ChannelStep
shown_by_reader (item.accepted number key) s = map (accept key) (brought_on s.last s.feed)
shown_by_reader _ s = []

-- of either: it is marked down
abbrev pub shown_down : JournalItem → List ChannelStep
shown_down (item.down planned step) = mark ∷ []
shown_down _ = []

-- A step of the session throws messages away, also where none is there, or sets numbers back where either side has
-- accepted a message.
abbrev pub resets_by : Effects → (accepted : ℕ) → Bool
resets_by e accepted = e.discard || (e.set_back && nat_lt 0 accepted)

abbrev pub resets_told : Option Event → Session → (accepted : ℕ) → Bool
resets_told (Some e) s accepted = resets_by (step_of s e).effects accepted
resets_told None s accepted = false

abbrev pub obeys_in_full : JournalItem → Bool
obeys_in_full (item.obeyed full) = full
obeys_in_full _ = false

-- of either: the session is reset, by such a step or by a full reset that is obeyed
abbrev pub is_reset : SideFacts → JournalItem → (near far : State) → Bool
is_reset f i a b = obeys_in_full i || resets_told (event_at f i a) a.session (length (letters a.deliveries) + length (letters b.deliveries))

abbrev pub shown_reset : Bool → List ChannelStep
shown_reset true = reset ∷ []
shown_reset false = []

-- ---- of the direction from the near side to the far side

-- an entry of the near side; where it marks the side down, the reset stands behind the mark
abbrev pub shown_near : (f g : SideFacts) → JournalItem → (near far : State) → List ChannelStep
shown_near f g i a b = shown_by_sender g i ++ shown_down i ++ shown_reset (is_reset f i a b)

abbrev pub shown_far : SideFacts → JournalItem → (near far : State) → List ChannelStep
shown_far g i a b = shown_by_reader i b ++ shown_down i ++ shown_reset (is_reset g i b a)

-- the entries of an order, from these states of the sides on
abbrev pub shown_from : (f g : SideFacts) → List SideItem → (near far : State) → List ChannelStep
shown_from f g [] a b = []
shown_from f g (near_item i ∷ order) a b = shown_near f g i a b ++ shown_from f g order (after f i a) b
shown_from f g (far_item i ∷ order) a b = shown_far g i a b ++ shown_from f g order a (after g i b)

-- What a node's two dispatchers were called with: the one that takes a message at once, by the thread that has read it, and
-- the one behind the queue.
pub record Logs : Type 0 where
  pub fast : List Heard
  pub queued : List Heard

-- Both together. The messages of a key stand in one of them, so of each key this is the order of the calls.
abbrev pub all_of : Logs → List Heard
all_of logs = logs.fast ++ logs.queued

-- the messages that a log has of a peer, in order
abbrev pub heard_from : ℕ → List Heard → List KeyedMessage
heard_from peer [] = []
heard_from peer (heard.message p key number life m ∷ log) = if p == peer then keyed key m ∷ heard_from peer log else heard_from peer log
heard_from peer (heard.reset p ∷ log) = heard_from peer log

abbrev pub dispatched_from : ℕ → List Heard → List ChannelStep
dispatched_from peer log = map (λ x. dispatch x.key x.message) (heard_from peer log)

-- all of it: the entries, and behind them what the far side's dispatchers were called with of the near side
abbrev pub observed : (f g : SideFacts) → List SideItem → Logs → List ChannelStep
observed f g order logs = shown_from f g order (start f) (start g) ++ dispatched_from f.node.number (all_of logs)

-- ---- of the other direction

-- the same order as the far side sees it
abbrev pub other_side : SideItem → SideItem
other_side (near_item i) = far_item i
other_side (far_item i) = near_item i

abbrev pub turned : List SideItem → List SideItem
turned order = map other_side order

-- ---- up to a mark-down

abbrev pub marks_down : JournalItem → Bool
marks_down (item.down planned step) = true
marks_down _ = false

-- the entries before the first one that marks a side down
abbrev pub before_down : List SideItem → List SideItem
before_down [] = []
before_down (near_item i ∷ order) = if marks_down i then [] else near_item i ∷ before_down order
before_down (far_item i ∷ order) = if marks_down i then [] else far_item i ∷ before_down order

-- ---- what is handed on

-- what a record handed on, without what isn't a message
abbrev pub handed : List Delivery → List KeyedMessage
handed [] = []
handed (state.letter number life key m ∷ ds) = keyed key m ∷ handed ds
handed (_ ∷ ds) = handed ds

-- no messages were thrown away
abbrev pub IsNoDiscard : Delivery → Type 0
IsNoDiscard state.discarded = ⊥
IsNoDiscard _ = Unit {0}

-- a message: neither that messages are thrown away, nor that the peer has reset the session
abbrev pub IsLetter : Delivery → Type 0
IsLetter (state.letter number life key m) = Unit {0}
IsLetter _ = ⊥
