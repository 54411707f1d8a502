-- What is observed of the ordered channel with lives from one side of a link to the other: the steps that the entries of both
-- journals show, in an order of both, and behind these the dispatches that the other side's logs show. This project's own.
use Rattle.std.specs.Prelude.{ℕ, ◌-◌, ◌==◌, Bool, if◌then◌else◌, List, [], ◌∷◌, ◌++◌, map, take, Option, Some, None}
use Rattle.m2_channel.specs.Channel as channel
use Rattle.m2_channel.specs.Channel.{keyed, ChannelStep}
use Rattle.m2_channel.specs.Observed.{Logs, all_of, brought_on, is_reset}
use Rattle.m2_channel.specs.m2_dispatch.Heard as heard
use Rattle.m2_channel.specs.m2_dispatch.Heard.{Heard}
use Rattle.m2_channel.specs.m2_dispatch.m2_message.Message.{Content}
use Rattle.m2_channel.specs.m2_never_reset.Orders.{SideItem, near_item, far_item}
use Rattle.m2_channel.specs.m2_never_reset.m2_journal.Items as item
use Rattle.m2_channel.specs.m2_never_reset.m2_journal.Items.{JournalItem}
use Rattle.m2_channel.specs.m2_never_reset.m2_journal.Lawful.{key_of}
use Rattle.m2_channel.specs.m2_never_reset.m2_journal.Plan.{to_post}
use Rattle.m2_channel.specs.m2_never_reset.m2_journal.SideFacts.{SideFacts}
use Rattle.m2_channel.specs.m2_never_reset.m2_journal.State as state
use Rattle.m2_channel.specs.m2_never_reset.m2_journal.State.{Delivery, State, start}
use Rattle.m2_channel.specs.m2_never_reset.m2_journal.Steps.{after, event_at}
use Rattle.m2_channel.specs.m2_never_reset.m2_queues.OutQueues.{Queue}
use Rattle.m2_channel.specs.m2_never_reset.m2_session.declared.event.Event.{Event}
use Rattle.m2_channel.specs.m2_never_reset.m2_session.declared.session.Session.{Session}
use Rattle.m2_channel.specs.m2_never_reset.m2_session.Steps.{Step, step_of}
use Rattle.m2_lives.specs.Lives.{LivesStep, post, begins_sending, begins_receiving, accept, acknowledge, dispatch, mark, reset, LifeMessage}

-- ---- what an entry shows

-- the kept messages that an acknowledgement drops, in order
abbrev pub dropped_at : (number : ℕ) → Queue → List Content
dropped_at number q = take (number - q.base) q.kept

-- of the side that posts: a post, with the key that the message has at the other side, and each message that is acknowledged
abbrev pub shown_by_sender : SideFacts → JournalItem → State → List LivesStep
shown_by_sender g (item.post place (Some (to_post m))) s = post (key_of g m) m ∷ []
shown_by_sender g (item.acked number) s = map (λ m. acknowledge (key_of g m)) (dropped_at number s.out.queue)
shown_by_sender g _ s = []

-- of the side that accepts: the message in the bytes, with the key of the entry
abbrev pub shown_by_reader : JournalItem → State → List LivesStep
shown_by_reader (item.accepted number key) s = map (accept key) (brought_on s.last s.feed)
shown_by_reader _ s = []

-- of either: it is marked down
abbrev pub shown_down : JournalItem → List LivesStep
shown_down (item.down planned step) = mark ∷ []
shown_down _ = []

-- A step of the session that sets numbers back begins a life, which is named by the server cookie that the session keeps then.
abbrev pub begins_by : (Step → LivesStep) → Step → List LivesStep
begins_by begins t = if t.effects.set_back then begins t ∷ [] else []

abbrev pub begins_told : (Step → LivesStep) → Option Event → Session → List LivesStep
begins_told begins (Some e) s = begins_by begins (step_of s e)
begins_told begins None s = []

-- of the side that posts, with what it throws away; and of the side that accepts
abbrev pub sends_anew : SideFacts → JournalItem → State → List LivesStep
sends_anew f i s = begins_told (λ t. begins_sending t.session.server_cookie t.effects.discard) (event_at f i s) s.session

abbrev pub receives_anew : SideFacts → JournalItem → State → List LivesStep
receives_anew g i s = begins_told (λ t. begins_receiving t.session.server_cookie) (event_at g i s) s.session

abbrev pub shown_reset : Bool → List LivesStep
shown_reset b = if b then reset ∷ [] else []

-- ---- of the direction from the near side to the far side

-- an entry of the near side; a life begins behind the mark, and the reset stands behind that
abbrev pub shown_near : (f g : SideFacts) → JournalItem → (near far : State) → List LivesStep
shown_near f g i a b = shown_by_sender g i a ++ shown_down i ++ sends_anew f i a ++ shown_reset (is_reset f i a b)

abbrev pub shown_far : SideFacts → JournalItem → (near far : State) → List LivesStep
shown_far g i a b = shown_by_reader i b ++ shown_down i ++ receives_anew g i b ++ shown_reset (is_reset g i b a)

-- the entries of an order, from these states of the sides on
abbrev pub shown_from : (f g : SideFacts) → List SideItem → (near far : State) → List LivesStep
shown_from f g [] a b = []
shown_from f g (near_item i ∷ order) a b = shown_near f g i a b ++ shown_from f g order (after f i a) b
shown_from f g (far_item i ∷ order) a b = shown_far g i a b ++ shown_from f g order a (after g i b)

-- the messages that a log has of a peer, each with the life that it was accepted in, in order
abbrev pub heard_in_lives : ℕ → List Heard → List LifeMessage
heard_in_lives peer [] = []
heard_in_lives peer (heard.message p key number life m ∷ log) =
    if p == peer then record { life = life; message = keyed key m } ∷ heard_in_lives peer log else heard_in_lives peer log
heard_in_lives peer (heard.reset p ∷ log) = heard_in_lives peer log

abbrev pub dispatched_from : ℕ → List Heard → List LivesStep
dispatched_from peer log = map (λ (x : LifeMessage). dispatch x.life x.message.key x.message.message) (heard_in_lives peer log)

-- all of it: the entries, and behind them what the far side's dispatchers were called with of the near side
abbrev pub observed_in_lives : (f g : SideFacts) → List SideItem → Logs → List LivesStep
observed_in_lives f g order logs = shown_from f g order (start f) (start g) ++ dispatched_from f.node.number (all_of logs)

-- ---- what is handed on

-- what a record handed on, each message with the life that it was accepted in
abbrev pub handed_in_lives : List Delivery → List LifeMessage
handed_in_lives [] = []
handed_in_lives (state.letter number life key m ∷ ds) = record { life = life; message = keyed key m } ∷ handed_in_lives ds
handed_in_lives (_ ∷ ds) = handed_in_lives ds

abbrev pub into_first : {X : Type 0} → X → List (List X) → List (List X)
into_first x [] = (x ∷ []) ∷ []
into_first x (xs ∷ more) = (x ∷ xs) ∷ more

-- the same in stretches: between two of them what wasn't dispatched yet was thrown away
abbrev pub stretches : List Delivery → List (List LifeMessage)
stretches [] = [] ∷ []
stretches (state.letter number life key m ∷ ds) = into_first (record { life = life; message = keyed key m }) (stretches ds)
stretches (state.discarded ∷ ds) = [] ∷ stretches ds
stretches (state.remote_reset ∷ ds) = stretches ds

-- ---- without lives

-- the same steps as the channel without lives has them, but for acknowledgements
abbrev pub without_lives : List LivesStep → List ChannelStep
without_lives [] = []
without_lives (post key m ∷ xs) = channel.post key m ∷ without_lives xs
without_lives (accept key m ∷ xs) = channel.accept key m ∷ without_lives xs
without_lives (dispatch name key m ∷ xs) = channel.dispatch key m ∷ without_lives xs
without_lives (mark ∷ xs) = channel.mark ∷ without_lives xs
without_lives (reset ∷ xs) = channel.reset ∷ without_lives xs
without_lives (_ ∷ xs) = without_lives xs

abbrev pub without_acknowledgements : List ChannelStep → List ChannelStep
without_acknowledgements [] = []
without_acknowledgements (channel.acknowledge count ∷ xs) = without_acknowledgements xs
without_acknowledgements (x ∷ xs) = x ∷ without_acknowledgements xs
