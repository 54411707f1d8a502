-- Of any order and logs: the observed lives have the names of those of the two records, and the observed posts and dispatches
-- are those of the entries and of the logs.
use Rattle.std.proofs.Common.{◌≡◌, ℕ, ◌+◌, Bool, true, false, ◌==◌, if◌then◌else◌, List, [], ◌∷◌, ◌++◌, map, Option, Some, None, refl, sym, ap, ◌∙◌, append-nil}
use Rattle.std.proofs.lemmas.List.{map-append}
use Rattle.m2_channel.specs.Channel.{KeyedMessage, keyed}
use Rattle.m2_channel.specs.Observed.{all_of, brought_on, is_reset}
use Rattle.m2_channel.specs.ObservedLaws.{posted_to}
use Rattle.m2_channel.specs.m2_dispatch.Heard as heard
use Rattle.m2_channel.specs.m2_dispatch.Heard.{Heard}
use Rattle.m2_journal.specs.Feeds.{hears, finished, narrowed, next_said, texts_at}
use Rattle.m2_journal.specs.Items as item
use Rattle.m2_journal.specs.Items.{JournalItem}
use Rattle.m2_journal.specs.Lawful.{key_of}
use Rattle.m2_journal.specs.OutFrames.{OutFrame, replies_of}
use Rattle.m2_journal.specs.Plan.{Planned, to_post, to_dial, to_go_down}
use Rattle.m2_journal.specs.Replay.{after_items}
use Rattle.m2_journal.specs.Said.{Said, says, brings, aborts, garbles}
use Rattle.m2_journal.specs.SideFacts.{SideFacts, cookie_of}
use Rattle.m2_journal.specs.State.{Feed, State, start}
use Rattle.m2_journal.specs.Steps.{accepts, after, answers, breaks, closes, composes_on, discards, event_at, event_heard, event_of, event_on, forgets, has_effects, is_on, is_waiting, lowers, notes, on_feed_at, heeds, takes_socket, sends, posts as posts_planned, puts, queues, reads, sets_back, spends, takes_answer, tells, tells_if, tells_of_reset, where_true, with_feed, writes_message}
use Rattle.m2_journal.specs.m2_fabric.declared.socket.SocketId.{SocketId}
use Rattle.m2_journal.specs.m2_message.Message.{Content}
use Rattle.m2_journal.specs.m2_policy.declared.path.Key.{Key}
use Rattle.m2_journal.specs.m2_queues.QueueLaws.{Requeue, Next}
use Rattle.m2_journal.specs.m2_queues.OutQueues.{message_at}
use Rattle.m2_journal.specs.m2_session.SessionLaws.{takes}
use Rattle.m2_journal.specs.m2_session.declared.answer.Answer.{Answer}
use Rattle.m2_journal.specs.m2_session.declared.ask.AskFacts.{AskFacts}
use Rattle.m2_journal.specs.m2_session.declared.event.Effects.{Effects}
use Rattle.m2_journal.specs.m2_session.declared.event.Event.{Event}
use Rattle.m2_journal.specs.m2_session.declared.event.Event.TheVariants as event
use Rattle.m2_journal.specs.m2_session.declared.session.Session.{Session}
use Rattle.m2_journal.specs.m2_session.Steps.{Step, step_of}
use Rattle.m2_lives.proofs.Runs.{one_name}
use Rattle.m2_never_reset.specs.Orders.{SideItem, near_item, far_item, near_items, far_items, near_after, far_after, posted_in, posts_in}
use Rattle.m2_lives.specs.Lives.{LivesStep, post, begins_sending, begins_receiving, accept, acknowledge, dispatch, mark, reset, LivesChannel, new_lives, changed_in_lives, after_in_lives, LifeMessage, posts, dispatches}
use Rattle.m2_lives.specs.Observed.{dropped_at, shown_by_sender, shown_by_reader, shown_down, begins_told, sends_anew, receives_anew, shown_reset, shown_near, shown_far, shown_from, heard_in_lives, dispatched_from, observed_in_lives}
use Rattle.m2_lives.specs.ObservedLaws.{LivesAreNamed}
use Rattle.m2_journal.proofs.Lives.{puts_on-stays}

-- ---- the life of a record

-- the name of the current life, behind what the session is told
abbrev pub named_by : Option Event → Session → (now : ℕ) → ℕ
named_by (Some e) q now = if (step_of q e).effects.set_back then (step_of q e).session.server_cookie else now
named_by None q now = now

feed_life : (o : Option Feed) (change : Feed → State → State) (s : State) → ((d : Feed) → (change d s).life ≡ s.life) → (on_feed_at o change s).life ≡ s.life
feed_life (Some d) change s h = h d
feed_life None change s h = refl

where_life : (b : Bool) (change : State → State) (s : State) → (change s).life ≡ s.life → (where_true b change s).life ≡ s.life
where_life true change s h = h
where_life false change s h = refl

-- neither the life nor the cookie
record IsStill (s t : State) : Type 0 where
  life : t.life ≡ s.life
  cookie : t.session.server_cookie ≡ s.session.server_cookie

closes_still : (s : State) → IsStill s (closes s)
closes_still s = at s.feed
  where
    at : (o : Option Feed) → IsStill s (on_feed_at o spends s)
    at (Some d) = record { life = refl; cookie = refl }
    at None = record { life = refl; cookie = refl }

where_still : (b : Bool) (change : State → State) (s : State) → IsStill s (change s) → IsStill s (where_true b change s)
where_still true change s h = h
where_still false change s h = record { life = refl; cookie = refl }

set_back_life : (b : Bool) (s : State) → (where_true b sets_back s).life ≡ (if b then s.session.server_cookie else s.life)
set_back_life true s = feed_life s.feed lowers (record s { last = 0; life = s.session.server_cookie }) (λ d. refl)
set_back_life false s = refl

effects_life : (e : Effects) (s : State) → (has_effects e s).life ≡ (if e.set_back then s.session.server_cookie else s.life)
effects_life e s =
    where_life e.remote_reset tells_of_reset thrown refl ∙ where_life e.discard discards back refl ∙ set_back_life e.set_back queued ∙ at e.set_back
  where
    closed : State
    closed = where_true e.close closes s

    queued : State
    queued = where_true e.requeue (queues Requeue) closed

    back : State
    back = where_true e.set_back sets_back queued

    thrown : State
    thrown = where_true e.discard discards back

    still : IsStill s closed
    still = where_still e.close closes s (closes_still s)

    also : IsStill closed queued
    also = where_still e.requeue (queues Requeue) closed (record { life = refl; cookie = refl })

    at : (b : Bool) → (if b then queued.session.server_cookie else queued.life) ≡ (if b then s.session.server_cookie else s.life)
    at true = also.cookie ∙ still.cookie
    at false = also.life ∙ still.life

tells_life : (e : Event) (s : State) → (tells e s).life ≡ named_by (Some e) s.session s.life
tells_life e s = effects_life (step_of s.session e).effects (record s { session = (step_of s.session e).session })

tells_if_life : (o : Option Event) (s : State) → (tells_if o s).life ≡ named_by o s.session s.life
tells_if_life (Some e) s = tells_life e s
tells_if_life None s = refl

-- ---- behind an entry

posts_life : (o : Option Planned) (s : State) → (posts_planned o s).life ≡ s.life
posts_life (Some (to_post m)) s = refl
posts_life (Some to_dial) s = refl
posts_life (Some to_go_down) s = refl
posts_life None s = refl

read_life : (f : SideFacts) (bytes : List ℕ) (s : State) (o : Option Feed) →
    (on_feed_at o (λ d. reads f (hears bytes d)) s).life ≡ named_by (event_on o (λ d. event_heard f s.session.phase (hears bytes d))) s.session s.life
read_life f bytes s (Some d) = at (event_heard f s.session.phase (hears bytes d))
  where
    at : (o : Option Event) → (heeds o (hears bytes d) s).life ≡ named_by o s.session s.life
    at (Some e) = tells_life e (with_feed (takes_answer (hears bytes d)) s)
    at None = refl
read_life f bytes s None = refl

late_life : (b : Bool) (s t : State) → s.life ≡ t.life → (if b then s else t).life ≡ t.life
late_life true s t h = h
late_life false s t h = refl

closed_life : (k : SocketId) (s : State) (b : Bool) →
    (if b then breaks s else forgets k s).life ≡ named_by (if b then Some (event.Faulted (is_waiting s)) else None) s.session s.life
closed_life k s true = tells_life (event.Faulted (is_waiting s)) s
closed_life k s false = refl

answers_life : (f : SideFacts) (k : SocketId) (a : AskFacts) (number : ℕ) (answer : Answer) (unread : List ℕ) (s : State) → (answers f k a number answer unread s).life ≡ s.life
answers_life f k a number answer unread s = at (takes answer)
  where
    at : (b : Bool) → (if b then takes_socket f k a number unread s else sends k (replies_of answer) s).life ≡ s.life
    at true = refl
    at false = refl

composes_life : (f : SideFacts) (w : OutFrame) (s : State) → (on_feed_at s.feed (composes_on f w) s).life ≡ s.life
composes_life f w s = feed_life s.feed (composes_on f w) s (λ d. refl)

next_life : (f : SideFacts) (number : ℕ) (o : Option Content) (s : State) → (writes_message f number o s).life ≡ s.life
next_life f number (Some m) s = composes_life f _ s
next_life f number None s = refl

accepts_life : (number : ℕ) (key : Key) (o : Option Said) (d : Feed) (s : State) → (accepts number key o d s).life ≡ s.life
accepts_life number key (Some (brings m)) d s = refl
accepts_life number key (Some (says c)) d s = refl
accepts_life number key (Some aborts) d s = refl
accepts_life number key (Some garbles) d s = refl
accepts_life number key None d s = refl

obeys_life : (full : Bool) (s : State) (o : Option Feed) →
    (on_feed_at o (λ d t. tells (event.GotReset full) (with_feed (takes_answer d) t)) s).life ≡ named_by (event_on o (λ d. Some (event.GotReset full))) s.session s.life
obeys_life full s (Some d) = tells_life (event.GotReset full) (with_feed (takes_answer d) s)
obeys_life full s None = refl

pub life_of : (f : SideFacts) (i : JournalItem) (s : State) → (after f i s).life ≡ named_by (event_at f i s) s.session s.life
life_of f (item.post place planned) s = posts_life planned (record s { steps = s.steps + 1 })
life_of f (item.dial planned) s = refl
life_of f (item.opened k) s = tells_life event.Dialled s
life_of f (item.read k bytes) s = read_life f bytes s s.feed
life_of f (item.wrote k bytes) s = feed_life s.feed (puts f bytes) s (λ d. puts_on-stays (finished (narrowed bytes (texts_at f s d))) (narrowed bytes (texts_at f s d)) d s)
life_of f (item.closed k broken) s = closed_life k s (is_on k s.feed)
life_of f (item.judged k ask n answer unread trail) s =
    answers_life f k ask n answer unread (tells_if (event_of f ask n answer) (notes k ask n answer s)) ∙ tells_if_life (event_of f ask n answer) (notes k ask n answer s)
life_of f (item.asked true n) s = composes_life f _ (tells (event.AskedIdent (cookie_of f n)) (record s { top = n })) ∙ tells_life (event.AskedIdent (cookie_of f n)) (record s { top = n })
life_of f (item.asked false n) s = composes_life f _ (tells event.AskedReconnect (record s { top = n })) ∙ tells_life event.AskedReconnect (record s { top = n })
life_of f (item.numbered n) s = next_life f n (message_at (queues Next s).out.queue n) (queues Next s)
life_of f (item.accepted n key) s = feed_life s.feed _ s (λ d. accepts_life n key (next_said s.last d) d s)
life_of f (item.acked n) s = refl
life_of f (item.obeyed full) s = obeys_life full s s.feed
life_of f (item.down planned step) s = tells_life event.MarkedDown s

-- ---- names of lives among steps

-- the name of the current sending life behind these steps, and of the current receiving life
abbrev sending_now : ℕ → List LivesStep → ℕ
sending_now now [] = now
sending_now now (begins_sending name thrown ∷ xs) = sending_now name xs
sending_now now (begins_receiving name ∷ xs) = sending_now now xs
sending_now now (post key m ∷ xs) = sending_now now xs
sending_now now (accept key m ∷ xs) = sending_now now xs
sending_now now (acknowledge key ∷ xs) = sending_now now xs
sending_now now (dispatch name key m ∷ xs) = sending_now now xs
sending_now now (mark ∷ xs) = sending_now now xs
sending_now now (reset ∷ xs) = sending_now now xs

abbrev receiving_now : ℕ → List LivesStep → ℕ
receiving_now now [] = now
receiving_now now (begins_receiving name ∷ xs) = receiving_now name xs
receiving_now now (begins_sending name thrown ∷ xs) = receiving_now now xs
receiving_now now (post key m ∷ xs) = receiving_now now xs
receiving_now now (accept key m ∷ xs) = receiving_now now xs
receiving_now now (acknowledge key ∷ xs) = receiving_now now xs
receiving_now now (dispatch name key m ∷ xs) = receiving_now now xs
receiving_now now (mark ∷ xs) = receiving_now now xs
receiving_now now (reset ∷ xs) = receiving_now now xs

sends_so : (xs : List LivesStep) (c : LivesChannel) → (after_in_lives xs c).sends.name ≡ sending_now c.sends.name xs
sends_so [] c = refl
sends_so (begins_sending name thrown ∷ xs) c = sends_so xs (changed_in_lives (begins_sending name thrown) c)
sends_so (begins_receiving name ∷ xs) c = sends_so xs (changed_in_lives (begins_receiving name) c)
sends_so (post key m ∷ xs) c = sends_so xs (changed_in_lives (post key m) c)
sends_so (accept key m ∷ xs) c = sends_so xs (changed_in_lives (accept key m) c)
sends_so (acknowledge key ∷ xs) c = sends_so xs (changed_in_lives (acknowledge key) c)
sends_so (dispatch name key m ∷ xs) c = sends_so xs (changed_in_lives (dispatch name key m) c)
sends_so (mark ∷ xs) c = sends_so xs (changed_in_lives mark c)
sends_so (reset ∷ xs) c = sends_so xs c

receives_so : (xs : List LivesStep) (c : LivesChannel) → (after_in_lives xs c).receives.name ≡ receiving_now c.receives.name xs
receives_so [] c = refl
receives_so (begins_sending name thrown ∷ xs) c = receives_so xs (changed_in_lives (begins_sending name thrown) c)
receives_so (begins_receiving name ∷ xs) c = receives_so xs (changed_in_lives (begins_receiving name) c)
receives_so (post key m ∷ xs) c = receives_so xs (changed_in_lives (post key m) c)
receives_so (accept key m ∷ xs) c = receives_so xs (changed_in_lives (accept key m) c)
receives_so (acknowledge key ∷ xs) c = receives_so xs (changed_in_lives (acknowledge key) c)
receives_so (dispatch name key m ∷ xs) c = receives_so xs (changed_in_lives (dispatch name key m) c) ∙ ap (λ n. receiving_now n xs) (one_name name key c.receives)
receives_so (mark ∷ xs) c = receives_so xs (changed_in_lives mark c)
receives_so (reset ∷ xs) c = receives_so xs c

-- ---- what steps show

-- the two names behind them, and what they post and dispatch
record Show (xs : List LivesStep) (m n m' n' : ℕ) (ps : List KeyedMessage) (ds : List LifeMessage) : Type 0 where
  sends : sending_now m xs ≡ m'
  receives : receiving_now n xs ≡ n'
  posts : posts xs ≡ ps
  dispatches : dispatches xs ≡ ds

show_append : (xs ys : List LivesStep) (m n m' n' m'' n'' : ℕ) (ps ps' : List KeyedMessage) (ds ds' : List LifeMessage) →
    Show xs m n m' n' ps ds → Show ys m' n' m'' n'' ps' ds' → Show (xs ++ ys) m n m'' n'' (ps ++ ps') (ds ++ ds')
show_append xs ys m n m' n' m'' n'' ps ps' ds ds' h k = record {
  sends = sending xs m ∙ ap (λ l. sending_now l ys) h.sends ∙ k.sends;
  receives = receiving xs n ∙ ap (λ l. receiving_now l ys) h.receives ∙ k.receives;
  posts = posting xs ∙ ap (λ l. l ++ posts ys) h.posts ∙ ap (λ l. ps ++ l) k.posts;
  dispatches = dispatching xs ∙ ap (λ l. l ++ dispatches ys) h.dispatches ∙ ap (λ l. ds ++ l) k.dispatches;
}
  where
    sending : (zs : List LivesStep) (l : ℕ) → sending_now l (zs ++ ys) ≡ sending_now (sending_now l zs) ys
    sending [] l = refl
    sending (begins_sending name thrown ∷ zs) l = sending zs name
    sending (begins_receiving name ∷ zs) l = sending zs l
    sending (post key c ∷ zs) l = sending zs l
    sending (accept key c ∷ zs) l = sending zs l
    sending (acknowledge key ∷ zs) l = sending zs l
    sending (dispatch name key c ∷ zs) l = sending zs l
    sending (mark ∷ zs) l = sending zs l
    sending (reset ∷ zs) l = sending zs l

    receiving : (zs : List LivesStep) (l : ℕ) → receiving_now l (zs ++ ys) ≡ receiving_now (receiving_now l zs) ys
    receiving [] l = refl
    receiving (begins_sending name thrown ∷ zs) l = receiving zs l
    receiving (begins_receiving name ∷ zs) l = receiving zs name
    receiving (post key c ∷ zs) l = receiving zs l
    receiving (accept key c ∷ zs) l = receiving zs l
    receiving (acknowledge key ∷ zs) l = receiving zs l
    receiving (dispatch name key c ∷ zs) l = receiving zs l
    receiving (mark ∷ zs) l = receiving zs l
    receiving (reset ∷ zs) l = receiving zs l

    posting : (zs : List LivesStep) → posts (zs ++ ys) ≡ posts zs ++ posts ys
    posting [] = refl
    posting (post key c ∷ zs) = ap (λ l. keyed key c ∷ l) (posting zs)
    posting (begins_sending name thrown ∷ zs) = posting zs
    posting (begins_receiving name ∷ zs) = posting zs
    posting (accept key c ∷ zs) = posting zs
    posting (acknowledge key ∷ zs) = posting zs
    posting (dispatch name key c ∷ zs) = posting zs
    posting (mark ∷ zs) = posting zs
    posting (reset ∷ zs) = posting zs

    dispatching : (zs : List LivesStep) → dispatches (zs ++ ys) ≡ dispatches zs ++ dispatches ys
    dispatching [] = refl
    dispatching (dispatch name key c ∷ zs) = ap (λ l. record { life = name; message = keyed key c } ∷ l) (dispatching zs)
    dispatching (post key c ∷ zs) = dispatching zs
    dispatching (begins_sending name thrown ∷ zs) = dispatching zs
    dispatching (begins_receiving name ∷ zs) = dispatching zs
    dispatching (accept key c ∷ zs) = dispatching zs
    dispatching (acknowledge key ∷ zs) = dispatching zs
    dispatching (mark ∷ zs) = dispatching zs
    dispatching (reset ∷ zs) = dispatching zs

none_show : (m n : ℕ) → Show [] m n m n [] []
none_show m n = record { sends = refl; receives = refl; posts = refl; dispatches = refl }

acks_show : (g : SideFacts) (ms : List Content) (m n : ℕ) → Show (map (λ c. acknowledge (key_of g c)) ms) m n m n [] []
acks_show g [] m n = none_show m n
acks_show g (c ∷ ms) m n = let h = acks_show g ms m n in record { sends = h.sends; receives = h.receives; posts = h.posts; dispatches = h.dispatches }

accepts_show : (key : Key) (ms : List Content) (m n : ℕ) → Show (map (accept key) ms) m n m n [] []
accepts_show key [] m n = none_show m n
accepts_show key (c ∷ ms) m n = let h = accepts_show key ms m n in record { sends = h.sends; receives = h.receives; posts = h.posts; dispatches = h.dispatches }

sender_show : (g : SideFacts) (i : JournalItem) (s : State) (m n : ℕ) → Show (shown_by_sender g i s) m n m n (posted_to g (posted_in i)) []
sender_show g (item.post place (Some (to_post c))) s m n = record { sends = refl; receives = refl; posts = refl; dispatches = refl }
sender_show g (item.post place (Some to_dial)) s m n = none_show m n
sender_show g (item.post place (Some to_go_down)) s m n = none_show m n
sender_show g (item.post place None) s m n = none_show m n
sender_show g (item.acked k) s m n = acks_show g (dropped_at k s.out.queue) m n
sender_show g (item.dial planned) s m n = none_show m n
sender_show g (item.opened k) s m n = none_show m n
sender_show g (item.read k bytes) s m n = none_show m n
sender_show g (item.wrote k bytes) s m n = none_show m n
sender_show g (item.closed k broken) s m n = none_show m n
sender_show g (item.judged k ask a answer unread trail) s m n = none_show m n
sender_show g (item.asked ident a) s m n = none_show m n
sender_show g (item.numbered a) s m n = none_show m n
sender_show g (item.accepted a key) s m n = none_show m n
sender_show g (item.obeyed full) s m n = none_show m n
sender_show g (item.down planned step) s m n = none_show m n

reader_show : (i : JournalItem) (s : State) (m n : ℕ) → Show (shown_by_reader i s) m n m n [] []
reader_show (item.accepted a key) s m n = accepts_show key (brought_on s.last s.feed) m n
reader_show (item.post place planned) s m n = none_show m n
reader_show (item.acked k) s m n = none_show m n
reader_show (item.dial planned) s m n = none_show m n
reader_show (item.opened k) s m n = none_show m n
reader_show (item.read k bytes) s m n = none_show m n
reader_show (item.wrote k bytes) s m n = none_show m n
reader_show (item.closed k broken) s m n = none_show m n
reader_show (item.judged k ask a answer unread trail) s m n = none_show m n
reader_show (item.asked ident a) s m n = none_show m n
reader_show (item.numbered a) s m n = none_show m n
reader_show (item.obeyed full) s m n = none_show m n
reader_show (item.down planned step) s m n = none_show m n

down_show : (i : JournalItem) (m n : ℕ) → Show (shown_down i) m n m n [] []
down_show (item.down planned step) m n = record { sends = refl; receives = refl; posts = refl; dispatches = refl }
down_show (item.accepted a key) m n = none_show m n
down_show (item.post place planned) m n = none_show m n
down_show (item.acked k) m n = none_show m n
down_show (item.dial planned) m n = none_show m n
down_show (item.opened k) m n = none_show m n
down_show (item.read k bytes) m n = none_show m n
down_show (item.wrote k bytes) m n = none_show m n
down_show (item.closed k broken) m n = none_show m n
down_show (item.judged k ask a answer unread trail) m n = none_show m n
down_show (item.asked ident a) m n = none_show m n
down_show (item.numbered a) m n = none_show m n
down_show (item.obeyed full) m n = none_show m n

reset_show : (b : Bool) (m n : ℕ) → Show (shown_reset b) m n m n [] []
reset_show true m n = record { sends = refl; receives = refl; posts = refl; dispatches = refl }
reset_show false m n = none_show m n

sends_anew_show : (f : SideFacts) (i : JournalItem) (s : State) (n : ℕ) → Show (sends_anew f i s) s.life n (after f i s).life n [] []
sends_anew_show f i s n = record { sends = told (event_at f i s) ∙ sym (life_of f i s); receives = (rest (event_at f i s)).receives; posts = (rest (event_at f i s)).posts; dispatches = (rest (event_at f i s)).dispatches }
  where
    anew : Step → LivesStep
    anew t = begins_sending t.session.server_cookie t.effects.discard

    told : (o : Option Event) → sending_now s.life (begins_told anew o s.session) ≡ named_by o s.session s.life
    told None = refl
    told (Some e) = at (step_of s.session e).effects.set_back
      where
        at : (b : Bool) → sending_now s.life (if b then anew (step_of s.session e) ∷ [] else []) ≡ (if b then (step_of s.session e).session.server_cookie else s.life)
        at true = refl
        at false = refl

    rest : (o : Option Event) → Show (begins_told anew o s.session) s.life n (sending_now s.life (begins_told anew o s.session)) n [] []
    rest None = none_show s.life n
    rest (Some e) = at (step_of s.session e).effects.set_back
      where
        at : (b : Bool) → Show (if b then anew (step_of s.session e) ∷ [] else []) s.life n (sending_now s.life (if b then anew (step_of s.session e) ∷ [] else [])) n [] []
        at true = record { sends = refl; receives = refl; posts = refl; dispatches = refl }
        at false = none_show s.life n

receives_anew_show : (g : SideFacts) (i : JournalItem) (s : State) (m : ℕ) → Show (receives_anew g i s) m s.life m (after g i s).life [] []
receives_anew_show g i s m = record { sends = (rest (event_at g i s)).sends; receives = told (event_at g i s) ∙ sym (life_of g i s); posts = (rest (event_at g i s)).posts; dispatches = (rest (event_at g i s)).dispatches }
  where
    anew : Step → LivesStep
    anew t = begins_receiving t.session.server_cookie

    told : (o : Option Event) → receiving_now s.life (begins_told anew o s.session) ≡ named_by o s.session s.life
    told None = refl
    told (Some e) = at (step_of s.session e).effects.set_back
      where
        at : (b : Bool) → receiving_now s.life (if b then anew (step_of s.session e) ∷ [] else []) ≡ (if b then (step_of s.session e).session.server_cookie else s.life)
        at true = refl
        at false = refl

    rest : (o : Option Event) → Show (begins_told anew o s.session) m s.life m (receiving_now s.life (begins_told anew o s.session)) [] []
    rest None = none_show m s.life
    rest (Some e) = at (step_of s.session e).effects.set_back
      where
        at : (b : Bool) → Show (if b then anew (step_of s.session e) ∷ [] else []) m s.life m (receiving_now s.life (if b then anew (step_of s.session e) ∷ [] else [])) [] []
        at true = record { sends = refl; receives = refl; posts = refl; dispatches = refl }
        at false = none_show m s.life

-- ---- an entry, and an order

with_posts : (xs : List LivesStep) (m n m' n' : ℕ) (ps ps' : List KeyedMessage) → ps ≡ ps' → Show xs m n m' n' ps [] → Show xs m n m' n' ps' []
with_posts xs m n m' n' ps ps' e h = record { sends = h.sends; receives = h.receives; posts = h.posts ∙ e; dispatches = h.dispatches }

near_show : (f g : SideFacts) (i : JournalItem) (a b : State) → Show (shown_near f g i a b) a.life b.life (after f i a).life b.life (posted_to g (posted_in i)) []
near_show f g i a b =
    let ps = posted_to g (posted_in i) in
    let m = a.life in
    let n = b.life in
    let m' = (after f i a).life in
    with_posts (shown_near f g i a b) m n m' n (((ps ++ []) ++ []) ++ []) ps (append-nil ((ps ++ []) ++ []) ∙ append-nil (ps ++ []) ∙ append-nil ps)
    (show_append (shown_by_sender g i a ++ shown_down i ++ sends_anew f i a) (shown_reset (is_reset f i a b)) m n m' n m' n ((ps ++ []) ++ []) [] [] []
    (show_append (shown_by_sender g i a ++ shown_down i) (sends_anew f i a) m n m n m' n (ps ++ []) [] [] []
    (show_append (shown_by_sender g i a) (shown_down i) m n m n m n ps [] [] [] (sender_show g i a m n) (down_show i m n))
    (sends_anew_show f i a n))
    (reset_show (is_reset f i a b) m' n))

far_show : (g : SideFacts) (i : JournalItem) (a b : State) → Show (shown_far g i a b) a.life b.life a.life (after g i b).life [] []
far_show g i a b =
    let m = a.life in
    let n = b.life in
    let n' = (after g i b).life in
    show_append (shown_by_reader i b ++ shown_down i ++ receives_anew g i b) (shown_reset (is_reset g i b a)) m n m n' m n' [] [] [] []
    (show_append (shown_by_reader i b ++ shown_down i) (receives_anew g i b) m n m n m n' [] [] [] []
    (show_append (shown_by_reader i b) (shown_down i) m n m n m n [] [] [] [] (reader_show i b m n) (down_show i m n))
    (receives_anew_show g i b m))
    (reset_show (is_reset g i b a) m n')

order_show : (f g : SideFacts) (order : List SideItem) (a b : State) →
    Show (shown_from f g order a b) a.life b.life (after_items f (near_items order) a).life (after_items g (far_items order) b).life (posted_to g (posts_in (near_items order))) []
order_show f g [] a b = none_show a.life b.life
order_show f g (near_item i ∷ order) a b =
    let ps = posted_to g (posted_in i) in
    let qs = posted_to g (posts_in (near_items order)) in
    let m = (after_items f (near_items order) (after f i a)).life in
    let n = (after_items g (far_items order) b).life in
    with_posts (shown_near f g i a b ++ shown_from f g order (after f i a) b) a.life b.life m n (ps ++ qs) (posted_to g (posted_in i ++ posts_in (near_items order)))
    (sym (map-append (λ c. keyed (key_of g c) c) (posted_in i) (posts_in (near_items order))))
    (show_append (shown_near f g i a b) (shown_from f g order (after f i a) b) a.life b.life (after f i a).life b.life m n ps qs [] []
    (near_show f g i a b) (order_show f g order (after f i a) b))
order_show f g (far_item i ∷ order) a b =
    show_append (shown_far g i a b) (shown_from f g order a (after g i b)) a.life b.life a.life (after g i b).life
    (after_items f (near_items order) a).life (after_items g (far_items order) (after g i b)).life [] (posted_to g (posts_in (near_items order))) [] []
    (far_show g i a b) (order_show f g order a (after g i b))

log_show : (peer : ℕ) (log : List Heard) (m n : ℕ) → Show (dispatched_from peer log) m n m n [] (heard_in_lives peer log)
log_show peer [] m n = none_show m n
log_show peer (heard.message p key number life c ∷ log) m n = at (p == peer) (log_show peer log m n)
  where
    rest : List LifeMessage
    rest = heard_in_lives peer log

    at : (b : Bool) → Show (dispatched_from peer log) m n m n [] rest →
        Show (map (λ (x : LifeMessage). dispatch x.life x.message.key x.message.message) (if b then record { life = life; message = keyed key c } ∷ rest else rest)) m n m n []
        (if b then record { life = life; message = keyed key c } ∷ rest else rest)
    at true h = record { sends = h.sends; receives = h.receives; posts = h.posts; dispatches = ap (λ l. record { life = life; message = keyed key c } ∷ l) h.dispatches }
    at false h = h
log_show peer (heard.reset p ∷ log) m n = log_show peer log m n

pub are_named : LivesAreNamed
are_named f g order logs =
    let told = heard_in_lives f.node.number (all_of logs) in
    let m = (near_after f order).life in
    let n = (far_after g order).life in
    let ps = posted_to g (posts_in (near_items order)) in
    let all = show_append (shown_from f g order (start f) (start g)) (dispatched_from f.node.number (all_of logs)) 0 0 m n m n ps [] [] told (order_show f g order (start f) (start g)) (log_show f.node.number (all_of logs) m n) in
    record {
      sends = sends_so (observed_in_lives f g order logs) new_lives ∙ all.sends;
      receives = receives_so (observed_in_lives f g order logs) new_lives ∙ all.receives;
      posts = all.posts ∙ append-nil ps;
      dispatches = all.dispatches;
    }
