-- But for acknowledgements, what is observed with lives is what is observed without them.
use Rattle.std.proofs.Common.{◌≡◌, ℕ, Bool, true, false, ◌==◌, if◌then◌else◌, List, [], ◌∷◌, ◌++◌, map, Option, Some, None, refl, sym, ap, ◌∙◌, append-nil}
use Rattle.m2_channel.specs.Channel as channel
use Rattle.m2_channel.specs.Channel.{keyed, ChannelStep}
use Rattle.m2_channel.specs.Observed as observed
use Rattle.m2_channel.specs.Observed.{all_of, brought_on, is_reset}
use Rattle.m2_channel.specs.m2_dispatch.Heard as heard
use Rattle.m2_channel.specs.m2_dispatch.Heard.{Heard}
use Rattle.m2_channel.specs.m2_dispatch.m2_message.Message.{Content}
use Rattle.m2_channel.specs.m2_dispatch.m2_policy.declared.path.Key.{Key}
use Rattle.m2_channel.specs.m2_never_reset.Orders.{SideItem, near_item, far_item}
use Rattle.m2_channel.specs.m2_never_reset.m2_journal.Items as item
use Rattle.m2_channel.specs.m2_never_reset.m2_journal.Items.{JournalItem}
use Rattle.m2_channel.specs.m2_never_reset.m2_journal.Lawful.{key_of}
use Rattle.m2_channel.specs.m2_never_reset.m2_journal.Plan.{to_post, to_dial, to_go_down}
use Rattle.m2_channel.specs.m2_never_reset.m2_journal.SideFacts.{SideFacts}
use Rattle.m2_channel.specs.m2_never_reset.m2_journal.State.{State, start}
use Rattle.m2_channel.specs.m2_never_reset.m2_journal.Steps.{after, event_at}
use Rattle.m2_channel.specs.m2_never_reset.m2_session.declared.event.Event.{Event}
use Rattle.m2_channel.specs.m2_never_reset.m2_session.declared.session.Session.{Session}
use Rattle.m2_channel.specs.m2_never_reset.m2_session.Steps.{Step, step_of}
use Rattle.m2_lives.specs.Lives.{LivesStep, post, begins_sending, begins_receiving, accept, acknowledge, dispatch, mark, reset, LifeMessage}
use Rattle.m2_lives.specs.Observed.{dropped_at, shown_by_sender, shown_by_reader, shown_down, begins_told, sends_anew, receives_anew, shown_reset, shown_near, shown_far, shown_from, heard_in_lives, dispatched_from, without_lives, without_acknowledgements}
use Rattle.m2_lives.specs.ObservedLaws.{LivesShowTheSame}

-- ---- lists of steps

without-append : (xs ys : List LivesStep) → without_lives (xs ++ ys) ≡ without_lives xs ++ without_lives ys
without-append [] ys = refl
without-append (post key m ∷ xs) ys = ap (λ l. channel.post key m ∷ l) (without-append xs ys)
without-append (accept key m ∷ xs) ys = ap (λ l. channel.accept key m ∷ l) (without-append xs ys)
without-append (dispatch name key m ∷ xs) ys = ap (λ l. channel.dispatch key m ∷ l) (without-append xs ys)
without-append (mark ∷ xs) ys = ap (λ l. channel.mark ∷ l) (without-append xs ys)
without-append (reset ∷ xs) ys = ap (λ l. channel.reset ∷ l) (without-append xs ys)
without-append (begins_sending name thrown ∷ xs) ys = without-append xs ys
without-append (begins_receiving name ∷ xs) ys = without-append xs ys
without-append (acknowledge key ∷ xs) ys = without-append xs ys

plain-append : (xs ys : List ChannelStep) → without_acknowledgements (xs ++ ys) ≡ without_acknowledgements xs ++ without_acknowledgements ys
plain-append [] ys = refl
plain-append (channel.post key m ∷ xs) ys = ap (λ l. channel.post key m ∷ l) (plain-append xs ys)
plain-append (channel.accept key m ∷ xs) ys = ap (λ l. channel.accept key m ∷ l) (plain-append xs ys)
plain-append (channel.dispatch key m ∷ xs) ys = ap (λ l. channel.dispatch key m ∷ l) (plain-append xs ys)
plain-append (channel.acknowledge count ∷ xs) ys = plain-append xs ys
plain-append (channel.mark ∷ xs) ys = ap (λ l. channel.mark ∷ l) (plain-append xs ys)
plain-append (channel.reset ∷ xs) ys = ap (λ l. channel.reset ∷ l) (plain-append xs ys)

-- the same steps are shown
abbrev AreSame : List LivesStep → List ChannelStep → Type 0
AreSame xs ys = without_lives xs ≡ without_acknowledgements ys

same_append : (xs xs' : List LivesStep) (ys ys' : List ChannelStep) → AreSame xs ys → AreSame xs' ys' → AreSame (xs ++ xs') (ys ++ ys')
same_append xs xs' ys ys' e g =
    without-append xs xs' ∙ ap (λ l. l ++ without_lives xs') e ∙ ap (λ l. without_acknowledgements ys ++ l) g ∙ sym (plain-append ys ys')

-- ---- an entry

none_shown : (g : SideFacts) (ms : List Content) → AreSame (map (λ m. acknowledge (key_of g m)) ms) []
none_shown g [] = refl
none_shown g (m ∷ ms) = none_shown g ms

all_accepted : (key : Key) (ms : List Content) → AreSame (map (accept key) ms) (map (channel.accept key) ms)
all_accepted key [] = refl
all_accepted key (m ∷ ms) = ap (λ l. channel.accept key m ∷ l) (all_accepted key ms)

sender_same : (g : SideFacts) (i : JournalItem) (s : State) → AreSame (shown_by_sender g i s) (observed.shown_by_sender g i)
sender_same g (item.post place (Some (to_post m))) s = refl
sender_same g (item.post place (Some to_dial)) s = refl
sender_same g (item.post place (Some to_go_down)) s = refl
sender_same g (item.post place None) s = refl
sender_same g (item.acked n) s = none_shown g (dropped_at n s.out.queue)
sender_same g (item.dial planned) s = refl
sender_same g (item.opened k) s = refl
sender_same g (item.read k bytes) s = refl
sender_same g (item.wrote k bytes) s = refl
sender_same g (item.closed k broken) s = refl
sender_same g (item.judged k ask n answer unread trail) s = refl
sender_same g (item.asked ident n) s = refl
sender_same g (item.numbered n) s = refl
sender_same g (item.accepted n key) s = refl
sender_same g (item.obeyed full) s = refl
sender_same g (item.down planned step) s = refl

reader_same : (i : JournalItem) (s : State) → AreSame (shown_by_reader i s) (observed.shown_by_reader i s)
reader_same (item.accepted n key) s = all_accepted key (brought_on s.last s.feed)
reader_same (item.post place planned) s = refl
reader_same (item.acked n) s = refl
reader_same (item.dial planned) s = refl
reader_same (item.opened k) s = refl
reader_same (item.read k bytes) s = refl
reader_same (item.wrote k bytes) s = refl
reader_same (item.closed k broken) s = refl
reader_same (item.judged k ask n answer unread trail) s = refl
reader_same (item.asked ident n) s = refl
reader_same (item.numbered n) s = refl
reader_same (item.obeyed full) s = refl
reader_same (item.down planned step) s = refl

down_same : (i : JournalItem) → AreSame (shown_down i) (observed.shown_down i)
down_same (item.down planned step) = refl
down_same (item.accepted n key) = refl
down_same (item.post place planned) = refl
down_same (item.acked n) = refl
down_same (item.dial planned) = refl
down_same (item.opened k) = refl
down_same (item.read k bytes) = refl
down_same (item.wrote k bytes) = refl
down_same (item.closed k broken) = refl
down_same (item.judged k ask n answer unread trail) = refl
down_same (item.asked ident n) = refl
down_same (item.numbered n) = refl
down_same (item.obeyed full) = refl

-- that a life begins is shown with lives alone
anew_same : (begins : Step → LivesStep) → ((t : Step) → without_lives (begins t ∷ []) ≡ []) → (o : Option Event) (s : Session) → AreSame (begins_told begins o s) []
anew_same begins none (Some e) s = at (step_of s e).effects.set_back
  where
    at : (b : Bool) → without_lives (if b then begins (step_of s e) ∷ [] else []) ≡ []
    at true = none (step_of s e)
    at false = refl
anew_same begins none None s = refl

reset_same : (b : Bool) → AreSame (shown_reset b) (observed.shown_reset b)
reset_same true = refl
reset_same false = refl

near_same : (f g : SideFacts) (i : JournalItem) (a b : State) → AreSame (shown_near f g i a b) (observed.shown_near f g i a b)
near_same f g i a b =
    same_append (shown_by_sender g i a ++ shown_down i ++ sends_anew f i a) (shown_reset (is_reset f i a b)) (observed.shown_by_sender g i ++ observed.shown_down i) (observed.shown_reset (is_reset f i a b))
    (without-append (shown_by_sender g i a ++ shown_down i) (sends_anew f i a)
    ∙ ap (λ l. without_lives (shown_by_sender g i a ++ shown_down i) ++ l) (anew_same (λ t. begins_sending t.session.server_cookie t.effects.discard) (λ t. refl) (event_at f i a) a.session)
    ∙ append-nil (without_lives (shown_by_sender g i a ++ shown_down i))
    ∙ same_append (shown_by_sender g i a) (shown_down i) (observed.shown_by_sender g i) (observed.shown_down i) (sender_same g i a) (down_same i))
    (reset_same (is_reset f i a b))

far_same : (g : SideFacts) (i : JournalItem) (a b : State) → AreSame (shown_far g i a b) (observed.shown_far g i a b)
far_same g i a b =
    same_append (shown_by_reader i b ++ shown_down i ++ receives_anew g i b) (shown_reset (is_reset g i b a)) (observed.shown_by_reader i b ++ observed.shown_down i) (observed.shown_reset (is_reset g i b a))
    (without-append (shown_by_reader i b ++ shown_down i) (receives_anew g i b)
    ∙ ap (λ l. without_lives (shown_by_reader i b ++ shown_down i) ++ l) (anew_same (λ t. begins_receiving t.session.server_cookie) (λ t. refl) (event_at g i b) b.session)
    ∙ append-nil (without_lives (shown_by_reader i b ++ shown_down i))
    ∙ same_append (shown_by_reader i b) (shown_down i) (observed.shown_by_reader i b) (observed.shown_down i) (reader_same i b) (down_same i))
    (reset_same (is_reset g i b a))

-- ---- all of it

order_same : (f g : SideFacts) (order : List SideItem) (a b : State) → AreSame (shown_from f g order a b) (observed.shown_from f g order a b)
order_same f g [] a b = refl
order_same f g (near_item i ∷ order) a b =
    same_append (shown_near f g i a b) (shown_from f g order (after f i a) b) (observed.shown_near f g i a b) (observed.shown_from f g order (after f i a) b)
    (near_same f g i a b) (order_same f g order (after f i a) b)
order_same f g (far_item i ∷ order) a b =
    same_append (shown_far g i a b) (shown_from f g order a (after g i b)) (observed.shown_far g i a b) (observed.shown_from f g order a (after g i b))
    (far_same g i a b) (order_same f g order a (after g i b))

log_same : (peer : ℕ) (log : List Heard) → AreSame (dispatched_from peer log) (observed.dispatched_from peer log)
log_same peer [] = refl
log_same peer (heard.message p key n life m ∷ log) = at (p == peer) (log_same peer log)
  where
    at : (b : Bool) → AreSame (dispatched_from peer log) (observed.dispatched_from peer log) →
        AreSame (map (λ (x : LifeMessage). dispatch x.life x.message.key x.message.message) (if b then record { life = life; message = keyed key m } ∷ heard_in_lives peer log else heard_in_lives peer log))
        (map (λ x. channel.dispatch x.key x.message) (if b then keyed key m ∷ observed.heard_from peer log else observed.heard_from peer log))
    at true e = ap (λ l. channel.dispatch key (keyed key m).message ∷ l) e
    at false e = e
log_same peer (heard.reset p ∷ log) = log_same peer log

pub show_the_same : LivesShowTheSame
show_the_same f g order logs =
    same_append (shown_from f g order (start f) (start g)) (dispatched_from f.node.number (all_of logs)) (observed.shown_from f g order (start f) (start g)) (observed.dispatched_from f.node.number (all_of logs))
    (order_same f g order (start f) (start g)) (log_same f.node.number (all_of logs))
