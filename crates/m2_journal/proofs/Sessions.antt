-- The replayed session goes by the table of steps.
use Rattle.std.proofs.Common.{◌≡◌, ℕ, ◌+◌, Bool, true, false, List, [], ◌∷◌, Option, Some, None, refl, ◌∙◌}
use Rattle.std.specs.Prelude.{if◌then◌else◌}
use Rattle.m2_session.specs.declared.ask.AskFacts.{AskFacts}
use Rattle.m2_fabric.specs.declared.socket.SocketId.{SocketId}
use Rattle.m2_message.specs.Message.{Content}
use Rattle.m2_policy.specs.declared.path.Key.{Key}
use Rattle.m2_session.specs.declared.answer.Answer.{Answer}
use Rattle.m2_session.specs.declared.event.Event.{Event}
use Rattle.m2_session.specs.declared.event.Event.TheVariants as event
use Rattle.m2_session.specs.SessionLaws as session
use Rattle.m2_session.specs.Steps.{step_of}
use Rattle.m2_journal.specs.Feeds.{hears, next_said}
use Rattle.m2_journal.specs.Items as items
use Rattle.m2_journal.specs.Laws.{SessionGoesByTheTable}
use Rattle.m2_journal.specs.OutFrames as out
use Rattle.m2_journal.specs.OutFrames.{OutFrame, is_unnamed}
use Rattle.m2_journal.specs.Plan.{Planned, to_post, to_dial, to_go_down}
use Rattle.m2_journal.specs.Said.{Said, says, brings, aborts, garbles}
use Rattle.m2_journal.specs.SideFacts.{SideFacts, cookie_of}
use Rattle.m2_journal.specs.State.{PartText, Feed, State}
use Rattle.m2_journal.specs.Steps.{after, where_true, closes, lowers, sets_back, has_effects, tells, tells_if, on_feed_at, posts, composes, sends, sends_late, puts_on, puts, puts_whole, reads, closes_socket, breaks, forgets, is_on, writes_message, accepts, answers, notes, judges, takes_answer, takes_socket, with_feed, is_waiting, event_of, event_on, event_heard}

-- ---- what leaves the session as it is

left : (o : Option Feed) (s : State) → (closes (record s { feed = o })).session ≡ s.session
left None s = refl
left (Some d) s = refl

set_back : (o : Option Feed) (s : State) → (sets_back (record s { feed = o })).session ≡ s.session
set_back None s = refl
set_back (Some d) s = refl

where_true-keeps : (b : Bool) (change : State → State) (s : State) → (change s).session ≡ s.session → (where_true b change s).session ≡ s.session
where_true-keeps true change s e = e
where_true-keeps false change s e = refl

pub effects-keep : (close requeue back discard remote_reset : Bool) (s : State) →
    (has_effects (record { close = close; requeue = requeue; set_back = back; discard = discard; remote_reset = remote_reset }) s).session ≡ s.session
effects-keep close requeue back discard remote_reset s = by_reset remote_reset
  where
    closed : (c : Bool) → (where_true c closes s).session ≡ s.session
    closed true = left s.feed s
    closed false = refl

    queued : (r : Bool) → (has_effects (record { close = close; requeue = r; set_back = false; discard = false; remote_reset = false }) s).session ≡ s.session
    queued true = closed close
    queued false = closed close

    low : (b : Bool) → (has_effects (record { close = close; requeue = requeue; set_back = b; discard = false; remote_reset = false }) s).session ≡ s.session
    low true =
        let before = has_effects (record { close = close; requeue = requeue; set_back = false; discard = false; remote_reset = false }) s in
        set_back before.feed before ∙ queued requeue
    low false = queued requeue

    thrown : (d : Bool) → (has_effects (record { close = close; requeue = requeue; set_back = back; discard = d; remote_reset = false }) s).session ≡ s.session
    thrown true = low back
    thrown false = low back

    by_reset : (r : Bool) → (has_effects (record { close = close; requeue = requeue; set_back = back; discard = discard; remote_reset = r }) s).session ≡ s.session
    by_reset true = thrown discard
    by_reset false = thrown discard

-- ---- what tells it

pub tells-session : (e : Event) (s : State) → (tells e s).session ≡ (step_of s.session e).session
tells-session e s =
    let o = (step_of s.session e).effects in
    effects-keep o.close o.requeue o.set_back o.discard o.remote_reset (record s { session = (step_of s.session e).session })

pub told-session : (o : Option Event) (s : State) → (tells_if o s).session ≡ session.told s.session o
told-session (Some e) s = tells-session e s
told-session None s = refl

composes-keeps : (f : SideFacts) (w : OutFrame) (s : State) → (composes f w s).session ≡ s.session
composes-keeps f w s = at s.feed
  where
    at : (o : Option Feed) → (composes f w (record s { feed = o })).session ≡ s.session
    at (Some d) = refl
    at None = refl

sends_late-keeps : (k : SocketId) (w : OutFrame) (s : State) → (sends_late k w s).session ≡ s.session
sends_late-keeps k w s = by_name (is_unnamed w)
  where
    by_name : (b : Bool) → (if b then sends k (w ∷ []) s else s).session ≡ s.session
    by_name true = refl
    by_name false = refl

puts_on-keeps : (o : Option PartText) (texts : List PartText) (d : Feed) (s : State) → (puts_on o texts d s).session ≡ s.session
puts_on-keeps (Some t) texts d s = sends_late-keeps d.socket t.frame _
puts_on-keeps None texts d s = refl

writes_message-keeps : (f : SideFacts) (n : ℕ) (o : Option Content) (s : State) → (writes_message f n o s).session ≡ s.session
writes_message-keeps f n (Some m) s = composes-keeps f (out.message n s.last m) s
writes_message-keeps f n None s = refl

accepts-keeps : (n : ℕ) (key : Key) (o : Option Said) (d : Feed) (s : State) → (accepts n key o d s).session ≡ s.session
accepts-keeps n key (Some (brings m)) d s = refl
accepts-keeps n key (Some (says c)) d s = refl
accepts-keeps n key (Some aborts) d s = refl
accepts-keeps n key (Some garbles) d s = refl
accepts-keeps n key None d s = refl

posts-keeps : (o : Option Planned) (s : State) → (posts o s).session ≡ s.session
posts-keeps (Some (to_post m)) s = refl
posts-keeps (Some to_dial) s = refl
posts-keeps (Some to_go_down) s = refl
posts-keeps None s = refl

answers-keeps : (f : SideFacts) (k : SocketId) (a : AskFacts) (n : ℕ) (answer : Answer) (unread : List ℕ) (s : State) → (answers f k a n answer unread s).session ≡ s.session
answers-keeps f k a n answer unread s = by_taking (session.takes answer)
  where
    by_taking : (b : Bool) → (if b then takes_socket f k a n unread s else sends k (out.replies_of answer) s).session ≡ s.session
    by_taking true = refl
    by_taking false = refl

closes_socket-session : (k : SocketId) (s : State) → (closes_socket k s).session ≡ session.told s.session (if is_on k s.feed then Some (event.Faulted (is_waiting s)) else None)
closes_socket-session k s = by_place (is_on k s.feed)
  where
    by_place : (b : Bool) → (if b then breaks s else forgets k s).session ≡ session.told s.session (if b then Some (event.Faulted (is_waiting s)) else None)
    by_place true = tells-session (event.Faulted (is_waiting s)) s
    by_place false = refl

-- ---- each entry

pub goes : SessionGoesByTheTable
goes f (items.post place planned) s = posts-keeps planned (record s { steps = s.steps + 1 })
goes f (items.dial planned) s = refl
goes f (items.opened k) s = tells-session event.Dialled s
goes f (items.read k bytes) s = at s.feed
  where
    at : (o : Option Feed) → (on_feed_at o (λ d. reads f (hears bytes d)) s).session ≡ session.told s.session (event_on o (λ d. event_heard f s.session.phase (hears bytes d)))
    at (Some d) = told-session (event_heard f s.session.phase (hears bytes d)) _
    at None = refl
goes f (items.wrote k bytes) s = at s.feed
  where
    at : (o : Option Feed) → (on_feed_at o (puts f bytes) s).session ≡ s.session
    at (Some d) = puts_on-keeps _ _ d s
    at None = refl
goes f (items.closed k broken) s = closes_socket-session k s
goes f (items.judged k a n answer unread trail) s =
    answers-keeps f k a n answer unread (tells_if (event_of f a n answer) (notes k a n answer s)) ∙ told-session (event_of f a n answer) (notes k a n answer s)
goes f (items.asked true n) s = composes-keeps f _ (tells (event.AskedIdent (cookie_of f n)) (record s { top = n })) ∙ tells-session (event.AskedIdent (cookie_of f n)) (record s { top = n })
goes f (items.asked false n) s = composes-keeps f _ (tells event.AskedReconnect (record s { top = n })) ∙ tells-session event.AskedReconnect (record s { top = n })
goes f (items.numbered n) s = writes_message-keeps f n _ _
goes f (items.accepted n key) s = at s.feed
  where
    at : (o : Option Feed) → (on_feed_at o (λ d. accepts n key (next_said s.last d) d) s).session ≡ s.session
    at (Some d) = accepts-keeps n key (next_said s.last d) d s
    at None = refl
goes f (items.acked n) s = refl
goes f (items.obeyed full) s = at s.feed
  where
    at : (o : Option Feed) → (on_feed_at o (λ d t. tells (event.GotReset full) (with_feed (takes_answer d) t)) s).session ≡ session.told s.session (event_on o (λ d. Some (event.GotReset full)))
    at (Some d) = tells-session (event.GotReset full) (with_feed (takes_answer d) s)
    at None = refl
goes f (items.down planned step) s = tells-session event.MarkedDown s
