-- A life of the replay begins where numbers are set back, and is named there.
use Rattle.std.proofs.Common.{◌≡◌, ℕ, ◌+◌, Bool, true, false, List, [], ◌∷◌, Option, Some, None, refl, ap, ◌∙◌}
use Rattle.std.specs.Prelude.{if◌then◌else◌}
use Rattle.m2_session.specs.declared.ask.AskFacts.{AskFacts}
use Rattle.m2_fabric.specs.declared.socket.SocketId.{SocketId}
use Rattle.m2_message.specs.Message.{Content}
use Rattle.m2_policy.specs.declared.path.Key.{Key}
use Rattle.m2_session.specs.declared.answer.Answer.{Answer}
use Rattle.m2_session.specs.declared.event.Event.{Event}
use Rattle.m2_session.specs.declared.event.Event.TheVariants as event
use Rattle.m2_session.specs.declared.session.Session.{Session}
use Rattle.m2_session.specs.SessionLaws as session
use Rattle.m2_session.specs.Steps.{step_of}
use Rattle.m2_journal.specs.Feeds.{hears, next_said}
use Rattle.m2_journal.specs.Items as items
use Rattle.m2_journal.specs.Laws.{LivesBeginWhereNumbersDo, life_told}
use Rattle.m2_journal.specs.OutFrames as out
use Rattle.m2_journal.specs.OutFrames.{OutFrame, is_unnamed}
use Rattle.m2_journal.specs.Plan.{Planned, to_post, to_dial, to_go_down}
use Rattle.m2_journal.specs.Said.{Said, says, brings, aborts, garbles}
use Rattle.m2_journal.specs.SideFacts.{SideFacts, cookie_of}
use Rattle.m2_journal.specs.State.{PartText, Feed, State}
use Rattle.m2_journal.specs.Steps.{where_true, closes, sets_back, has_effects, tells, tells_if, on_feed_at, posts, composes, sends, sends_late, puts_on, puts, reads, closes_socket, breaks, forgets, is_on, writes_message, accepts, answers, notes, takes_answer, takes_socket, with_feed, is_waiting, event_of, event_on, event_heard}
use Rattle.m2_journal.proofs.Sessions.{effects-keep}

-- ---- what leaves the life as it is, and what begins one

left : (o : Option Feed) (s : State) → (closes (record s { feed = o })).life ≡ s.life
left None s = refl
left (Some d) s = refl

begins : (o : Option Feed) (s : State) → (sets_back (record s { feed = o })).life ≡ s.session.server_cookie
begins None s = refl
begins (Some d) s = refl

effects-life : (close requeue back discard remote_reset : Bool) (s : State) →
    (has_effects (record { close = close; requeue = requeue; set_back = back; discard = discard; remote_reset = remote_reset }) s).life ≡ (if back then s.session.server_cookie else s.life)
effects-life close requeue back discard remote_reset s = by_reset remote_reset
  where
    closed : (c : Bool) → (where_true c closes s).life ≡ s.life
    closed true = left s.feed s
    closed false = refl

    queued : (r : Bool) → (has_effects (record { close = close; requeue = r; set_back = false; discard = false; remote_reset = false }) s).life ≡ s.life
    queued true = closed close
    queued false = closed close

    low : (b : Bool) → (has_effects (record { close = close; requeue = requeue; set_back = b; discard = false; remote_reset = false }) s).life ≡ (if b then s.session.server_cookie else s.life)
    low true =
        let before = has_effects (record { close = close; requeue = requeue; set_back = false; discard = false; remote_reset = false }) s in
        begins before.feed before ∙ ap (λ (x : Session). x.server_cookie) (effects-keep close requeue false false false s)
    low false = queued requeue

    thrown : (d : Bool) → (has_effects (record { close = close; requeue = requeue; set_back = back; discard = d; remote_reset = false }) s).life ≡ (if back then s.session.server_cookie else s.life)
    thrown true = low back
    thrown false = low back

    by_reset : (r : Bool) → (has_effects (record { close = close; requeue = requeue; set_back = back; discard = discard; remote_reset = r }) s).life ≡ (if back then s.session.server_cookie else s.life)
    by_reset true = thrown discard
    by_reset false = thrown discard

-- ---- what tells the session

tells-life : (e : Event) (s : State) → (tells e s).life ≡ life_told (Some e) s.session s.life
tells-life e s =
    let o = (step_of s.session e).effects in
    effects-life o.close o.requeue o.set_back o.discard o.remote_reset (record s { session = (step_of s.session e).session })

told-life : (o : Option Event) (s : State) → (tells_if o s).life ≡ life_told o s.session s.life
told-life (Some e) s = tells-life e s
told-life None s = refl

composes-stays : (f : SideFacts) (w : OutFrame) (s : State) → (composes f w s).life ≡ s.life
composes-stays f w s = at s.feed
  where
    at : (o : Option Feed) → (composes f w (record s { feed = o })).life ≡ s.life
    at (Some d) = refl
    at None = refl

sends_late-stays : (k : SocketId) (w : OutFrame) (s : State) → (sends_late k w s).life ≡ s.life
sends_late-stays k w s = by_name (is_unnamed w)
  where
    by_name : (b : Bool) → (if b then sends k (w ∷ []) s else s).life ≡ s.life
    by_name true = refl
    by_name false = refl

pub puts_on-stays : (o : Option PartText) (texts : List PartText) (d : Feed) (s : State) → (puts_on o texts d s).life ≡ s.life
puts_on-stays (Some t) texts d s = sends_late-stays d.socket t.frame _
puts_on-stays None texts d s = refl

writes_message-stays : (f : SideFacts) (n : ℕ) (o : Option Content) (s : State) → (writes_message f n o s).life ≡ s.life
writes_message-stays f n (Some m) s = composes-stays f (out.message n s.last m) s
writes_message-stays f n None s = refl

accepts-stays : (n : ℕ) (key : Key) (o : Option Said) (d : Feed) (s : State) → (accepts n key o d s).life ≡ s.life
accepts-stays n key (Some (brings m)) d s = refl
accepts-stays n key (Some (says c)) d s = refl
accepts-stays n key (Some aborts) d s = refl
accepts-stays n key (Some garbles) d s = refl
accepts-stays n key None d s = refl

posts-stays : (o : Option Planned) (s : State) → (posts o s).life ≡ s.life
posts-stays (Some (to_post m)) s = refl
posts-stays (Some to_dial) s = refl
posts-stays (Some to_go_down) s = refl
posts-stays None s = refl

answers-stays : (f : SideFacts) (k : SocketId) (a : AskFacts) (n : ℕ) (answer : Answer) (unread : List ℕ) (s : State) → (answers f k a n answer unread s).life ≡ s.life
answers-stays f k a n answer unread s = by_taking (session.takes answer)
  where
    by_taking : (b : Bool) → (if b then takes_socket f k a n unread s else sends k (out.replies_of answer) s).life ≡ s.life
    by_taking true = refl
    by_taking false = refl

closes_socket-life : (k : SocketId) (s : State) → (closes_socket k s).life ≡ life_told (if is_on k s.feed then Some (event.Faulted (is_waiting s)) else None) s.session s.life
closes_socket-life k s = by_place (is_on k s.feed)
  where
    by_place : (b : Bool) → (if b then breaks s else forgets k s).life ≡ life_told (if b then Some (event.Faulted (is_waiting s)) else None) s.session s.life
    by_place true = tells-life (event.Faulted (is_waiting s)) s
    by_place false = refl

-- ---- each entry

pub are_named : LivesBeginWhereNumbersDo
are_named f (items.post place planned) s = posts-stays planned (record s { steps = s.steps + 1 })
are_named f (items.dial planned) s = refl
are_named f (items.opened k) s = tells-life event.Dialled s
are_named f (items.read k bytes) s = at s.feed
  where
    at : (o : Option Feed) → (on_feed_at o (λ d. reads f (hears bytes d)) s).life ≡ life_told (event_on o (λ d. event_heard f s.session.phase (hears bytes d))) s.session s.life
    at (Some d) = told-life (event_heard f s.session.phase (hears bytes d)) _
    at None = refl
are_named f (items.wrote k bytes) s = at s.feed
  where
    at : (o : Option Feed) → (on_feed_at o (puts f bytes) s).life ≡ s.life
    at (Some d) = puts_on-stays _ _ d s
    at None = refl
are_named f (items.closed k broken) s = closes_socket-life k s
are_named f (items.judged k a n answer unread trail) s =
    answers-stays f k a n answer unread (tells_if (event_of f a n answer) (notes k a n answer s)) ∙ told-life (event_of f a n answer) (notes k a n answer s)
are_named f (items.asked true n) s = composes-stays f _ (tells (event.AskedIdent (cookie_of f n)) (record s { top = n })) ∙ tells-life (event.AskedIdent (cookie_of f n)) (record s { top = n })
are_named f (items.asked false n) s = composes-stays f _ (tells event.AskedReconnect (record s { top = n })) ∙ tells-life event.AskedReconnect (record s { top = n })
are_named f (items.numbered n) s = writes_message-stays f n _ _
are_named f (items.accepted n key) s = at s.feed
  where
    at : (o : Option Feed) → (on_feed_at o (λ d. accepts n key (next_said s.last d) d) s).life ≡ s.life
    at (Some d) = accepts-stays n key (next_said s.last d) d s
    at None = refl
are_named f (items.acked n) s = refl
are_named f (items.obeyed full) s = at s.feed
  where
    at : (o : Option Feed) → (on_feed_at o (λ d t. tells (event.GotReset full) (with_feed (takes_answer d) t)) s).life ≡ life_told (event_on o (λ d. Some (event.GotReset full))) s.session s.life
    at (Some d) = tells-life (event.GotReset full) (with_feed (takes_answer d) s)
    at None = refl
are_named f (items.down planned step) s = tells-life event.MarkedDown s
