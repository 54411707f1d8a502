-- The queue is what calls have made of a new one, and no frame that was sent carries a global number above the greatest.
use Rattle.std.proofs.Common.{◌≡◌, ℕ, ◌+◌, ◌<◌, ◌≤◌, Bool, true, false, not, if◌then◌else◌, List, [], ◌∷◌, ◌++◌, map, Option, Some, None, refl, sym, ap, ◌∙◌, arith}
use Rattle.std.specs.List.{AllByRecursion}
use Rattle.std.specs.Prelude.{IfSome}
use Rattle.m2_session.specs.declared.ask.AskFacts.{AskFacts}
use Rattle.m2_fabric.specs.declared.socket.SocketId.{SocketId}
use Rattle.m2_message.specs.Message.{Content}
use Rattle.m2_policy.specs.declared.path.Key.{Key}
use Rattle.m2_queues.specs.QueueLaws.{Call, Post, Next, Sent, Acked, Requeue, Renumber, Discard, History, start_of, after_call}
use Rattle.m2_queues.proofs.Histories.{calls-append}
use Rattle.m2_session.specs.declared.answer.Answer.{Answer}
use Rattle.m2_session.specs.declared.answer.Answer.TheVariants as answer
use Rattle.m2_session.specs.declared.event.Event.{Event}
use Rattle.m2_session.specs.declared.event.Event.TheVariants as event
use Rattle.m2_session.specs.SessionLaws as session
use Rattle.m2_session.specs.Steps.{step_of}
use Rattle.m2_journal.specs.Feeds.{hears, next_said}
use Rattle.m2_journal.specs.Items as items
use Rattle.m2_journal.specs.Items.{JournalItem}
use Rattle.m2_journal.specs.Laws.{IsOfCalls, drawn_for}
use Rattle.m2_journal.specs.Lawful.{Lawful}
use Rattle.m2_journal.specs.OutFrames as out
use Rattle.m2_journal.specs.OutFrames.{OutFrame, is_unnamed, replies_of}
use Rattle.m2_journal.specs.Plan.{Planned, to_post, to_dial, to_go_down}
use Rattle.m2_journal.specs.Replay.{AreLawful, after_items}
use Rattle.m2_journal.specs.Said.{Said, says, brings, aborts, garbles}
use Rattle.m2_journal.specs.SideFacts.{SideFacts, cookie_of}
use Rattle.m2_journal.specs.State.{PartText, Feed, SentFrame, State, start}
use Rattle.m2_journal.specs.Steps.{accepts, acceptance, after, answers, breaks, closes, composes, discards, event_heard, event_of, forgets, has_effects, is_on, is_waiting, notes, on_feed_at, posts, puts, puts_on, queues, reads, sends, sends_late, sets_back, takes_answer, takes_answer_if, takes_socket, tells, tells_if, tells_of_reset, where_true, with_feed, writes_message}
use Rattle.m2_journal.proofs.Eventful.{on_feed}

-- a frame carries no number above this one
abbrev IsBelow : ℕ → OutFrame → Type 0
IsBelow top w = IfSome (drawn_for w) (λ n. n ≤ top)

abbrev AreBelow : ℕ → List SentFrame → Type 0
AreBelow top ws = AllByRecursion (λ w. IsBelow top w.frame) ws

pub record Draws (keeps : Bool) (s : State) : Type 0 where
  pub queue : IsOfCalls keeps s.out
  pub sent : AllByRecursion (λ w. IfSome (drawn_for w.frame) (λ n. n ≤ s.top)) s.sent

-- ---- lists

all-append : (top : ℕ) (vs ws : List SentFrame) → AreBelow top vs → AreBelow top ws → AreBelow top (vs ++ ws)
all-append top [] ws h g = g
all-append top (v ∷ vs) ws h g = (h.0, all-append top vs ws h.1 g)

at_socket : (k : SocketId) (top : ℕ) (ws : List OutFrame) → AllByRecursion (IsBelow top) ws →
    AreBelow top (map (λ (w : OutFrame). let x : SentFrame = record { socket = k; frame = w } in x) ws)
at_socket k top [] h = tt
at_socket k top (w ∷ ws) h = (h.0, at_socket k top ws h.1)

rises : (a b : ℕ) (o : Option ℕ) → a ≤ b → IfSome o (λ n. n ≤ a) → IfSome o (λ n. n ≤ b)
rises a b (Some n) le h = omega (arith, le, h)
rises a b None le h = tt

all-rise : (a b : ℕ) (ws : List SentFrame) → a ≤ b → AreBelow a ws → AreBelow b ws
all-rise a b [] le h = tt
all-rise a b (w ∷ ws) le h = (rises a b (drawn_for w.frame) le h.0, all-rise a b ws le h.1)

-- ---- steps

queues-draws : (keeps : Bool) (c : Call) (s : State) → Draws keeps s → Draws keeps (queues c s)
queues-draws keeps c s h = record {
  queue = (h.queue.0 ++ c ∷ [], ap (λ (q : History). after_call q c) h.queue.1 ∙ sym (calls-append (start_of keeps) h.queue.0 (c ∷ [])));
  sent = h.sent;
}

raises : (keeps : Bool) (n : ℕ) (s : State) → s.top < n → Draws keeps s → Draws keeps (record s { top = n })
raises keeps n s lt h = record { queue = h.queue; sent = all-rise s.top n s.sent (omega (arith, lt)) h.sent }

sends-draws : (keeps : Bool) (k : SocketId) (ws : List OutFrame) (s : State) → AllByRecursion (IsBelow s.top) ws →
    Draws keeps s → Draws keeps (sends k ws s)
sends-draws keeps k ws s below h = record { queue = h.queue; sent = all-append s.top s.sent _ h.sent (at_socket k s.top ws below) }

composes-draws : (keeps : Bool) (f : SideFacts) (w : OutFrame) (s : State) → IsBelow s.top w → Draws keeps s →
    Draws keeps (composes f w s)
composes-draws keeps f w s below h = at s.feed
  where
    at : (o : Option Feed) → Draws keeps (composes f w (record s { feed = o }))
    at (Some d) = record { queue = h.queue; sent = all-append s.top s.sent _ h.sent (below, tt) }
    at None = record { queue = h.queue; sent = h.sent }

-- ---- effects

where_true-draws : (keeps b : Bool) (change : State → State) (s : State) →
    ((t : State) → Draws keeps t → Draws keeps (change t)) → Draws keeps s → Draws keeps (where_true b change s)
where_true-draws keeps true change s each h = each s h
where_true-draws keeps false change s each h = h

closes-draws : (keeps : Bool) (s : State) → Draws keeps s → Draws keeps (closes s)
closes-draws keeps s h = at s.feed
  where
    at : (o : Option Feed) → Draws keeps (closes (record s { feed = o }))
    at (Some d) = record { queue = h.queue; sent = h.sent }
    at None = record { queue = h.queue; sent = h.sent }

sets_back-draws : (keeps : Bool) (s : State) → Draws keeps s → Draws keeps (sets_back s)
sets_back-draws keeps s h = at s.feed
  where
    numbered : Draws keeps (queues Renumber s)
    numbered = queues-draws keeps Renumber s h

    at : (o : Option Feed) → Draws keeps (sets_back (record s { feed = o }))
    at (Some d) = record { queue = numbered.queue; sent = h.sent }
    at None = record { queue = numbered.queue; sent = h.sent }

discards-draws : (keeps : Bool) (s : State) → Draws keeps s → Draws keeps (discards s)
discards-draws keeps s h = let q = queues-draws keeps Discard s h in record { queue = q.queue; sent = h.sent }

reset-draws : (keeps : Bool) (s : State) → Draws keeps s → Draws keeps (tells_of_reset s)
reset-draws keeps s h = record { queue = h.queue; sent = h.sent }

has_effects-draws : (keeps close requeue back discard remote_reset : Bool) (s : State) → Draws keeps s →
    Draws keeps (has_effects (record { close = close; requeue = requeue; set_back = back; discard = discard; remote_reset = remote_reset }) s)
has_effects-draws keeps close requeue back discard remote_reset s h =
    where_true-draws keeps remote_reset tells_of_reset _ (reset-draws keeps)
    (where_true-draws keeps discard discards _ (discards-draws keeps)
    (where_true-draws keeps back sets_back _ (sets_back-draws keeps)
    (where_true-draws keeps requeue (queues Requeue) _ (queues-draws keeps Requeue)
    (where_true-draws keeps close closes s (closes-draws keeps) h))))

tells-draws : (keeps : Bool) (e : Event) (s : State) → Draws keeps s → Draws keeps (tells e s)
tells-draws keeps e s h =
    let o = (step_of s.session e).effects in
    has_effects-draws keeps o.close o.requeue o.set_back o.discard o.remote_reset (record s { session = (step_of s.session e).session }) (record { queue = h.queue; sent = h.sent })

tells_if-draws : (keeps : Bool) (o : Option Event) (s : State) → Draws keeps s → Draws keeps (tells_if o s)
tells_if-draws keeps (Some e) s h = tells-draws keeps e s h
tells_if-draws keeps None s h = h

-- no event changes the greatest number
where_true-top : (b : Bool) (change : State → State) (s : State) → (change s).top ≡ s.top →
    (where_true b change s).top ≡ s.top
where_true-top true change s e = e
where_true-top false change s e = refl

closes-top : (s : State) → (closes s).top ≡ s.top
closes-top s = at s.feed
  where
    at : (o : Option Feed) → (closes (record s { feed = o })).top ≡ s.top
    at (Some d) = refl
    at None = refl

sets_back-top : (s : State) → (sets_back s).top ≡ s.top
sets_back-top s = at s.feed
  where
    at : (o : Option Feed) → (sets_back (record s { feed = o })).top ≡ s.top
    at (Some d) = refl
    at None = refl

tells-top : (e : Event) (s : State) → (tells e s).top ≡ s.top
tells-top e s =
    let o = (step_of s.session e).effects in
    let t = record s { session = (step_of s.session e).session } in
    let closed = where_true o.close closes t in
    let queued = where_true o.requeue (queues Requeue) closed in
    let low = where_true o.set_back sets_back queued in
    let thrown = where_true o.discard discards low in
    where_true-top o.remote_reset tells_of_reset thrown refl
    ∙ (where_true-top o.discard discards low refl
    ∙ (where_true-top o.set_back sets_back queued (sets_back-top queued)
    ∙ (where_true-top o.requeue (queues Requeue) closed refl
    ∙ where_true-top o.close closes t (closes-top t))))

tells_if-top : (o : Option Event) (s : State) → (tells_if o s).top ≡ s.top
tells_if-top (Some e) s = tells-top e s
tells_if-top None s = refl

-- ---- what composes and sends

at_most : (n m : ℕ) → m ≡ n → n ≤ m
at_most n m e = omega (arith, e)

unnamed-below : (top : ℕ) (w : OutFrame) → is_unnamed w ≡ true → IsBelow top w
unnamed-below top (out.acknowledgement n) e = tt
unnamed-below top (out.keepalive_answer k) e = tt
unnamed-below top out.greeting e = tt
unnamed-below top (out.reconnect_ok seen) e = tt
unnamed-below top (out.reset full) e = tt
unnamed-below top (out.retry n) e = tt
unnamed-below top (out.retry_global n) e = tt
unnamed-below top out.wait e = tt
unnamed-below top (out.message n acked m) e = tt
unnamed-below top (out.ident cookie n) e = cc
unnamed-below top (out.reconnect client server n connect seen) e = cc
unnamed-below top (out.server_ident cookie n) e = cc

replies-below : (top : ℕ) (a : Answer) → AllByRecursion (IsBelow top) (replies_of a)
replies-below top answer.Accept = tt
replies-below top answer.AcceptOver = tt
replies-below top (answer.AcceptReset full) = tt
replies-below top answer.AcceptAgain = tt
replies-below top answer.AcceptReplace = tt
replies-below top answer.AcceptRace = tt
replies-below top answer.Close = tt
replies-below top answer.Wait = (tt, tt)
replies-below top (answer.Reset full) = (tt, tt)
replies-below top answer.ResetPending = (tt, tt)
replies-below top (answer.RetryGlobal n) = (tt, tt)
replies-below top (answer.Retry n) = (tt, tt)
replies-below top answer.Resume = tt

sends_late-draws : (keeps : Bool) (k : SocketId) (w : OutFrame) (s : State) → Draws keeps s →
    Draws keeps (sends_late k w s)
sends_late-draws keeps k w s h = at (is_unnamed w) refl
  where
    at : (b : Bool) → is_unnamed w ≡ b → Draws keeps (if b then sends k (w ∷ []) s else s)
    at true e = sends-draws keeps k (w ∷ []) s (unnamed-below s.top w e, tt) h
    at false e = h

puts_on-draws : (keeps : Bool) (o : Option PartText) (texts : List PartText) (d : Feed) (s : State) → Draws keeps s →
    Draws keeps (puts_on o texts d s)
puts_on-draws keeps (Some t) texts d s h = sends_late-draws keeps d.socket t.frame _ (record { queue = h.queue; sent = h.sent })
puts_on-draws keeps None texts d s h = record { queue = h.queue; sent = h.sent }

writes_message-draws : (keeps : Bool) (f : SideFacts) (n : ℕ) (o : Option Content) (s : State) → Draws keeps s →
    Draws keeps (writes_message f n o s)
writes_message-draws keeps f n (Some m) s h = queues-draws keeps Sent _ (composes-draws keeps f (out.message n s.last m) s tt h)
writes_message-draws keeps f n None s h = h

posts-draws : (keeps : Bool) (o : Option Planned) (s : State) → Draws keeps s → Draws keeps (posts o s)
posts-draws keeps (Some (to_post m)) s h = queues-draws keeps (Post m) s h
posts-draws keeps (Some to_dial) s h = h
posts-draws keeps (Some to_go_down) s h = h
posts-draws keeps None s h = h

accepts-draws : (keeps : Bool) (n : ℕ) (key : Key) (o : Option Said) (d : Feed) (s : State) → Draws keeps s →
    Draws keeps (accepts n key o d s)
accepts-draws keeps n key (Some (brings m)) d s h = record { queue = h.queue; sent = h.sent }
accepts-draws keeps n key (Some (says c)) d s h = h
accepts-draws keeps n key (Some aborts) d s h = h
accepts-draws keeps n key (Some garbles) d s h = h
accepts-draws keeps n key None d s h = h

-- ---- what is judged

acceptance-below : (a : AskFacts) (n : ℕ) (s : State) → n ≤ s.top → IsBelow s.top (acceptance a n s)
acceptance-below a n s le = at a.ident
  where
    at : (b : Bool) → IsBelow s.top (if b then out.server_ident s.session.server_cookie n else out.reconnect_ok s.last)
    at true = le
    at false = tt

answers-draws : (keeps : Bool) (f : SideFacts) (k : SocketId) (a : AskFacts) (n : ℕ) (given : Answer) (unread : List ℕ) (s : State) →
    n ≤ s.top → Draws keeps s → Draws keeps (answers f k a n given unread s)
answers-draws keeps f k a n given unread s le h = at (session.takes given)
  where
    at : (b : Bool) → Draws keeps (if b then takes_socket f k a n unread s else sends k (replies_of given) s)
    at true = record { queue = h.queue; sent = all-append s.top s.sent _ h.sent (acceptance-below a n s le, tt) }
    at false = sends-draws keeps k (replies_of given) s (replies-below s.top given) h

-- ---- each entry

asked-below : (keeps : Bool) (f : SideFacts) (e : Event) (w : OutFrame) (n : ℕ) (s : State) → s.top < n →
    drawn_for w ≡ Some n → Draws keeps s →
    Draws keeps (composes f w (tells e (record s { top = n })))
asked-below keeps f e w n s lt is h =
    let t = tells e (record s { top = n }) in
    composes-draws keeps f w t (rw is (at_most n t.top (tells-top e (record s { top = n })))) (tells-draws keeps e _ (raises keeps n s lt h))

after-draws : (f : SideFacts) (keeps : Bool) (i : JournalItem) (s : State) → Lawful f i s → Draws keeps s →
    Draws keeps (after f i s)
after-draws f keeps (items.post place planned) s law h = posts-draws keeps planned (record s { steps = s.steps + 1 }) (record { queue = h.queue; sent = h.sent })
after-draws f keeps (items.dial planned) s law h = record { queue = h.queue; sent = h.sent }
after-draws f keeps (items.opened k) s law h = let t = tells-draws keeps event.Dialled s h in record { queue = t.queue; sent = t.sent }
after-draws f keeps (items.read k bytes) s law h = at s.feed
  where
    at : (o : Option Feed) → Draws keeps (on_feed_at o (λ d. reads f (hears bytes d)) (record s { feed = o }))
    at (Some d) =
        let e = hears bytes d in
        let o = event_heard f s.session.phase e in
        tells_if-draws keeps o (with_feed (takes_answer_if o e) (record s { feed = Some d })) (record { queue = h.queue; sent = h.sent })
    at None = record { queue = h.queue; sent = h.sent }
after-draws f keeps (items.wrote k bytes) s law h = at s.feed
  where
    at : (o : Option Feed) → Draws keeps (on_feed_at o (puts f bytes) (record s { feed = o }))
    at (Some d) = puts_on-draws keeps _ _ d (record s { feed = Some d }) (record { queue = h.queue; sent = h.sent })
    at None = record { queue = h.queue; sent = h.sent }
after-draws f keeps (items.closed k broken) s law h = at (is_on k s.feed)
  where
    at : (b : Bool) → Draws keeps (if b then breaks s else forgets k s)
    at true = let t = tells-draws keeps (event.Faulted (is_waiting s)) s h in record { queue = t.queue; sent = t.sent }
    at false = record { queue = h.queue; sent = h.sent }
after-draws f keeps (items.judged k a n given unread trail) s law h =
    let o = event_of f a n given in
    let t = notes k a n given s in
    let raised = raises keeps n s law.unused.from h in
    answers-draws keeps f k a n given unread (tells_if o t) (at_most n (tells_if o t).top (tells_if-top o t))
    (tells_if-draws keeps o t (record { queue = raised.queue; sent = raised.sent }))
after-draws f keeps (items.asked true n) s law h = asked-below keeps f (event.AskedIdent (cookie_of f n)) _ n s (on_feed s.feed law).1.unused.from refl h
after-draws f keeps (items.asked false n) s law h = asked-below keeps f event.AskedReconnect _ n s (on_feed s.feed law).1.unused.from refl h
after-draws f keeps (items.numbered n) s law h = writes_message-draws keeps f n _ _ (queues-draws keeps Next s h)
after-draws f keeps (items.accepted n key) s law h = at s.feed
  where
    at : (o : Option Feed) →
        Draws keeps (on_feed_at o (λ d. accepts n key (next_said s.last d) d) (record s { feed = o }))
    at (Some d) = accepts-draws keeps n key (next_said s.last d) d (record s { feed = Some d }) (record { queue = h.queue; sent = h.sent })
    at None = record { queue = h.queue; sent = h.sent }
after-draws f keeps (items.acked n) s law h = queues-draws keeps (Acked n) s h
after-draws f keeps (items.obeyed full) s law h = at s.feed
  where
    at : (o : Option Feed) →
        Draws keeps (on_feed_at o (λ d t. tells (event.GotReset full) (with_feed (takes_answer d) t)) (record s { feed = o }))
    at (Some d) = tells-draws keeps (event.GotReset full) (with_feed (takes_answer d) (record s { feed = Some d })) (record { queue = h.queue; sent = h.sent })
    at None = record { queue = h.queue; sent = h.sent }
after-draws f keeps (items.down planned step) s law h = let t = tells-draws keeps event.MarkedDown s h in record { queue = t.queue; sent = t.sent }

all-draw : (f : SideFacts) (keeps : Bool) (is : List JournalItem) (s : State) → AreLawful f is s → Draws keeps s →
    Draws keeps (after_items f is s)
all-draw f keeps [] s law h = h
all-draw f keeps (i ∷ is) s law h = all-draw f keeps is (after f i s) law.1 (after-draws f keeps i s law.0 h)

pub draws : (f : SideFacts) (is : List JournalItem) → AreLawful f is (start f) →
    Draws (not f.policy.lossy) (after_items f is (start f))
draws f is law = all-draw f (not f.policy.lossy) is (start f) law (record { queue = ([], refl); sent = tt })
