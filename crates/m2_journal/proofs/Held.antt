-- The feed is a socket that was opened, or taken by an answer; no socket was spent twice, nor the feed.
use Rattle.std.proofs.Common.{◌≡◌, ℕ, ◌+◌, Bool, true, false, not, if◌then◌else◌, List, [], ◌∷◌, ◌++◌, Option, Some, None, refl, sym, ap, subst, ◌∙◌}
use Rattle.std.specs.List.{AllByRecursion, IsDistinct}
use Rattle.m2_session.specs.declared.ask.AskFacts.{AskFacts}
use Rattle.m2_fabric.specs.declared.socket.SocketId.{SocketId}
use Rattle.m2_fabric.specs.Sockets.{is_among, same_socket}
use Rattle.m2_handshake.specs.Course.{course_of}
use Rattle.m2_message.specs.Message.{Content}
use Rattle.m2_policy.specs.declared.path.Key.{Key}
use Rattle.m2_queues.specs.OutQueues.{message_at}
use Rattle.m2_queues.specs.QueueLaws.{Next, Requeue}
use Rattle.m2_session.specs.declared.answer.Answer.{Answer}
use Rattle.m2_session.specs.declared.event.Event.{Event}
use Rattle.m2_session.specs.declared.event.Event.TheVariants as event
use Rattle.m2_session.specs.SessionLaws as session
use Rattle.m2_session.specs.Steps.{step_of}
use Rattle.m2_journal.specs.declared.entry.JudgedItem.{JudgedItem}
use Rattle.m2_journal.specs.Feeds.{goes_on, hears, next_said, silent_feed}
use Rattle.m2_journal.specs.Items as items
use Rattle.m2_journal.specs.Items.{JournalItem}
use Rattle.m2_journal.specs.Laws.{IfFed, taken_among}
use Rattle.m2_journal.specs.Lawful.{Lawful}
use Rattle.m2_journal.specs.OutFrames as out
use Rattle.m2_journal.specs.OutFrames.{OutFrame, is_unnamed, replies_of}
use Rattle.m2_journal.specs.Plan.{Planned, to_post, to_dial, to_go_down}
use Rattle.m2_journal.specs.Replay.{AreLawful, after_items}
use Rattle.m2_journal.specs.Said.{Said, says, brings, aborts, garbles}
use Rattle.m2_journal.specs.SideFacts.{SideFacts, cookie_of, opener_half}
use Rattle.m2_journal.specs.State.{PartText, Feed, State, start}
use Rattle.m2_journal.specs.Steps.{accepts, after, answers, breaks, closes, composes, discards, event_heard, event_of, forgets, has_effects, is_on, is_waiting, notes, on_feed_at, posts, puts, puts_on, queues, reads, sends, sends_late, sets_back, takes_answer, takes_answer_if, takes_socket, tells, tells_if, tells_of_reset, where_true, with_feed, without, writes_message}
use Rattle.m2_journal.proofs.Sockets.{Came, CameSo, Grows, Names, all-kept, all-weaker, among-kept, came_so, distinct-kept, distinct-none, distinct-push, fresh, judgement, more_so, names_of, not_judged, not_taken, taken-append, taken-last}
use Rattle.m2_fabric.proofs.Sockets.{among_last, among_front}
use Rattle.m2_journal.proofs.SameFeed.{SameFeed, goes_on-same, hears-same, takes_answer_if-same}
use Rattle.m2_bytes.proofs.m2_lemmas.Lists.{all_last}

-- Of those that came so, where the record's names are now these: the feed came, in its own way; so did all that was spent,
-- which is nothing twice and not the feed.
abbrev pub HoldsOn : Names → Names → Option Feed → State → Type 0
HoldsOn came now o s =
    (names_of s ≡ now) × IfFed o (λ d. Came came d.opened d.socket) × AllByRecursion (CameSo came) s.spent × IsDistinct same_socket s.spent
    × IfFed o (λ d. is_among d.socket s.spent ≡ false)

abbrev pub Holds : Names → Names → State → Type 0
Holds came now s = HoldsOn came now s.feed s

abbrev pub Held : State → Type 0
Held s = Holds (names_of s) (names_of s) s

settles : (n : Names) (s : State) → Holds n n s → Held s
settles n s h = subst (λ (m : Names). Holds m m s) (sym h.0) h

-- ---- feeds

-- another feed on the same socket
stays : (came now : Names) (d e : Feed) (s : State) → SameFeed d e → HoldsOn came now (Some d) s →
    HoldsOn came now (Some e) s
stays came now d e s same h = (h.0, rw (same.0, same.1) h.1, h.2, h.3, rw same.0 h.4)

-- ---- effects

where_true-holds : (came now : Names) (b : Bool) (change : State → State) (s : State) →
    ((t : State) → Holds came now t → Holds came now (change t)) → Holds came now s →
    Holds came now (where_true b change s)
where_true-holds came now true change s each h = each s h
where_true-holds came now false change s each h = h

closes-holds : (came now : Names) (s : State) → Holds came now s → Holds came now (closes s)
closes-holds came now s h = at s.feed h
  where
    at : (o : Option Feed) → HoldsOn came now o s → Holds came now (closes (record s { feed = o }))
    at (Some d) g = (g.0, tt, all_last (CameSo came) s.spent d.socket g.2 (came_so came d.socket d.opened g.1), distinct-push s.spent d.socket g.3 g.4, tt)
    at None g = g

sets_back-holds : (came now : Names) (s : State) → Holds came now s → Holds came now (sets_back s)
sets_back-holds came now s h = at s.feed h
  where
    at : (o : Option Feed) → HoldsOn came now o s → Holds came now (sets_back (record s { feed = o }))
    at (Some d) g = g
    at None g = g

has_effects-holds : (came now : Names) (close requeue back discard remote_reset : Bool) (s : State) → Holds came now s →
    Holds came now (has_effects (record { close = close; requeue = requeue; set_back = back; discard = discard; remote_reset = remote_reset }) s)
has_effects-holds came now close requeue back discard remote_reset s h =
    where_true-holds came now remote_reset tells_of_reset _ (λ t k. k)
    (where_true-holds came now discard discards _ (λ t k. k)
    (where_true-holds came now back sets_back _ (sets_back-holds came now)
    (where_true-holds came now requeue (queues Requeue) _ (λ t k. k)
    (where_true-holds came now close closes s (closes-holds came now) h))))

tells-holds : (came now : Names) (e : Event) (s : State) → Holds came now s → Holds came now (tells e s)
tells-holds came now e s h =
    let o = (step_of s.session e).effects in
    has_effects-holds came now o.close o.requeue o.set_back o.discard o.remote_reset (record s { session = (step_of s.session e).session }) h

tells_if-holds : (came now : Names) (o : Option Event) (s : State) → Holds came now s → Holds came now (tells_if o s)
tells_if-holds came now (Some e) s h = tells-holds came now e s h
tells_if-holds came now None s h = h

-- ---- what composes and sends

composes-holds : (came now : Names) (f : SideFacts) (w : OutFrame) (s : State) → Holds came now s →
    Holds came now (composes f w s)
composes-holds came now f w s h = at s.feed h
  where
    at : (o : Option Feed) → HoldsOn came now o s → Holds came now (composes f w (record s { feed = o }))
    at (Some d) g = g
    at None g = g

sends_late-holds : (came now : Names) (k : SocketId) (w : OutFrame) (s : State) → Holds came now s →
    Holds came now (sends_late k w s)
sends_late-holds came now k w s h = at (is_unnamed w)
  where
    at : (b : Bool) → Holds came now (if b then sends k (w ∷ []) s else s)
    at true = h
    at false = h

puts_on-holds : (came now : Names) (o : Option PartText) (texts : List PartText) (d : Feed) (s : State) →
    HoldsOn came now (Some d) s → Holds came now (puts_on o texts d s)
puts_on-holds came now (Some t) texts d s h = sends_late-holds came now d.socket t.frame _ h
puts_on-holds came now None texts d s h = h

writes_message-holds : (came now : Names) (f : SideFacts) (n : ℕ) (o : Option Content) (s : State) →
    Holds came now s → Holds came now (writes_message f n o s)
writes_message-holds came now f n (Some m) s h = composes-holds came now f (out.message n s.last m) s h
writes_message-holds came now f n None s h = h

posts-holds : (came now : Names) (o : Option Planned) (s : State) → Holds came now s → Holds came now (posts o s)
posts-holds came now (Some (to_post m)) s h = h
posts-holds came now (Some to_dial) s h = h
posts-holds came now (Some to_go_down) s h = h
posts-holds came now None s h = h

accepts-holds : (came now : Names) (n : ℕ) (key : Key) (o : Option Said) (d : Feed) (s : State) → s.feed ≡ Some d →
    HoldsOn came now (Some d) s → Holds came now (accepts n key o d s)
accepts-holds came now n key (Some (brings m)) d s e h = h
accepts-holds came now n key (Some (says c)) d s e h = rw e h
accepts-holds came now n key (Some aborts) d s e h = rw e h
accepts-holds came now n key (Some garbles) d s e h = rw e h
accepts-holds came now n key None d s e h = rw e h

-- ---- what is judged

abbrev judged_item : AskFacts → Answer → JudgedItem
judged_item a given = record { ask = a; answer = given }

-- the names once this ask was judged
abbrev noted : Names → SocketId → JudgedItem → Names
noted n k i = record n { judgements = n.judgements ++ judgement k i ∷ [] }

notes-grow : (n : Names) (k : SocketId) (i : JudgedItem) → Grows n (noted n k i)
notes-grow n k i x true h = h
notes-grow n k i x false h =
    ap (is_among x) (taken-append n.judgements (judgement k i ∷ [])) ∙ among_front x (taken_among n.judgements) (taken_among (judgement k i ∷ [])) h

weaker : (m n now : Names) (s : State) → Grows m n → Holds m now s → Holds n now s
weaker m n now s grows h = (h.0, at s.feed h.1, all-weaker (CameSo m) (CameSo n) s.spent (more_so m n grows) h.2, h.3, h.4)
  where
    at : (o : Option Feed) → IfFed o (λ d. Came m d.opened d.socket) → IfFed o (λ d. Came n d.opened d.socket)
    at (Some d) g = grows d.socket d.opened g
    at None g = tt

-- the socket is new, and no answer on it was the last
answers-holds : (n : Names) (f : SideFacts) (k : SocketId) (a : AskFacts) (number : ℕ) (given : Answer) (unread : List ℕ) (s : State) →
    let m = noted n k (judged_item a given) in
    is_among k n.opened ≡ false → is_among k (taken_among n.judgements) ≡ false → Holds n m s → Holds m m (answers f k a number given unread s)
answers-holds n f k a number given unread s no_open no_take h = at (session.takes given) refl
  where
    at : (b : Bool) → session.takes given ≡ b →
        Holds (noted n k (judged_item a given)) (noted n k (judged_item a given)) (if b then takes_socket f k a number unread s else sends k (replies_of given) s)
    at true e =
        let item = judged_item a given in
        let came = all-weaker (CameSo n) (CameSo (noted n k item)) s.spent (more_so n (noted n k item) (notes-grow n k item)) h.2 in
        (h.0, taken-last k item n.judgements e, came, h.3, fresh n k s.spent h.2 no_open no_take)
    at false e =
        let item = judged_item a given in
        weaker n (noted n k item) (noted n k item) s (notes-grow n k item) h

-- ---- closing

-- what holds of the feed's socket holds of it after an event
abbrev FeedSo : (SocketId → Type 0) → State → Type 0
FeedSo P s = IfFed s.feed (λ d. P d.socket)

where_true-feed_so : (P : SocketId → Type 0) (b : Bool) (change : State → State) (s : State) →
    ((t : State) → FeedSo P t → FeedSo P (change t)) → FeedSo P s → FeedSo P (where_true b change s)
where_true-feed_so P true change s each h = each s h
where_true-feed_so P false change s each h = h

closes-feed_so : (P : SocketId → Type 0) (s : State) → FeedSo P s → FeedSo P (closes s)
closes-feed_so P s h = at s.feed
  where
    at : (o : Option Feed) → FeedSo P (closes (record s { feed = o }))
    at (Some d) = tt
    at None = tt

sets_back-feed_so : (P : SocketId → Type 0) (s : State) → FeedSo P s → FeedSo P (sets_back s)
sets_back-feed_so P s h = at s.feed h
  where
    at : (o : Option Feed) → IfFed o (λ d. P d.socket) → FeedSo P (sets_back (record s { feed = o }))
    at (Some d) g = g
    at None g = tt

tells-feed_so : (P : SocketId → Type 0) (e : Event) (s : State) → FeedSo P s → FeedSo P (tells e s)
tells-feed_so P e s h =
    let o = (step_of s.session e).effects in
    where_true-feed_so P o.remote_reset tells_of_reset _ (λ t k. k)
    (where_true-feed_so P o.discard discards _ (λ t k. k)
    (where_true-feed_so P o.set_back sets_back _ (sets_back-feed_so P)
    (where_true-feed_so P o.requeue (queues Requeue) _ (λ t k. k)
    (where_true-feed_so P o.close closes (record s { session = (step_of s.session e).session }) (closes-feed_so P) h))))

-- a feed that broke isn't spent
breaks-held : (s : State) → Held s → Held (breaks s)
breaks-held s h =
    let n = names_of s in
    let e = event.Faulted (is_waiting s) in
    let g = tells-holds n n e s h in
    settles n (breaks s) (g.0, g.1, h.2, h.3, tells-feed_so (λ k. is_among k s.spent ≡ false) e s h.4)

abbrev is_other : SocketId → SocketId → Bool
is_other k other = not (same_socket k other)

forgets-held : (k : SocketId) (s : State) → Held s → Held (forgets k s)
forgets-held k s h = (refl, h.1, all-kept (CameSo (names_of s)) (is_other k) s.spent h.2, distinct-kept (is_other k) s.spent h.3, at s.feed h.4)
  where
    at : (o : Option Feed) → IfFed o (λ d. is_among d.socket s.spent ≡ false) →
        IfFed o (λ d. is_among d.socket (without k s.spent) ≡ false)
    at (Some d) g = among-kept (is_other k) d.socket s.spent g
    at None g = tt

-- ---- each entry

opened-grow : (n : Names) (k : SocketId) → Grows n (record n { opened = n.opened ++ k ∷ [] })
opened-grow n k x true h = among_front x n.opened (k ∷ []) h
opened-grow n k x false h = h

after-held : (f : SideFacts) (i : JournalItem) (s : State) → Lawful f i s → Held s → Held (after f i s)
after-held f (items.post place planned) s law h =
    let n = names_of s in
    settles n (after f (items.post place planned) s) (posts-holds n n planned (record s { steps = s.steps + 1 }) h)
after-held f (items.dial planned) s law h = h
after-held f (items.opened k) s law h =
    let n = names_of s in
    let m : Names = record n { opened = n.opened ++ k ∷ [] } in
    let t = tells event.Dialled s in
    let g = tells-holds n n event.Dialled s h in
    let d = silent_feed k true t.last t.owes in
    let c = course_of (opener_half f) [] in
    let new = fresh n k t.spent g.2 law.not_opened (not_judged k s.judgements law.not_judged) in
    stays m m d (goes_on c d) (record t { opened = t.opened ++ k ∷ [] }) (goes_on-same c d)
    (refl, among_last k s.opened, all-weaker (CameSo n) (CameSo m) t.spent (more_so n m (opened-grow n k)) g.2, g.3, new)
after-held f (items.read k bytes) s law h = settles (names_of s) (after f (items.read k bytes) s) (at s.feed h)
  where
    at : (o : Option Feed) → HoldsOn (names_of s) (names_of s) o s →
        Holds (names_of s) (names_of s) (on_feed_at o (λ d. reads f (hears bytes d)) (record s { feed = o }))
    at (Some d) g =
        let e = hears bytes d in
        let o = event_heard f s.session.phase e in
        tells_if-holds (names_of s) (names_of s) o (with_feed (takes_answer_if o e) (record s { feed = Some d }))
        (stays (names_of s) (names_of s) e (takes_answer_if o e) s (takes_answer_if-same o e) (stays (names_of s) (names_of s) d e s (hears-same bytes d) g))
    at None g = g
after-held f (items.wrote k bytes) s law h = settles (names_of s) (after f (items.wrote k bytes) s) (at s.feed h)
  where
    at : (o : Option Feed) → HoldsOn (names_of s) (names_of s) o s →
        Holds (names_of s) (names_of s) (on_feed_at o (puts f bytes) (record s { feed = o }))
    at (Some d) g = puts_on-holds (names_of s) (names_of s) _ _ d (record s { feed = Some d }) g
    at None g = g
after-held f (items.closed k broken) s law h = at (is_on k s.feed)
  where
    at : (b : Bool) → Held (if b then breaks s else forgets k s)
    at true = breaks-held s h
    at false = forgets-held k s h
after-held f (items.judged k a number given unread trail) s law h =
    let n = names_of s in
    let m = noted n k (judged_item a given) in
    let o = event_of f a number given in
    let t = notes k a number given s in
    settles m (after f (items.judged k a number given unread trail) s)
    (answers-holds n f k a number given unread (tells_if o t) law.not_opened (not_taken k s.judgements law.asks_again)
    (tells_if-holds n m o t (refl, h.1, h.2, h.3, h.4)))
after-held f (items.asked true number) s law h =
    let n = names_of s in
    let e = event.AskedIdent (cookie_of f number) in
    let t = tells e (record s { top = number }) in
    settles n (after f (items.asked true number) s)
    (composes-holds n n f (out.ident t.session.client_cookie number) t (tells-holds n n e (record s { top = number }) h))
after-held f (items.asked false number) s law h =
    let n = names_of s in
    let t = tells event.AskedReconnect (record s { top = number }) in
    let w = out.reconnect t.session.client_cookie t.session.server_cookie number t.session.connect t.last in
    settles n (after f (items.asked false number) s) (composes-holds n n f w t (tells-holds n n event.AskedReconnect (record s { top = number }) h))
after-held f (items.numbered number) s law h =
    let n = names_of s in
    let t = queues Next s in
    settles n (after f (items.numbered number) s) (writes_message-holds n n f number (message_at t.out.queue number) t h)
after-held f (items.accepted number key) s law h = settles (names_of s) (after f (items.accepted number key) s) (at s.feed h)
  where
    at : (o : Option Feed) → HoldsOn (names_of s) (names_of s) o s →
        Holds (names_of s) (names_of s) (on_feed_at o (λ d. accepts number key (next_said s.last d) d) (record s { feed = o }))
    at (Some d) g = accepts-holds (names_of s) (names_of s) number key (next_said s.last d) d (record s { feed = Some d }) refl g
    at None g = g
after-held f (items.acked number) s law h = h
after-held f (items.obeyed full) s law h = settles (names_of s) (after f (items.obeyed full) s) (at s.feed h)
  where
    at : (o : Option Feed) → HoldsOn (names_of s) (names_of s) o s →
        Holds (names_of s) (names_of s) (on_feed_at o (λ d t. tells (event.GotReset full) (with_feed (takes_answer d) t)) (record s { feed = o }))
    at (Some d) g = tells-holds (names_of s) (names_of s) (event.GotReset full) (with_feed (takes_answer d) (record s { feed = Some d })) g
    at None g = g
after-held f (items.down planned step) s law h = let n = names_of s in settles n (after f (items.down planned step) s) (tells-holds n n event.MarkedDown s h)

all-held : (f : SideFacts) (is : List JournalItem) (s : State) → AreLawful f is s → Held s → Held (after_items f is s)
all-held f [] s law h = h
all-held f (i ∷ is) s law h = all-held f is (after f i s) law.1 (after-held f i s law.0 h)

pub held : (f : SideFacts) (is : List JournalItem) → AreLawful f is (start f) → Held (after_items f is (start f))
held f is law = all-held f is (start f) law (refl, tt, tt, distinct-none, tt)
