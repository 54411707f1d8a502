-- Every lawful entry keeps what is kept of each socket.
use Rattle.std.proofs.Common.{◌≡◌, ℕ, ◌+◌, ◌⊎◌, inl, inr, Bool, true, false, if◌then◌else◌, List, [], ◌∷◌, ◌++◌, map, Option, Some, None, refl, sym, ap, ◌∙◌, subst}
use Rattle.m2_feed.specs.m2_session.declared.ask.AskFacts.{AskFacts}
use Rattle.m2_feed.specs.m2_fabric.Sockets.{is_among, same_socket}
use Rattle.m2_feed.specs.m2_message.Message.{Content}
use Rattle.m2_feed.specs.m2_policy.declared.path.Key.{Key}
use Rattle.m2_never_reset.specs.m2_queues.OutQueues.{message_at}
use Rattle.m2_never_reset.specs.m2_queues.QueueLaws.{Next, Sent, Acked}
use Rattle.m2_feed.specs.m2_session.declared.event.Event.{Event}
use Rattle.m2_feed.specs.m2_session.declared.event.Event.TheVariants as event
use Rattle.m2_feed.specs.m2_session.declared.session.Phase.TheVariants as phase
use Rattle.m2_feed.specs.m2_session.SessionLaws.{takes}
use Rattle.m2_feed.specs.m2_journal.Feeds.{begun, hears, next_said, taken_feed}
use Rattle.m2_feed.specs.m2_journal.Items as item
use Rattle.m2_feed.specs.m2_journal.Items.{JournalItem}
use Rattle.m2_feed.specs.m2_journal.Lawful.{Lawful, OnFeedAt, GoesOn, MayAsk, MayNumber}
use Rattle.m2_feed.specs.m2_journal.Laws.{IfFed}
use Rattle.m2_feed.specs.m2_journal.OutFrames as out
use Rattle.m2_feed.specs.m2_journal.OutFrames.{OutFrame, is_unnamed, replies_of}
use Rattle.m2_feed.specs.m2_journal.Plan.{Planned, to_post, to_dial, to_go_down}
use Rattle.m2_feed.specs.m2_journal.Said.{Said, says, brings, aborts, garbles}
use Rattle.m2_feed.specs.m2_journal.SideFacts.{SideFacts, cookie_of}
use Rattle.m2_feed.specs.m2_journal.State.{Feed, State}
use Rattle.m2_feed.specs.m2_journal.Steps.{acceptance, acknowledged_by, accepts, after, breaks, composes, event_heard, event_of, forgets, heeds, is_on, is_waiting, notes, posts, puts, queues, sends, takes_answer, takes_socket, tells, tells_if, wants_dial, with_feed, writes_message}
use Rattle.m2_never_reset.specs.Frames.{is_ask, answers_on}
use Rattle.m2_never_reset.specs.PairLaws.{IsNoDown}
use Rattle.m2_bytes_fit.proofs.Hands.{HandSo, HandKept, begun_so, signed_in, ready_apart}
use Rattle.m2_bytes_fit.proofs.Judges.{kept_opens, MayBeJudged, kept_replies, kept_takes}
use Rattle.m2_bytes_fit.proofs.Less.{Less, FeedLess, untouched, less_trans, tells_less, tells_if_less}
use Rattle.m2_bytes_fit.proofs.Moves.{kept_reads, kept_puts}
use Rattle.m2_bytes_fit.proofs.Steps.{AllKept, kept_quietly, kept_in_less, feed_on_less, MayCompose, kept_composes}
use Rattle.m2_feed.proofs.m2_lemmas.Booleans.{from_false_true}

-- what is known of a feed besides: before Ready nothing but asks was sent there, and one that was taken is in Ready
pub record FeedSo (s : State) (d : Feed) : Type 0 where
  pub asks_alone : (s.session.phase ≡ phase.Ready) ⊎ (answers_on d.socket s.sent ≡ [])
  pub taken : d.opened ≡ false → s.session.phase ≡ phase.Ready

pub posts_less : (planned : Option Planned) (s : State) → Less s (posts planned (record s { steps = s.steps + 1 }))
posts_less (Some (to_post m)) s = untouched s _ refl refl refl refl
posts_less (Some to_dial) s = untouched s _ refl refl refl refl
posts_less (Some to_go_down) s = untouched s _ refl refl refl refl
posts_less None s = untouched s _ refl refl refl refl

taken_less : (d : Feed) (s : State) (n : ℕ) → Less (with_feed d s) (with_feed (record d { taken = n }) s)
taken_less d s n = record { sent = refl; opened = refl; judgements = refl; feed = record { socket = refl; opened = refl; hand = refl; got = refl; rest = refl; texts = refl } }

pub heeds_less : (o : Option Event) (d : Feed) (s : State) → Less (with_feed d s) (heeds o d s)
heeds_less (Some e) d s = less_trans (with_feed d s) (with_feed (takes_answer d) s) _ (taken_less d s (d.taken + 1)) (tells_less e (with_feed (takes_answer d) s))
heeds_less None d s = untouched (with_feed d s) (with_feed d s) refl refl refl refl

pub accepts_less : (n : ℕ) (key : Key) (o : Option Said) (d : Feed) (s : State) → s.feed ≡ Some d → Less s (accepts n key o d s)
accepts_less n key (Some (brings m)) d s e = record { sent = refl; opened = refl; judgements = refl; feed = rw e (record { socket = refl; opened = refl; hand = refl; got = refl; rest = refl; texts = refl }) }
accepts_less n key (Some (says c)) d s e = untouched s s refl refl refl refl
accepts_less n key (Some aborts) d s e = untouched s s refl refl refl refl
accepts_less n key (Some garbles) d s e = untouched s s refl refl refl refl
accepts_less n key None d s e = untouched s s refl refl refl refl

-- an ask may be composed behind what the session was told
asks_may : (s t : State) (w : OutFrame) (d : Feed) (number : ℕ) (ident : Bool) → s.feed ≡ Some d → Less s t → MayAsk s ident number d → FeedSo s d → IfFed t.feed (MayCompose t w)
asks_may s t w d number ident fed less may so = at t.feed (subst (λ o. FeedLess o t.feed) fed less.feed)
  where
    none_before : (s.session.phase ≡ phase.Ready) ⊎ (answers_on d.socket s.sent ≡ []) → answers_on d.socket s.sent ≡ []
    none_before (inl r) = absurd (ready_apart (sym r ∙ may.phase))
    none_before (inr n) = n

    opener : (b : Bool) → d.opened ≡ b → d.opened ≡ true
    opener true e = e
    opener false e = absurd (ready_apart (sym (so.taken e) ∙ may.phase))

    at : (o : Option Feed) → FeedLess (Some d) o → IfFed o (MayCompose t w)
    at None l = tt
    at (Some e) l = record {
      put = l.texts ∙ may.put;
      hand = l.hand ∙ may.signed;
      opener = λ q. l.opened ∙ opener d.opened refl;
      asks = λ q. ap (λ k. answers_on k t.sent) l.socket ∙ ap (answers_on d.socket) less.sent ∙ none_before so.asks_alone;
    }

writes_message_kept : (f : SideFacts) (is : List JournalItem) (n : ℕ) (o : Option Content) (s : State) → IfFed s.feed (λ d. (d.texts ≡ []) × (d.hand ≡ None)) → AllKept f is s → AllKept f is (writes_message f n o s)
writes_message_kept f is n None s may h = h
writes_message_kept f is n (Some m) s may h =
    let w = out.message n s.last m in
    kept_in_less f is (composes f w s) (queues Sent (composes f w s)) (untouched _ _ refl refl refl refl)
    (kept_composes f is w s refl (at s.feed may) h)
  where
    at : (o : Option Feed) → IfFed o (λ d. (d.texts ≡ []) × (d.hand ≡ None)) → IfFed o (MayCompose s (out.message n s.last m))
    at None g = tt
    at (Some d) g = record { put = g.0; hand = g.1; opener = λ q. from_false_true q; asks = λ q. from_false_true q }

pub acceptance_named : (a : AskFacts) (n : ℕ) (s : State) → (is_unnamed (acceptance a n s) ≡ false) × (is_ask (acceptance a n s) ≡ false)
acceptance_named a n s = at a.ident
  where
    at : (b : Bool) →
        (is_unnamed (if b then out.server_ident s.session.server_cookie n else out.reconnect_ok s.last) ≡ false)
        × (is_ask (if b then out.server_ident s.session.server_cookie n else out.reconnect_ok s.last) ≡ false)
    at true = (refl, refl)
    at false = (refl, refl)

pub entry_keeps : (f : SideFacts) (is : List JournalItem) (i : JournalItem) (s : State) → IsNoDown i → Lawful f i s → HandKept s → IfFed s.feed (FeedSo s) →
    AllKept f is s → AllKept f (is ++ i ∷ []) (after f i s)
entry_keeps f is (item.post place planned) s up l hand so h =
    let t = posts planned (record s { steps = s.steps + 1 }) in
    kept_quietly f is (item.post place planned) t (λ k. record { read = refl; wrote = refl; taken = refl }) (kept_in_less f is s t (posts_less planned s) h)
entry_keeps f is (item.dial planned) s up l hand so h =
    let t = wants_dial s in
    kept_quietly f is (item.dial planned) t (λ k. record { read = refl; wrote = refl; taken = refl }) (kept_in_less f is s t (untouched s t refl refl refl refl) h)
entry_keeps f is (item.opened socket) s up l hand so h =
    let less = tells_less event.Dialled s in
    kept_opens f is socket (tells event.Dialled s) (ap (is_among socket) less.opened ∙ l.not_opened)
    (ap (λ js. is_among socket (map (λ j. j.socket) js)) less.judgements ∙ l.not_judged) (kept_in_less f is s (tells event.Dialled s) less h)
entry_keeps f is (item.read socket bytes) s up l hand so h = at s.feed refl l.0
  where
    at : (o : Option Feed) → s.feed ≡ o → OnFeedAt o (λ d. same_socket socket d.socket ≡ true) → AllKept f (is ++ item.read socket bytes ∷ []) (after f (item.read socket bytes) s)
    at None e g = elim g [ ]
    at (Some d) e g =
        let it : after f (item.read socket bytes) s ≡ heeds (event_heard f s.session.phase (hears bytes d)) (hears bytes d) s = rw e refl in
        subst (AllKept f (is ++ item.read socket bytes ∷ [])) (sym it)
        (kept_in_less f (is ++ item.read socket bytes ∷ []) (with_feed (hears bytes d) s) _ (heeds_less (event_heard f s.session.phase (hears bytes d)) (hears bytes d) s)
        (kept_reads f is socket bytes s d e g h))
entry_keeps f is (item.wrote socket bytes) s up l hand so h = at s.feed refl l.0 l.1 hand
  where
    at : (o : Option Feed) → s.feed ≡ o → OnFeedAt o (λ d. same_socket socket d.socket ≡ true) → OnFeedAt o (GoesOn f s bytes) → IfFed o (HandSo s) → AllKept f (is ++ item.wrote socket bytes ∷ []) (after f (item.wrote socket bytes) s)
    at None e g m k = elim g [ ]
    at (Some d) e g m k =
        let it : after f (item.wrote socket bytes) s ≡ puts f bytes d s = rw e refl in
        subst (AllKept f (is ++ item.wrote socket bytes ∷ [])) (sym it)
        (kept_puts f is socket bytes s d e g (record { texts = begun_so f s d k }) m.text h)
entry_keeps f is (item.closed socket broken) s up l hand so h = at (is_on socket s.feed)
  where
    i : JournalItem
    i = item.closed socket broken

    t : State
    t = tells (event.Faulted (is_waiting s)) s

    at : (b : Bool) → AllKept f (is ++ i ∷ []) (if b then breaks s else forgets socket s)
    at true =
        kept_quietly f is i (breaks s) (λ k. record { read = refl; wrote = refl; taken = refl })
        (kept_in_less f is s (breaks s) (less_trans s t (breaks s) (tells_less (event.Faulted (is_waiting s)) s) (untouched t (breaks s) refl refl refl refl)) h)
    at false =
        kept_quietly f is i (forgets socket s) (λ k. record { read = refl; wrote = refl; taken = refl })
        (kept_in_less f is s (forgets socket s) (untouched s (forgets socket s) refl refl refl refl) h)
entry_keeps f is (item.judged socket ask number given unread trail) s up l hand so h = at (takes given) refl
  where
    n : State
    n = notes socket ask number given s

    t : State
    t = tells_if (event_of f ask number given) n

    less : Less n t
    less = tells_if_less (event_of f ask number given) n

    may : MayBeJudged s socket
    may = record { not_opened = l.not_opened; asks_again = l.asks_again }

    at : (b : Bool) → takes given ≡ b → AllKept f (is ++ item.judged socket ask number given unread trail ∷ []) (if b then takes_socket f socket ask number unread t else sends socket (replies_of given) t)
    at false e =
        kept_replies f is socket ask number given unread trail s (sends socket (replies_of given) t) e may
        (record { opened = less.opened; judgements = less.judgements; sent = ap (λ x. x ++ map (λ w. record { socket = socket; frame = w }) (replies_of given)) less.sent })
        (λ k. feed_on_less k s.feed t.feed less.feed) h
    at true e =
        let w = acceptance ask number t in
        let named = acceptance_named ask number t in
        kept_takes f is socket ask number given unread trail s (takes_socket f socket ask number unread t) w (record (taken_feed socket unread (acknowledged_by ask) t.last t.owes) { texts = begun f w ∷ [] }) e named.0 named.1 may
        (record { opened = less.opened; judgements = less.judgements; sent = ap (λ x. x ++ record { socket = socket; frame = w } ∷ []) less.sent })
        refl refl refl refl refl refl refl h
entry_keeps f is (item.asked true number) s up l hand so h = at s.feed refl l so
  where
    at : (o : Option Feed) → s.feed ≡ o → OnFeedAt o (MayAsk s true number) → IfFed o (FeedSo s) → AllKept f (is ++ item.asked true number ∷ []) (after f (item.asked true number) s)
    at None e g k = elim g [ ]
    at (Some d) e g k =
        let t = tells (event.AskedIdent (cookie_of f number)) (record s { top = number }) in
        let less : Less s t = less_trans s (record s { top = number }) t (untouched s _ refl refl refl refl) (tells_less (event.AskedIdent (cookie_of f number)) (record s { top = number })) in
        let w = out.ident t.session.client_cookie number in
        kept_quietly f is (item.asked true number) (composes f w t) (λ k. record { read = refl; wrote = refl; taken = refl })
        (kept_composes f is w t refl (asks_may s t w d number true e less g k) (kept_in_less f is s t less h))
entry_keeps f is (item.asked false number) s up l hand so h = at s.feed refl l so
  where
    at : (o : Option Feed) → s.feed ≡ o → OnFeedAt o (MayAsk s false number) → IfFed o (FeedSo s) → AllKept f (is ++ item.asked false number ∷ []) (after f (item.asked false number) s)
    at None e g k = elim g [ ]
    at (Some d) e g k =
        let t = tells event.AskedReconnect (record s { top = number }) in
        let less : Less s t = less_trans s (record s { top = number }) t (untouched s _ refl refl refl refl) (tells_less event.AskedReconnect (record s { top = number })) in
        let w = out.reconnect t.session.client_cookie t.session.server_cookie number t.session.connect t.last in
        kept_quietly f is (item.asked false number) (composes f w t) (λ k. record { read = refl; wrote = refl; taken = refl })
        (kept_composes f is w t refl (asks_may s t w d number false e less g k) (kept_in_less f is s t less h))
entry_keeps f is (item.numbered number) s up l hand so h =
    kept_quietly f is (item.numbered number) (writes_message f number (message_at (queues Next s).out.queue number) (queues Next s)) (λ k. record { read = refl; wrote = refl; taken = refl })
    (writes_message_kept f is number (message_at (queues Next s).out.queue number) (queues Next s) (at s.feed l hand) (kept_in_less f is s (queues Next s) (untouched s _ refl refl refl refl) h))
  where
    at : (o : Option Feed) → OnFeedAt o (MayNumber s number) → IfFed o (HandSo s) → IfFed o (λ d. (d.texts ≡ []) × (d.hand ≡ None))
    at None g k = tt
    at (Some d) g k = (g.put, signed_in s d phase.Ready g.phase ready_apart k)
entry_keeps f is (item.accepted number key) s up l hand so h = at s.feed refl
  where
    at : (o : Option Feed) → s.feed ≡ o → AllKept f (is ++ item.accepted number key ∷ []) (after f (item.accepted number key) s)
    at None e =
        let it : after f (item.accepted number key) s ≡ s = rw e refl in
        subst (AllKept f (is ++ item.accepted number key ∷ [])) (sym it) (kept_quietly f is (item.accepted number key) s (λ k. record { read = refl; wrote = refl; taken = refl }) h)
    at (Some d) e =
        let it : after f (item.accepted number key) s ≡ accepts number key (next_said s.last d) d s = rw e refl in
        subst (AllKept f (is ++ item.accepted number key ∷ [])) (sym it)
        (kept_quietly f is (item.accepted number key) (accepts number key (next_said s.last d) d s) (λ k. record { read = refl; wrote = refl; taken = refl })
        (kept_in_less f is s (accepts number key (next_said s.last d) d s) (accepts_less number key (next_said s.last d) d s e) h))
entry_keeps f is (item.acked number) s up l hand so h =
    kept_quietly f is (item.acked number) (queues (Acked number) s) (λ k. record { read = refl; wrote = refl; taken = refl }) (kept_in_less f is s (queues (Acked number) s) (untouched s (queues (Acked number) s) refl refl refl refl) h)
entry_keeps f is (item.obeyed full) s up l hand so h = at s.feed refl
  where
    at : (o : Option Feed) → s.feed ≡ o → AllKept f (is ++ item.obeyed full ∷ []) (after f (item.obeyed full) s)
    at None e =
        let it : after f (item.obeyed full) s ≡ s = rw e refl in
        subst (AllKept f (is ++ item.obeyed full ∷ [])) (sym it) (kept_quietly f is (item.obeyed full) s (λ k. record { read = refl; wrote = refl; taken = refl }) h)
    at (Some d) e =
        let t = with_feed (takes_answer d) s in
        let it : after f (item.obeyed full) s ≡ tells (event.GotReset full) t = rw e refl in
        let first : Less s t = record { sent = refl; opened = refl; judgements = refl; feed = rw e (record { socket = refl; opened = refl; hand = refl; got = refl; rest = refl; texts = refl }) } in
        subst (AllKept f (is ++ item.obeyed full ∷ [])) (sym it)
        (kept_quietly f is (item.obeyed full) (tells (event.GotReset full) t) (λ k. record { read = refl; wrote = refl; taken = refl })
        (kept_in_less f is s (tells (event.GotReset full) t) (less_trans s t (tells (event.GotReset full) t) first (tells_less (event.GotReset full) t)) h))
entry_keeps f is (item.down planned step) s up l hand so h = elim up [ ]
