-- Where a side has taken a socket, the other sends no ask there any more, as long as that is the feed of the first.
use Rattle.std.proofs.Common.{◌≡◌, ℕ, ◌+◌, ◌≤◌, ◌⊎◌, inl, inr, Bool, true, false, if◌then◌else◌, List, [], ◌∷◌, ◌++◌, length, map, Option, Some, None, refl, sym, ap, ◌∙◌, subst, arith, append_assoc, append-nil, length-append}
use Rattle.std.specs.List.{AllByRecursion, filter}
use Rattle.std.proofs.lemmas.List.{map-append}
use Rattle.std.proofs.lemmas.List.Elements.{filter-append}
use Rattle.m2_feed.specs.m2_session.declared.ask.AskFacts.{AskFacts}
use Rattle.m2_feed.specs.m2_fabric.declared.socket.SocketId.{SocketId}
use Rattle.m2_feed.specs.m2_fabric.Sockets.{same_socket}
use Rattle.m2_feed.specs.m2_message.Message.{Content}
use Rattle.m2_never_reset.specs.m2_queues.OutQueues.{message_at}
use Rattle.m2_never_reset.specs.m2_queues.QueueLaws.{Next}
use Rattle.m2_feed.specs.m2_session.declared.answer.Answer.{Answer}
use Rattle.m2_feed.specs.m2_session.declared.event.Event.TheVariants as event
use Rattle.m2_feed.specs.m2_session.declared.session.Phase.TheVariants as phase
use Rattle.m2_feed.specs.m2_session.SessionLaws.{takes}
use Rattle.m2_feed.specs.m2_journal.declared.entry.JudgedItem.{JudgedItem}
use Rattle.m2_feed.specs.m2_journal.Feeds.{hears, opened_feed, next_said, narrowed, finished, texts_at}
use Rattle.m2_feed.specs.m2_journal.Items as item
use Rattle.m2_feed.specs.m2_journal.Items.{JournalItem}
use Rattle.m2_feed.specs.m2_journal.Lawful.{Lawful, OnFeedAt, MayAsk, judged_on}
use Rattle.m2_feed.specs.m2_journal.Laws.{IfFed}
use Rattle.m2_feed.specs.m2_journal.OutFrames as out
use Rattle.m2_feed.specs.m2_journal.OutFrames.{OutFrame, is_unnamed, replies_of}
use Rattle.m2_feed.specs.m2_journal.SideFacts.{SideFacts, cookie_of}
use Rattle.m2_feed.specs.m2_journal.State.{PartText, Feed, Judgement, SentFrame, State}
use Rattle.m2_feed.specs.m2_journal.Steps.{acceptance, accepts, after, breaks, composes, event_heard, event_of, forgets, is_on, is_waiting, notes, puts_on, queues, sends, takes_answer, takes_socket, tells, tells_if, with_feed, writes_message}
use Rattle.m2_never_reset.specs.Frames.{is_ask, ask_of, asks_on, to_come}
use Rattle.m2_never_reset.specs.PairLaws.{IsNoDown}
use Rattle.m2_never_reset.specs.LinkOf.{judged_count}
use Rattle.m2_never_reset.specs.Paired.{IsAccepted, FeedIsPaired, beside, Paired}
use Rattle.m2_never_reset.proofs.Feeds.{hears_hears, opened_hears}
use Rattle.m2_never_reset.proofs.Sent.{asks_same, asks_elsewhere}
use Rattle.m2_bytes_fit.proofs.Entries.{acceptance_named, posts_less, heeds_less, accepts_less}
use Rattle.m2_bytes_fit.proofs.Hands.{ready_apart}
use Rattle.m2_bytes_fit.proofs.Hears.{NoAskBehind}
use Rattle.m2_bytes_fit.proofs.Judges.{replies_no_asks, judged_here}
use Rattle.m2_bytes_fit.proofs.Less.{Less, FeedLess, less_top, tells_less, tells_if_less}
use Rattle.m2_bytes_fit.proofs.Lists.{none_not_some}
use Rattle.m2_bytes_fit.proofs.Says.{NoAsk}
use Rattle.m2_feed.proofs.m2_lemmas.Booleans.{from_false_true}
use Rattle.m2_feed.proofs.m2_fabric.Sockets.{same_refl, same_turned}

-- ---- which asks are sent

pub no_ask_of : (w : OutFrame) → is_ask w ≡ false → ask_of w ≡ None
no_ask_of out.greeting e = refl
no_ask_of (out.ident c g) e = from_false_true (sym e)
no_ask_of (out.reconnect p q r s t) e = from_false_true (sym e)
no_ask_of (out.server_ident c g) e = refl
no_ask_of (out.reconnect_ok n) e = refl
no_ask_of (out.reset b) e = refl
no_ask_of (out.retry n) e = refl
no_ask_of (out.retry_global n) e = refl
no_ask_of out.wait e = refl
no_ask_of (out.message p q m) e = refl
no_ask_of (out.acknowledgement n) e = refl
no_ask_of (out.keepalive_answer n) e = refl

less_asks : (k : SocketId) (s t : State) → Less s t → asks_on k t.sent ≡ asks_on k s.sent
less_asks k s t l = ap (asks_on k) l.sent

composes_asks : (f : SideFacts) (k : SocketId) (w : OutFrame) (s : State) → is_ask w ≡ false → asks_on k (composes f w s).sent ≡ asks_on k s.sent
composes_asks f k w s n = at s.feed
  where
    at : (o : Option Feed) → asks_on k (composes f w (record s { feed = o })).sent ≡ asks_on k s.sent
    at None = refl
    at (Some d) = asks_same k s.sent (record { socket = d.socket; frame = w }) (no_ask_of w n)

replies_asks : (k k' : SocketId) (ws : List OutFrame) (sent : List SentFrame) → AllByRecursion NoAsk ws → asks_on k (sent ++ map (λ w. record { socket = k'; frame = w }) ws) ≡ asks_on k sent
replies_asks k k' [] sent n = ap (asks_on k) (append-nil sent)
replies_asks k k' (w ∷ ws) sent n =
    let x : SentFrame = record { socket = k'; frame = w } in
    ap (asks_on k) (sym (append_assoc sent (x ∷ []) (map (λ w. record { socket = k'; frame = w }) ws)))
    ∙ replies_asks k k' ws (sent ++ x ∷ []) n.1 ∙ asks_same k sent x (no_ask_of w n.0)

unnamed_asks : (w : OutFrame) → is_unnamed w ≡ true → ask_of w ≡ None
unnamed_asks (out.acknowledgement n) e = refl
unnamed_asks (out.keepalive_answer n) e = refl
unnamed_asks out.greeting e = refl
unnamed_asks (out.ident c g) e = from_false_true e
unnamed_asks (out.reconnect p q r s t) e = from_false_true e
unnamed_asks (out.server_ident c g) e = refl
unnamed_asks (out.reconnect_ok n) e = refl
unnamed_asks (out.reset b) e = refl
unnamed_asks (out.retry n) e = refl
unnamed_asks (out.retry_global n) e = refl
unnamed_asks out.wait e = refl
unnamed_asks (out.message p q m) e = refl

puts_asks : (k : SocketId) (o : Option PartText) (texts : List PartText) (d : Feed) (s : State) → asks_on k (puts_on o texts d s).sent ≡ asks_on k s.sent
puts_asks k None texts d s = refl
puts_asks k (Some t) texts d s = at (is_unnamed t.frame) refl
  where
    at : (b : Bool) → is_unnamed t.frame ≡ b → asks_on k (puts_on (Some t) texts d s).sent ≡ asks_on k s.sent
    at true q = rw q (asks_same k s.sent (record { socket = d.socket; frame = t.frame }) (unnamed_asks t.frame q))
    at false q = rw q refl

writes_asks : (f : SideFacts) (k : SocketId) (n : ℕ) (o : Option Content) (s : State) → asks_on k (writes_message f n o s).sent ≡ asks_on k s.sent
writes_asks f k n None s = refl
writes_asks f k n (Some m) s = composes_asks f k (out.message n s.last m) s refl

-- an ask is sent on the feed, in Connecting
pub record AsksThere (s : State) (k : SocketId) : Type 0 where
  pub feed : Feed
  pub there : s.feed ≡ Some feed
  pub phase : s.session.phase ≡ phase.Connecting
  pub socket : same_socket k feed.socket ≡ true

ask_sent : (f : SideFacts) (k : SocketId) (w : OutFrame) (s t : State) (d : Feed) → s.feed ≡ Some d → s.session.phase ≡ phase.Connecting → Less s t →
    (asks_on k (composes f w t).sent ≡ asks_on k s.sent) ⊎ AsksThere s k
ask_sent f k w s t d e c less = at t.feed (subst (λ o. FeedLess o t.feed) e less.feed)
  where
    at : (o : Option Feed) → FeedLess (Some d) o → (asks_on k (composes f w (record t { feed = o })).sent ≡ asks_on k s.sent) ⊎ AsksThere s k
    at None l = inl (less_asks k s t less)
    at (Some x) l = by_socket (same_socket k d.socket) refl
      where
        by_socket : (b : Bool) → same_socket k d.socket ≡ b → (asks_on k (composes f w (record t { feed = Some x })).sent ≡ asks_on k s.sent) ⊎ AsksThere s k
        by_socket true q = inr (record { feed = d; there = e; phase = c; socket = q })
        by_socket false q = inl (asks_elsewhere k t.sent (record { socket = x.socket; frame = w }) (ap (same_socket k) l.socket ∙ q) ∙ less_asks k s t less)

pub asks_after : (f : SideFacts) (k : SocketId) (i : JournalItem) (s : State) → IsNoDown i → Lawful f i s → (asks_on k (after f i s).sent ≡ asks_on k s.sent) ⊎ AsksThere s k
asks_after f k (item.post place planned) s up l = inl (less_asks k s _ (posts_less planned s))
asks_after f k (item.dial planned) s up l = inl refl
asks_after f k (item.opened socket) s up l = inl (less_asks k s _ (tells_less event.Dialled s))
asks_after f k (item.read socket bytes) s up l = at s.feed
  where
    at : (o : Option Feed) → (asks_on k (after f (item.read socket bytes) (record s { feed = o })).sent ≡ asks_on k s.sent) ⊎ AsksThere s k
    at None = inl refl
    at (Some d) = inl (less_asks k (with_feed (hears bytes d) s) _ (heeds_less (event_heard f s.session.phase (hears bytes d)) (hears bytes d) s))
asks_after f k (item.wrote socket bytes) s up l = at s.feed
  where
    at : (o : Option Feed) → (asks_on k (after f (item.wrote socket bytes) (record s { feed = o })).sent ≡ asks_on k s.sent) ⊎ AsksThere s k
    at None = inl refl
    at (Some d) =
        let t = record s { feed = Some d } in
        inl (puts_asks k (finished (narrowed bytes (texts_at f t d))) (narrowed bytes (texts_at f t d)) d t)
asks_after f k (item.closed socket broken) s up l = at (is_on socket s.feed)
  where
    at : (b : Bool) → (asks_on k (if b then breaks s else forgets socket s).sent ≡ asks_on k s.sent) ⊎ AsksThere s k
    at true = inl (less_asks k s _ (tells_less (event.Faulted (is_waiting s)) s))
    at false = inl refl
asks_after f k (item.judged socket ask number given unread trail) s up l = at (takes given)
  where
    n : State
    n = notes socket ask number given s

    t : State
    t = tells_if (event_of f ask number given) n

    less : Less n t
    less = tells_if_less (event_of f ask number given) n

    at : (b : Bool) → (asks_on k (if b then takes_socket f socket ask number unread t else sends socket (replies_of given) t).sent ≡ asks_on k s.sent) ⊎ AsksThere s k
    at true =
        let w = acceptance ask number t in
        inl (asks_same k t.sent (record { socket = socket; frame = w }) (no_ask_of w (acceptance_named ask number t).1) ∙ less_asks k n t less)
    at false = inl (replies_asks k socket (replies_of given) t.sent (replies_no_asks given) ∙ less_asks k n t less)
asks_after f k (item.asked true number) s up l = at s.feed refl l
  where
    at : (o : Option Feed) → s.feed ≡ o → OnFeedAt o (MayAsk s true number) → (asks_on k (after f (item.asked true number) s).sent ≡ asks_on k s.sent) ⊎ AsksThere s k
    at None e g = elim g [ ]
    at (Some d) e g =
        ask_sent f k _ s (tells (event.AskedIdent (cookie_of f number)) (record s { top = number })) d e g.phase (less_top (event.AskedIdent (cookie_of f number)) s number)
asks_after f k (item.asked false number) s up l = at s.feed refl l
  where
    at : (o : Option Feed) → s.feed ≡ o → OnFeedAt o (MayAsk s false number) → (asks_on k (after f (item.asked false number) s).sent ≡ asks_on k s.sent) ⊎ AsksThere s k
    at None e g = elim g [ ]
    at (Some d) e g = ask_sent f k _ s (tells event.AskedReconnect (record s { top = number })) d e g.phase (less_top event.AskedReconnect s number)
asks_after f k (item.numbered number) s up l = inl (writes_asks f k number (message_at (queues Next s).out.queue number) (queues Next s))
asks_after f k (item.accepted number key) s up l = at s.feed refl
  where
    at : (o : Option Feed) → s.feed ≡ o → (asks_on k (after f (item.accepted number key) s).sent ≡ asks_on k s.sent) ⊎ AsksThere s k
    at None e = inl (rw e refl)
    at (Some d) e = inl (ap (λ t. asks_on k t.sent) (accepted_at s d e) ∙ less_asks k s _ (accepts_less number key (next_said s.last d) d s e))
      where
        accepted_at : (s : State) (d : Feed) → s.feed ≡ Some d → after f (item.accepted number key) s ≡ accepts number key (next_said s.last d) d s
        accepted_at s d e = rw e refl
asks_after f k (item.acked number) s up l = inl refl
asks_after f k (item.obeyed full) s up l = at s.feed
  where
    at : (o : Option Feed) → (asks_on k (after f (item.obeyed full) (record s { feed = o })).sent ≡ asks_on k s.sent) ⊎ AsksThere s k
    at None = inl refl
    at (Some d) = inl (less_asks k (with_feed (takes_answer d) s) _ (tells_less (event.GotReset full) (with_feed (takes_answer d) s)))
asks_after f k (item.down planned step) s up l = elim up [ ]

-- ---- the feed and what was judged, behind an entry

-- the feed is the old one, or one that was opened
abbrev NamesLess : Option Feed → Option Feed → Type 0
NamesLess o None = Unit {0}
NamesLess None (Some e) = e.opened ≡ true
NamesLess (Some d) (Some e) = (e.opened ≡ true) ⊎ ((e.socket ≡ d.socket) × (e.opened ≡ d.opened))

less_names : (o p : Option Feed) → FeedLess o p → NamesLess o p
less_names o None l = tt
less_names None (Some e) l = absurd l
less_names (Some d) (Some e) l = inr (l.socket, l.opened)

-- the same where the feed was another to bytes
heard_names : (o : Option Feed) (d d' : Feed) (p : Option Feed) → o ≡ Some d → d'.socket ≡ d.socket → d'.opened ≡ d.opened → FeedLess (Some d') p → NamesLess o p
heard_names o d d' None e k q l = tt
heard_names (Some c) d d' (Some x) e k q l =
    let same = inside c d e in
    inr (l.socket ∙ k ∙ ap (λ (y : Feed). y.socket) (sym same), l.opened ∙ q ∙ ap (λ (y : Feed). y.opened) (sym same))
  where
    inside : (c d : Feed) → Some c ≡ Some d → c ≡ d
    inside c d e = cc
heard_names None d d' (Some x) e k q l = none_not_some e

-- what was judged goes on as it was
abbrev GoOn : State → State → Type 0
GoOn s t = (more : List Judgement) × (t.judgements ≡ s.judgements ++ more)

same_on : (s t : State) → t.judgements ≡ s.judgements → GoOn s t
same_on s t e = ([], e ∙ sym (append-nil s.judgements))

none_more : (s : State) → (more : List Judgement) × (s.judgements ≡ s.judgements ++ more)
none_more s = ([], sym (append-nil s.judgements))

composes_names : (f : SideFacts) (w : OutFrame) (o : Option Feed) (s : State) → NamesLess o s.feed → NamesLess o (composes f w s).feed
composes_names f w o s h = at s.feed h
  where
    at : (p : Option Feed) → NamesLess o p → NamesLess o (composes f w (record s { feed = p })).feed
    at None g = tt
    at (Some d) g = by_old o g
      where
        by_old : (o : Option Feed) → NamesLess o (Some d) → NamesLess o (composes f w (record s { feed = Some d })).feed
        by_old None g = g
        by_old (Some c) g = g

composes_on : (f : SideFacts) (w : OutFrame) (s t : State) → GoOn s t → GoOn s (composes f w t)
composes_on f w s t h = at t.feed
  where
    at : (o : Option Feed) → GoOn s (composes f w (record t { feed = o }))
    at None = h
    at (Some d) = h

-- an entry takes a socket by its answer
abbrev pub Takes : JournalItem → SocketId → Type 0
Takes (item.judged socket ask number given unread trail) k = (takes given ≡ true) × (k ≡ socket)
Takes i k = ⊥

record NamesTo (i : JournalItem) (s t : State) : Type 0 where
  feed : NamesLess s.feed t.feed ⊎ ((d : Feed) × (t.feed ≡ Some d) × Takes i d.socket)
  judged : GoOn s t

abbrev NamesAfter : SideFacts → JournalItem → State → Type 0
NamesAfter f i s = NamesTo i s (after f i s)

same_names : (o : Option Feed) → NamesLess o o
same_names None = tt
same_names (Some d) = inr (refl, refl)

opened_names : (o : Option Feed) (d : Feed) → d.opened ≡ true → NamesLess o (Some d)
opened_names None d e = e
opened_names (Some c) d e = inl e

puts_names : (o : Option PartText) (texts : List PartText) (d : Feed) (s : State) → NamesLess (Some d) (puts_on o texts d s).feed × GoOn s (puts_on o texts d s)
puts_names None texts d s = (inr (refl, refl), none_more s)
puts_names (Some t) texts d s = at (is_unnamed t.frame) refl
  where
    at : (b : Bool) → is_unnamed t.frame ≡ b → NamesLess (Some d) (puts_on (Some t) texts d s).feed × GoOn s (puts_on (Some t) texts d s)
    at true q = rw q (inr (refl, refl), none_more s)
    at false q = rw q (inr (refl, refl), none_more s)

names_after : (f : SideFacts) (i : JournalItem) (s : State) → IsNoDown i → NamesAfter f i s
names_after f (item.post place planned) s up =
    let l = posts_less planned s in
    record { feed = inl (less_names s.feed _ l.feed); judged = ([], l.judgements ∙ sym (append-nil s.judgements)) }
names_after f (item.dial planned) s up = record { feed = inl (same_names s.feed); judged = none_more s }
names_after f (item.opened socket) s up =
    let t = tells event.Dialled s in
    record {
      feed = inl (opened_names s.feed (opened_feed f socket t.last t.owes) (opened_hears f socket t.last t.owes).opened);
      judged = ([], (tells_less event.Dialled s).judgements ∙ sym (append-nil s.judgements));
    }
names_after f (item.read socket bytes) s up = at s.feed refl
  where
    at : (o : Option Feed) → s.feed ≡ o → NamesAfter f (item.read socket bytes) (record s { feed = o })
    at None e = record { feed = inl tt; judged = none_more s }
    at (Some d) e =
        let h = hears_hears bytes d in
        let l = heeds_less (event_heard f s.session.phase (hears bytes d)) (hears bytes d) (record s { feed = Some d }) in
        record { feed = inl (heard_names (Some d) d (hears bytes d) _ refl h.socket h.opened l.feed); judged = ([], l.judgements ∙ sym (append-nil s.judgements)) }
names_after f (item.wrote socket bytes) s up = at s.feed
  where
    at : (o : Option Feed) → NamesAfter f (item.wrote socket bytes) (record s { feed = o })
    at None = record { feed = inl tt; judged = none_more s }
    at (Some d) =
        let t = record s { feed = Some d } in
        let both = puts_names (finished (narrowed bytes (texts_at f t d))) (narrowed bytes (texts_at f t d)) d t in
        record { feed = inl both.0; judged = both.1 }
names_after f (item.closed socket broken) s up = at (is_on socket s.feed) refl
  where
    at : (b : Bool) → is_on socket s.feed ≡ b → NamesAfter f (item.closed socket broken) s
    at true q =
        let l = tells_less (event.Faulted (is_waiting s)) s in
        record { feed = inl (rw q (less_names s.feed _ l.feed)); judged = rw q (([], l.judgements ∙ sym (append-nil s.judgements))) }
    at false q = record { feed = inl (rw q (same_names s.feed)); judged = rw q (none_more s) }
names_after f (item.judged socket ask number given unread trail) s up = at (takes given) refl
  where
    n : State
    n = notes socket ask number given s

    t : State
    t = tells_if (event_of f ask number given) n

    less : Less n t
    less = tells_if_less (event_of f ask number given) n

    at : (b : Bool) → takes given ≡ b → NamesAfter f (item.judged socket ask number given unread trail) s
    at true q = record { feed = inr (rw q (_, refl, (refl, refl))); judged = rw q (_, less.judgements) }
    at false q = record { feed = inl (rw q (less_names s.feed _ less.feed)); judged = rw q (_, less.judgements) }
names_after f (item.asked true number) s up =
    let l = less_top (event.AskedIdent (cookie_of f number)) s number in
    record { feed = inl (composes_names f _ s.feed _ (less_names s.feed _ l.feed)); judged = composes_on f _ s _ (([], l.judgements ∙ sym (append-nil s.judgements))) }
names_after f (item.asked false number) s up =
    let l = less_top event.AskedReconnect s number in
    record { feed = inl (composes_names f _ s.feed _ (less_names s.feed _ l.feed)); judged = composes_on f _ s _ (([], l.judgements ∙ sym (append-nil s.judgements))) }
names_after f (item.numbered number) s up = at (message_at (queues Next s).out.queue number)
  where
    at : (o : Option Content) → NamesTo (item.numbered number) s (writes_message f number o (queues Next s))
    at None = record { feed = inl (same_names s.feed); judged = none_more s }
    at (Some m) = record { feed = inl (composes_names f _ s.feed _ (same_names s.feed)); judged = composes_on f _ s _ (none_more s) }
names_after f (item.accepted number key) s up = at s.feed refl
  where
    at : (o : Option Feed) → s.feed ≡ o → NamesAfter f (item.accepted number key) s
    at None e = record { feed = inl (rw e tt); judged = rw e (none_more s) }
    at (Some d) e =
        let l = accepts_less number key (next_said s.last d) d s e in
        subst (NamesTo (item.accepted number key) s) (sym (accepted_at s d e)) (record { feed = inl (less_names s.feed _ l.feed); judged = ([], l.judgements ∙ sym (append-nil s.judgements)) })
      where
        accepted_at : (s : State) (d : Feed) → s.feed ≡ Some d → after f (item.accepted number key) s ≡ accepts number key (next_said s.last d) d s
        accepted_at s d e = rw e refl
names_after f (item.acked number) s up = record { feed = inl (same_names s.feed); judged = none_more s }
names_after f (item.obeyed full) s up = at s.feed
  where
    at : (o : Option Feed) → NamesAfter f (item.obeyed full) (record s { feed = o })
    at None = record { feed = inl tt; judged = none_more s }
    at (Some d) =
        let l = tells_less (event.GotReset full) (with_feed (takes_answer d) (record s { feed = Some d })) in
        record { feed = inl (heard_names (Some d) d (takes_answer d) _ refl refl refl l.feed); judged = ([], l.judgements ∙ sym (append-nil s.judgements)) }
names_after f (item.down planned step) s up = elim up [ ]

-- ---- no ask stands behind those that were judged

judged_more : (k : SocketId) (js more : List Judgement) → length (judged_on k js) ≤ length (judged_on k (js ++ more))
judged_more k js more =
    let parts : judged_on k (js ++ more) ≡ judged_on k js ++ judged_on k more =
    ap (map (λ j. j.item)) (filter-append (λ j. same_socket k j.socket) js more) ∙ map-append (λ j. j.item) (filter (λ j. same_socket k j.socket) js) (filter (λ j. same_socket k j.socket) more) in
    let size = ap length parts in let sum = length-append (judged_on k js) (judged_on k more) in
    omega (arith, size, sum)

counted : (k : SocketId) (js : List Judgement) → judged_count k (map (λ j. j.socket) js) ≡ length (judged_on k js)
counted k [] = refl
counted k (j ∷ js) = at (same_socket k j.socket) refl (counted k js)
  where
    at : (b : Bool) → same_socket k j.socket ≡ b → judged_count k (map (λ j. j.socket) js) ≡ length (judged_on k js) → judged_count k (map (λ j. j.socket) (j ∷ js)) ≡ length (judged_on k (j ∷ js))
    at true q h = rw q (omega (arith, h))
    at false q h = rw q h

one_more : (k : SocketId) (js : List Judgement) (j : Judgement) → same_socket k j.socket ≡ true → length (judged_on k (js ++ j ∷ [])) ≡ length (judged_on k js) + 1
one_more k js j e =
    let parts = judged_here k js j e in
    let size = ap length parts in let sum = length-append (judged_on k js) (j.item ∷ []) in
    omega (arith, size, sum)

-- an entry of the side that has taken it
pub near_behind : (f : SideFacts) (i : JournalItem) (a b : State) → IsNoDown i → Paired a b → NoAskBehind a b → NoAskBehind (after f i a) b
near_behind f i a b up paired h = by_names (names_after f i a up)
  where
    stays : (o p : Option Feed) → o ≡ a.feed → GoOn a (after f i a) → NamesLess o p → IfFed p (λ d. d.opened ≡ false → length (asks_on d.socket b.sent) ≤ length (judged_on d.socket (after f i a).judgements))
    stays o None e g n = tt
    stays None (Some d) e g n = λ q. from_false_true (sym q ∙ n)
    stays (Some c) (Some d) e g (inl n) = λ q. from_false_true (sym q ∙ n)
    stays (Some c) (Some d) e g (inr n) = λ q.
        let was : IfFed (Some c) (λ d. d.opened ≡ false → length (asks_on d.socket b.sent) ≤ length (judged_on d.socket a.judgements)) = subst (λ o. IfFed o (λ d. d.opened ≡ false → length (asks_on d.socket b.sent) ≤ length (judged_on d.socket a.judgements))) (sym e) h in
        let old = was (sym n.1 ∙ q) in
        let more : length (judged_on c.socket a.judgements) ≤ length (judged_on c.socket (after f i a).judgements) =
        subst (λ js. length (judged_on c.socket a.judgements) ≤ length (judged_on c.socket js)) (sym g.1) (judged_more c.socket a.judgements g.0) in
        subst (λ k. length (asks_on k b.sent) ≤ length (judged_on k (after f i a).judgements)) (sym n.0) (omega (arith, old, more))

    takes_so : (i' : JournalItem) (d : Feed) → i ≡ i' → Takes i' d.socket → length (asks_on d.socket b.sent) ≤ length (judged_on d.socket (after f i a).judgements)
    takes_so (item.judged socket ask number given unread trail) d e t =
        let once = paired.far.asks_once d.socket in
        let count = counted d.socket a.judgements in
        let less = tells_if_less (event_of f ask number given) (notes socket ask number given a) in
        let j : Judgement = record { socket = socket; item = record { ask = ask; answer = given } } in
        let judged : (after f i a).judgements ≡ a.judgements ++ j ∷ [] = ap (λ x. (after f x a).judgements) e ∙ by_taking socket ask number given unread trail t.0 ∙ less.judgements in
        let here = one_more d.socket a.judgements j (ap (λ k. same_socket k socket) t.1 ∙ same_refl socket) in
        let size = ap (λ js. length (judged_on d.socket js)) judged in
        omega (arith, once, count, here, size)
      where
        by_taking : (socket : SocketId) (ask : AskFacts) (number : ℕ) (given : Answer) (unread : List ℕ) (trail : List JudgedItem) → takes given ≡ true →
            (after f (item.judged socket ask number given unread trail) a).judgements ≡ (tells_if (event_of f ask number given) (notes socket ask number given a)).judgements
        by_taking socket ask number given unread trail q = rw q refl
    takes_so (item.post place planned) d e t = absurd t
    takes_so (item.dial planned) d e t = absurd t
    takes_so (item.opened socket) d e t = absurd t
    takes_so (item.read socket bytes) d e t = absurd t
    takes_so (item.wrote socket bytes) d e t = absurd t
    takes_so (item.closed socket broken) d e t = absurd t
    takes_so (item.asked ident number) d e t = absurd t
    takes_so (item.numbered number) d e t = absurd t
    takes_so (item.accepted number key) d e t = absurd t
    takes_so (item.acked number) d e t = absurd t
    takes_so (item.obeyed full) d e t = absurd t
    takes_so (item.down planned step) d e t = absurd t

    by_names : NamesAfter f i a → NoAskBehind (after f i a) b
    by_names n = by_feed n.feed
      where
        by_feed : NamesLess a.feed (after f i a).feed ⊎ ((d : Feed) × ((after f i a).feed ≡ Some d) × Takes i d.socket) → NoAskBehind (after f i a) b
        by_feed (inl less) = stays a.feed (after f i a).feed refl n.judged less
        by_feed (inr (d, e, t)) = subst (λ o. IfFed o (λ d. d.opened ≡ false → length (asks_on d.socket b.sent) ≤ length (judged_on d.socket (after f i a).judgements))) (sym e) (λ q. takes_so i d refl t)

-- an entry of the other side
pub far_behind : (g : SideFacts) (i : JournalItem) (a b : State) → IsNoDown i → Lawful g i b → Paired a b → NoAskBehind a b → NoAskBehind a (after g i b)
far_behind g i a b up lawful paired h = at a.feed refl h
  where
    at : (o : Option Feed) → a.feed ≡ o → IfFed o (λ d. d.opened ≡ false → length (asks_on d.socket b.sent) ≤ length (judged_on d.socket a.judgements)) →
        IfFed o (λ d. d.opened ≡ false → length (asks_on d.socket (after g i b).sent) ≤ length (judged_on d.socket a.judgements))
    at None e k = tt
    at (Some d) e k = λ q. by_asks q (asks_after g d.socket i b up lawful)
      where
        by_asks : d.opened ≡ false → (asks_on d.socket (after g i b).sent ≡ asks_on d.socket b.sent) ⊎ AsksThere b d.socket → length (asks_on d.socket (after g i b).sent) ≤ length (judged_on d.socket a.judgements)
        by_asks q (inl same) = subst (λ l. length l ≤ length (judged_on d.socket a.judgements)) (sym same) (k q)
        by_asks q (inr asks) =
            let its : FeedIsPaired (beside b a) asks.feed = subst (λ o. IfFed o (FeedIsPaired (beside b a))) asks.there paired.far.feed in
            absurd (never asks.feed asks.phase its (opener asks.feed asks.phase its asks.feed.opened refl) (same_turned asks.feed.socket d.socket ∙ asks.socket))
          where
            opener : (x : Feed) → b.session.phase ≡ phase.Connecting → FeedIsPaired (beside b a) x → (t : Bool) → x.opened ≡ t → x.opened ≡ true
            opener x p f true o = o
            opener x p f false o = absurd (ready_apart (sym (f.taken o) ∙ p))

            never : (x : Feed) → b.session.phase ≡ phase.Connecting → FeedIsPaired (beside b a) x → x.opened ≡ true → same_socket x.socket d.socket ≡ true → ⊥
            never x p f o same =
                let accepted : IfFed (Some d) (λ y. same_socket y.socket x.socket ≡ true → IsAccepted b.session.phase (to_come x a.sent)) =
                subst (λ z. IfFed z (λ y. same_socket y.socket x.socket ≡ true → IsAccepted b.session.phase (to_come x a.sent))) e (f.accepted o) in
                subst (λ z. IsAccepted z (to_come x a.sent)) p (accepted (same_turned d.socket x.socket ∙ same))
