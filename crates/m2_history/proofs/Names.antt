-- The sockets that a state has opened and the asks that it has judged are those of its entries.
use Rattle.std.proofs.Common.{◌≡◌, ℕ, Bool, true, false, if◌then◌else◌, List, [], ◌∷◌, ◌++◌, Option, Some, None, refl, sym, ap, ◌∙◌, append-nil, append_assoc}
use Rattle.std.specs.List.{flat_map}
use Rattle.m2_fabric.specs.declared.socket.SocketId.{SocketId}
use Rattle.m2_message.specs.Message.{Content}
use Rattle.m2_dispatch.specs.m2_queues.OutQueues.{message_at}
use Rattle.m2_dispatch.specs.m2_queues.QueueLaws.{Next}
use Rattle.m2_journal.specs.m2_session.declared.event.Event.TheVariants as event
use Rattle.m2_journal.specs.m2_session.SessionLaws.{takes}
use Rattle.m2_journal.specs.Feeds.{hears, next_said, narrowed, finished, texts_at}
use Rattle.m2_journal.specs.Items as item
use Rattle.m2_journal.specs.Items.{JournalItem}
use Rattle.m2_journal.specs.OutFrames.{OutFrame, is_unnamed, replies_of}
use Rattle.m2_journal.specs.Replay.{after_items}
use Rattle.m2_journal.specs.SideFacts.{SideFacts, cookie_of}
use Rattle.m2_journal.specs.State.{PartText, Feed, Judgement, State}
use Rattle.m2_journal.specs.Steps.{accepts, after, breaks, composes, event_heard, event_of, forgets, is_on, is_waiting, notes, puts_on, queues, sends, takes_answer, takes_socket, tells, tells_if, with_feed, writes_message}
use Rattle.m2_bytes_fit.proofs.Entries.{posts_less, heeds_less, accepts_less}
use Rattle.m2_bytes_fit.proofs.Less.{Less, untouched, less_top, tells_less, tells_if_less}

abbrev pub opened_in : JournalItem → List SocketId
opened_in (item.opened k) = k ∷ []
opened_in _ = []

abbrev pub judged_in : JournalItem → List Judgement
judged_in (item.judged socket ask number answer unread trail) = record { socket = socket; item = record { ask = ask; answer = answer } } ∷ []
judged_in _ = []

abbrev pub opened_by : List JournalItem → List SocketId
opened_by is = flat_map opened_in is

abbrev pub judged_by : List JournalItem → List Judgement
judged_by is = flat_map judged_in is

-- ---- one entry

-- the same sockets and judgements
record Same (s t : State) : Type 0 where
  opened : t.opened ≡ s.opened
  judgements : t.judgements ≡ s.judgements

pub record Adds (s t : State) (sockets : List SocketId) (judged : List Judgement) : Type 0 where
  pub opened : t.opened ≡ s.opened ++ sockets
  pub judgements : t.judgements ≡ s.judgements ++ judged

less_same : (s t : State) → Less s t → Same s t
less_same s t l = record { opened = l.opened; judgements = l.judgements }

adds_none : (s t : State) → Same s t → Adds s t [] []
adds_none s t h = record { opened = h.opened ∙ sym (append-nil s.opened); judgements = h.judgements ∙ sym (append-nil s.judgements) }

composes_same : (f : SideFacts) (w : OutFrame) (s t : State) → Less s t → Same s (composes f w t)
composes_same f w s t l = at t.feed
  where
    at : (o : Option Feed) → Same s (composes f w (record t { feed = o }))
    at None = record { opened = l.opened; judgements = l.judgements }
    at (Some d) = record { opened = l.opened; judgements = l.judgements }

puts_same : (o : Option PartText) (texts : List PartText) (d : Feed) (s : State) → Same s (puts_on o texts d s)
puts_same None texts d s = record { opened = refl; judgements = refl }
puts_same (Some t) texts d s = at (is_unnamed t.frame) refl
  where
    at : (b : Bool) → is_unnamed t.frame ≡ b → Same s (puts_on (Some t) texts d s)
    at true q = record { opened = rw q refl; judgements = rw q refl }
    at false q = record { opened = rw q refl; judgements = rw q refl }

writes_same : (f : SideFacts) (n : ℕ) (o : Option Content) (s t : State) → Less s t → Same s (writes_message f n o t)
writes_same f n None s t l = less_same s t l
writes_same f n (Some m) s t l = let g = composes_same f _ s t l in record { opened = g.opened; judgements = g.judgements }

pub entry_adds : (f : SideFacts) (i : JournalItem) (s : State) → Adds s (after f i s) (opened_in i) (judged_in i)
entry_adds f (item.post place planned) s = adds_none s _ (less_same s _ (posts_less planned s))
entry_adds f (item.dial planned) s = adds_none s _ (record { opened = refl; judgements = refl })
entry_adds f (item.opened socket) s =
    let less = tells_less event.Dialled s in
    record { opened = ap (λ ks. ks ++ socket ∷ []) less.opened; judgements = less.judgements ∙ sym (append-nil s.judgements) }
entry_adds f (item.read socket bytes) s = at s.feed
  where
    at : (o : Option Feed) → Adds s (after f (item.read socket bytes) (record s { feed = o })) [] []
    at None = adds_none s _ (record { opened = refl; judgements = refl })
    at (Some d) =
        let less = heeds_less (event_heard f s.session.phase (hears bytes d)) (hears bytes d) (record s { feed = Some d }) in
        adds_none s _ (record { opened = less.opened; judgements = less.judgements })
entry_adds f (item.wrote socket bytes) s = at s.feed
  where
    at : (o : Option Feed) → Adds s (after f (item.wrote socket bytes) (record s { feed = o })) [] []
    at None = adds_none s _ (record { opened = refl; judgements = refl })
    at (Some d) =
        let t = record s { feed = Some d } in
        let g = puts_same (finished (narrowed bytes (texts_at f t d))) (narrowed bytes (texts_at f t d)) d t in
        adds_none s _ (record { opened = g.opened; judgements = g.judgements })
entry_adds f (item.closed socket broken) s = at (is_on socket s.feed)
  where
    at : (b : Bool) → Adds s (if b then breaks s else forgets socket s) [] []
    at true = let less = tells_less (event.Faulted (is_waiting s)) s in adds_none s _ (record { opened = less.opened; judgements = less.judgements })
    at false = adds_none s _ (record { opened = refl; judgements = refl })
entry_adds f (item.judged socket ask number given unread trail) s = at (takes given)
  where
    n : State
    n = notes socket ask number given s

    t : State
    t = tells_if (event_of f ask number given) n

    less : Less n t
    less = tells_if_less (event_of f ask number given) n

    at : (b : Bool) → Adds s (if b then takes_socket f socket ask number unread t else sends socket (replies_of given) t) [] (judged_in (item.judged socket ask number given unread trail))
    at true = record { opened = less.opened ∙ sym (append-nil s.opened); judgements = less.judgements }
    at false = record { opened = less.opened ∙ sym (append-nil s.opened); judgements = less.judgements }
entry_adds f (item.asked true number) s =
    let t = tells (event.AskedIdent (cookie_of f number)) (record s { top = number }) in
    adds_none s _ (composes_same f _ s t (less_top (event.AskedIdent (cookie_of f number)) s number))
entry_adds f (item.asked false number) s =
    let t = tells event.AskedReconnect (record s { top = number }) in
    adds_none s _ (composes_same f _ s t (less_top event.AskedReconnect s number))
entry_adds f (item.numbered number) s =
    adds_none s _ (writes_same f number (message_at (queues Next s).out.queue number) s (queues Next s) (untouched s (queues Next s) refl refl refl refl))
entry_adds f (item.accepted number key) s = at s.feed refl
  where
    accepted_at : (s : State) (d : Feed) → s.feed ≡ Some d → after f (item.accepted number key) s ≡ accepts number key (next_said s.last d) d s
    accepted_at s d e = rw e refl

    stays : (s : State) → s.feed ≡ None → after f (item.accepted number key) s ≡ s
    stays s e = rw e refl

    at : (o : Option Feed) → s.feed ≡ o → Adds s (after f (item.accepted number key) s) [] []
    at None e =
        let q = stays s e in
        adds_none s _ (record { opened = ap (λ (x : State). x.opened) q; judgements = ap (λ (x : State). x.judgements) q })
    at (Some d) e =
        let q = accepted_at s d e in
        let less = accepts_less number key (next_said s.last d) d s e in
        adds_none s _ (record { opened = ap (λ (x : State). x.opened) q ∙ less.opened; judgements = ap (λ (x : State). x.judgements) q ∙ less.judgements })
entry_adds f (item.acked number) s = adds_none s _ (record { opened = refl; judgements = refl })
entry_adds f (item.obeyed full) s = at s.feed
  where
    at : (o : Option Feed) → Adds s (after f (item.obeyed full) (record s { feed = o })) [] []
    at None = adds_none s _ (record { opened = refl; judgements = refl })
    at (Some d) =
        let less = tells_less (event.GotReset full) (with_feed (takes_answer d) (record s { feed = Some d })) in
        adds_none s _ (record { opened = less.opened; judgements = less.judgements })
entry_adds f (item.down planned step) s =
    let less = tells_less event.MarkedDown s in
    adds_none s _ (record { opened = less.opened; judgements = less.judgements })

-- ---- all entries

pub items_add : (f : SideFacts) (is : List JournalItem) (s : State) → Adds s (after_items f is s) (opened_by is) (judged_by is)
items_add f [] s = record { opened = sym (append-nil s.opened); judgements = sym (append-nil s.judgements) }
items_add f (i ∷ is) s =
    let one = entry_adds f i s in
    let more = items_add f is (after f i s) in
    record {
      opened = more.opened ∙ ap (λ l. l ++ opened_by is) one.opened ∙ append_assoc s.opened (opened_in i) (opened_by is);
      judgements = more.judgements ∙ ap (λ l. l ++ judged_by is) one.judgements ∙ append_assoc s.judgements (judged_in i) (judged_by is);
    }
