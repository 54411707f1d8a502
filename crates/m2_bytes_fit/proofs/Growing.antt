-- What was opened and sent goes on as it was, and each socket that is opened leads to the peer.
use Rattle.std.proofs.Common.{◌≡◌, ℕ, Bool, true, false, if◌then◌else◌, List, [], ◌∷◌, ◌++◌, map, Option, Some, None, refl, sym, ap, ◌∙◌, subst, append-nil}
use Rattle.std.specs.List.{AllByRecursion}
use Rattle.m2_feed.specs.m2_fabric.declared.socket.SocketId.{SocketId}
use Rattle.m2_feed.specs.m2_fabric.Sockets.{goes_to}
use Rattle.m2_feed.specs.m2_message.Message.{Content}
use Rattle.m2_never_reset.specs.m2_queues.OutQueues.{message_at}
use Rattle.m2_never_reset.specs.m2_queues.QueueLaws.{Next}
use Rattle.m2_feed.specs.m2_session.declared.event.Event.TheVariants as event
use Rattle.m2_feed.specs.m2_session.SessionLaws.{takes}
use Rattle.m2_feed.specs.m2_journal.Feeds.{hears, next_said, narrowed, finished, texts_at}
use Rattle.m2_feed.specs.m2_journal.Items as item
use Rattle.m2_feed.specs.m2_journal.Items.{JournalItem}
use Rattle.m2_feed.specs.m2_journal.Lawful.{Lawful}
use Rattle.m2_feed.specs.m2_journal.OutFrames as out
use Rattle.m2_feed.specs.m2_journal.OutFrames.{OutFrame, is_unnamed, replies_of}
use Rattle.m2_feed.specs.m2_journal.SideFacts.{SideFacts, cookie_of}
use Rattle.m2_feed.specs.m2_journal.State.{PartText, Feed, SentFrame, State}
use Rattle.m2_feed.specs.m2_journal.Steps.{acceptance, accepts, after, breaks, composes, event_heard, event_of, forgets, is_on, is_waiting, notes, puts_on, queues, sends, takes_answer, takes_socket, tells, tells_if, with_feed, writes_message}
use Rattle.m2_never_reset.specs.PairLaws.{IsNoDown}
use Rattle.m2_bytes_fit.proofs.Entries.{posts_less, heeds_less, accepts_less}
use Rattle.m2_bytes_fit.proofs.Less.{Less, untouched, less_top, tells_less, tells_if_less}

abbrev pub Leads : SideFacts → SocketId → Type 0
Leads f k = goes_to f.peer k ≡ true

pub record Grows (f : SideFacts) (s t : State) : Type 0 where
  pub more_opened : List SocketId
  pub opened : t.opened ≡ s.opened ++ more_opened
  pub leads : AllByRecursion (Leads f) more_opened
  pub more_sent : List SentFrame
  pub sent : t.sent ≡ s.sent ++ more_sent

less_grows : (f : SideFacts) (s t : State) → Less s t → Grows f s t
less_grows f s t l = record {
  more_opened = [];
  opened = l.opened ∙ sym (append-nil s.opened);
  leads = tt;
  more_sent = [];
  sent = l.sent ∙ sym (append-nil s.sent);
}

-- the same sockets, and these frames behind those that were sent
sends_grow : (f : SideFacts) (s t : State) (more : List SentFrame) → t.opened ≡ s.opened → t.sent ≡ s.sent ++ more → Grows f s t
sends_grow f s t more opened sent = record {
  more_opened = [];
  opened = opened ∙ sym (append-nil s.opened);
  leads = tt;
  more_sent = more;
  sent = sent;
}

composes_grow : (f : SideFacts) (w : OutFrame) (s t : State) → Less s t → Grows f s (composes f w t)
composes_grow f w s t l = at t.feed
  where
    at : (o : Option Feed) → Grows f s (composes f w (record t { feed = o }))
    at None = sends_grow f s (record t { feed = None }) [] l.opened (l.sent ∙ sym (append-nil s.sent))
    at (Some d) =
        let x : SentFrame = record { socket = d.socket; frame = w } in
        sends_grow f s (composes f w (record t { feed = Some d })) (x ∷ []) l.opened (ap (λ l. l ++ x ∷ []) l.sent)

puts_grow : (f : SideFacts) (o : Option PartText) (texts : List PartText) (d : Feed) (s : State) → Grows f s (puts_on o texts d s)
puts_grow f None texts d s = sends_grow f s (puts_on None texts d s) [] refl (sym (append-nil s.sent))
puts_grow f (Some t) texts d s = at (is_unnamed t.frame) refl
  where
    at : (b : Bool) → is_unnamed t.frame ≡ b → Grows f s (puts_on (Some t) texts d s)
    at true q = sends_grow f s (puts_on (Some t) texts d s) (record { socket = d.socket; frame = t.frame } ∷ []) (rw q refl) (rw q refl)
    at false q = sends_grow f s (puts_on (Some t) texts d s) [] (rw q refl) (rw q (sym (append-nil s.sent)))

writes_grow : (f : SideFacts) (n : ℕ) (o : Option Content) (s t : State) → Less s t → Grows f s (writes_message f n o t)
writes_grow f n None s t l = less_grows f s t l
writes_grow f n (Some m) s t l =
    let g = composes_grow f (out.message n t.last m) s t l in
    record { more_opened = g.more_opened; opened = g.opened; leads = g.leads; more_sent = g.more_sent; sent = g.sent }

pub entry_grows : (f : SideFacts) (i : JournalItem) (s : State) → IsNoDown i → Lawful f i s → Grows f s (after f i s)
entry_grows f (item.post place planned) s up l = less_grows f s (after f (item.post place planned) s) (posts_less planned s)
entry_grows f (item.dial planned) s up l = less_grows f s (after f (item.dial planned) s) (untouched s (after f (item.dial planned) s) refl refl refl refl)
entry_grows f (item.opened socket) s up l =
    let less = tells_less event.Dialled s in
    record {
      more_opened = socket ∷ [];
      opened = ap (λ ks. ks ++ socket ∷ []) less.opened;
      leads = (l.leads, tt);
      more_sent = [];
      sent = less.sent ∙ sym (append-nil s.sent);
    }
entry_grows f (item.read socket bytes) s up l = at s.feed
  where
    at : (o : Option Feed) → Grows f s (after f (item.read socket bytes) (record s { feed = o }))
    at None = sends_grow f s (record s { feed = None }) [] refl (sym (append-nil s.sent))
    at (Some d) =
        let less = heeds_less (event_heard f s.session.phase (hears bytes d)) (hears bytes d) (record s { feed = Some d }) in
        sends_grow f s (after f (item.read socket bytes) (record s { feed = Some d })) [] less.opened (less.sent ∙ sym (append-nil s.sent))
entry_grows f (item.wrote socket bytes) s up l = at s.feed
  where
    at : (o : Option Feed) → Grows f s (after f (item.wrote socket bytes) (record s { feed = o }))
    at None = sends_grow f s (record s { feed = None }) [] refl (sym (append-nil s.sent))
    at (Some d) =
        let t = record s { feed = Some d } in
        let g = puts_grow f (finished (narrowed bytes (texts_at f t d))) (narrowed bytes (texts_at f t d)) d t in
        record { more_opened = g.more_opened; opened = g.opened; leads = g.leads; more_sent = g.more_sent; sent = g.sent }
entry_grows f (item.closed socket broken) s up l = at (is_on socket s.feed)
  where
    at : (b : Bool) → Grows f s (if b then breaks s else forgets socket s)
    at true = let less = tells_less (event.Faulted (is_waiting s)) s in sends_grow f s (breaks s) [] less.opened (less.sent ∙ sym (append-nil s.sent))
    at false = sends_grow f s (forgets socket s) [] refl (sym (append-nil s.sent))
entry_grows f (item.judged socket ask number given unread trail) s up l = at (takes given)
  where
    n : State
    n = notes socket ask number given s

    t : State
    t = tells_if (event_of f ask number given) n

    less : Less n t
    less = tells_if_less (event_of f ask number given) n

    at : (b : Bool) → Grows f s (if b then takes_socket f socket ask number unread t else sends socket (replies_of given) t)
    at true =
        let x : SentFrame = record { socket = socket; frame = acceptance ask number t } in
        sends_grow f s (takes_socket f socket ask number unread t) (x ∷ []) less.opened (ap (λ l. l ++ x ∷ []) less.sent)
    at false =
        let xs = map (λ w. record { socket = socket; frame = w }) (replies_of given) in
        sends_grow f s (sends socket (replies_of given) t) xs less.opened (ap (λ l. l ++ xs) less.sent)
entry_grows f (item.asked true number) s up l =
    let t = tells (event.AskedIdent (cookie_of f number)) (record s { top = number }) in
    composes_grow f (out.ident t.session.client_cookie number) s t (less_top (event.AskedIdent (cookie_of f number)) s number)
entry_grows f (item.asked false number) s up l =
    let t = tells event.AskedReconnect (record s { top = number }) in
    composes_grow f (out.reconnect t.session.client_cookie t.session.server_cookie number t.session.connect t.last) s t (less_top event.AskedReconnect s number)
entry_grows f (item.numbered number) s up l =
    writes_grow f number (message_at (queues Next s).out.queue number) s (queues Next s) (untouched s (queues Next s) refl refl refl refl)
entry_grows f (item.accepted number key) s up l = at s.feed refl
  where
    at : (o : Option Feed) → s.feed ≡ o → Grows f s (after f (item.accepted number key) s)
    at None e = subst (Grows f s) (sym (stays s e)) (sends_grow f s s [] refl (sym (append-nil s.sent)))
      where
        stays : (s : State) → s.feed ≡ None → after f (item.accepted number key) s ≡ s
        stays s e = rw e refl
    at (Some d) e = subst (Grows f s) (sym (accepted_at s d e)) (less_grows f s (accepts number key (next_said s.last d) d s) (accepts_less number key (next_said s.last d) d s e))
      where
        accepted_at : (s : State) (d : Feed) → s.feed ≡ Some d → after f (item.accepted number key) s ≡ accepts number key (next_said s.last d) d s
        accepted_at s d e = rw e refl
entry_grows f (item.acked number) s up l = sends_grow f s (after f (item.acked number) s) [] refl (sym (append-nil s.sent))
entry_grows f (item.obeyed full) s up l = at s.feed
  where
    at : (o : Option Feed) → Grows f s (after f (item.obeyed full) (record s { feed = o }))
    at None = sends_grow f s (record s { feed = None }) [] refl (sym (append-nil s.sent))
    at (Some d) =
        let less = tells_less (event.GotReset full) (with_feed (takes_answer d) (record s { feed = Some d })) in
        sends_grow f s (after f (item.obeyed full) (record s { feed = Some d })) [] less.opened (less.sent ∙ sym (append-nil s.sent))
entry_grows f (item.down planned step) s up l = elim up [ ]
