-- Each lawful entry keeps that a side asks first on the sockets that it opened, and what its bytes there are.
use Rattle.std.proofs.Common.{◌≡◌, ◌≢◌, ℕ, ◌+◌, inl, inr, Bool, true, false, not, if◌then◌else◌, List, [], ◌∷◌, ◌++◌, map, Option, Some, None, refl, sym, ap, ◌∙◌, subst, append_assoc, append-nil}
use Rattle.std.specs.Prelude.{IfSome}
use Rattle.std.specs.List.{AllByRecursion, filter}
use Rattle.m2_turn.specs.m2_session.declared.ask.AskFacts.{AskFacts}
use Rattle.m2_turn.specs.m2_session.Asks as asks
use Rattle.m2_turn.specs.m2_session.Asks.{told_of_ident, told_of_reconnect}
use Rattle.m2_weave.specs.m2_control.declared.control.Control.TheVariants as control
use Rattle.m2_fabric.specs.declared.socket.SocketId.{SocketId}
use Rattle.m2_fabric.specs.Sockets.{is_among, same_socket}
use Rattle.m2_dispatch.specs.m2_message.Message.{Content}
use Rattle.m2_dispatch.specs.m2_policy.declared.path.Key.{Key}
use Rattle.m2_dispatch.specs.m2_queues.OutQueues.{message_at}
use Rattle.m2_dispatch.specs.m2_queues.QueueLaws.{Next}
use Rattle.m2_turn.specs.m2_session.declared.answer.Answer.{Answer}
use Rattle.m2_turn.specs.m2_session.declared.answer.Answer.TheVariants as answer
use Rattle.m2_turn.specs.m2_session.declared.event.Event.{Event}
use Rattle.m2_turn.specs.m2_session.declared.event.Event.TheVariants as event
use Rattle.m2_turn.specs.m2_session.declared.session.Phase.{Phase}
use Rattle.m2_turn.specs.m2_session.declared.session.Phase.TheVariants as phase
use Rattle.m2_turn.specs.m2_session.declared.session.Session.{Session}
use Rattle.m2_turn.specs.m2_session.Ident.{ident_answer}
use Rattle.m2_turn.specs.m2_session.SessionLaws as session
use Rattle.m2_turn.specs.m2_session.SessionLaws.{ident_event, reconnect_event, takes}
use Rattle.m2_turn.specs.m2_session.Reconnect.{Reconnect, reconnect_answer}
use Rattle.m2_turn.specs.m2_session.Steps.{step_of}
use Rattle.m2_turn.proofs.m2_session.Answers.{taken_is_ready_lem}
use Rattle.m2_turn.proofs.m2_session.Events.{fault_closes}
use Rattle.m2_weave.specs.m2_journal.Feeds.{answer_said, begun, finished, hears, narrowed, next_said, texts_at}
use Rattle.m2_weave.specs.m2_journal.Items as item
use Rattle.m2_weave.specs.m2_journal.Items.{JournalItem}
use Rattle.m2_weave.specs.m2_journal.Lawful.{Lawful, MayAsk, MayNumber, MayObey, OnFeedAt, judged_on}
use Rattle.m2_weave.specs.m2_journal.Laws.{IfFed}
use Rattle.m2_weave.specs.m2_journal.OutFrames as out
use Rattle.m2_weave.specs.m2_journal.OutFrames.{is_unnamed, replies_of}
use Rattle.m2_weave.specs.m2_journal.Plan.{Planned, to_post, to_dial, to_go_down}
use Rattle.m2_weave.specs.m2_journal.Said.{Said, says, brings, aborts, garbles}
use Rattle.m2_weave.specs.m2_journal.Replay.{AreLawful, after_items}
use Rattle.m2_weave.specs.m2_journal.SideFacts.{SideFacts, cookie_of}
use Rattle.m2_weave.specs.m2_journal.State.{Feed, PartText, State, start}
use Rattle.m2_weave.specs.m2_journal.Steps.{acceptance, accepts, after, answer_event, answer_to, breaks, event_heard, event_of, forgets, heeds, is_agreed, is_on, is_waiting, kept_of, notes, posts, puts_on, queues, sends, takes_answer, takes_socket, tells, tells_if, with_feed, writes_message}
use Rattle.m2_weave.proofs.m2_journal.Sessions.{tells-session, told-session}
use Rattle.m2_bytes_fit.specs.m2_never_reset.Frames.{frames_on, is_ask}
use Rattle.m2_bytes_fit.proofs.m2_never_reset.Feeds.{hears_hears, opened_hears}
use Rattle.m2_bytes_fit.specs.Ends.{takings_on}
use Rattle.m2_bytes_fit.proofs.Entries.{entry_keeps, FeedSo}
use Rattle.m2_bytes_fit.proofs.Hands.{HandKept, closing, hand_keeps, none_kept, reconnect_apart}
use Rattle.m2_bytes_fit.proofs.Judges.{not_judged_on, no_last}
use Rattle.m2_bytes_fit.proofs.Kept.{KeptBy, replied, view}
use Rattle.m2_bytes_fit.proofs.Less.{Less, less_trans, tells_less, tells_if_less, untouched, down_less}
use Rattle.m2_bytes_fit.proofs.Steps.{AllKept, kept_in_less, kept_quietly}
use Rattle.m2_growth.proofs.Feeds.{AskFirst, AsksFirst, BeginsAsking, FeedIs, MayPut, all_ready, fine_asks, fine_back, fine_mails, fine_ready, fine_replies, first_asks, first_mails, first_replies, found_so, hears_may, less_feed, may_at, may_narrow, on_feed_all, opened_may, sent_all}
use Rattle.m2_fabric.proofs.Sockets.{among_other, among_last, same_equal}
use Rattle.m2_fabric.proofs.m2_lemmas.Booleans.{from_false_true}

-- ---- where less is left

first_less : (s t : State) → Less s t → AskFirst s.sent s.opened → AskFirst t.sent t.opened
first_less s t l h k o = subst (λ x. BeginsAsking (frames_on k x)) (sym l.sent) (h k (ap (is_among k) (sym l.opened) ∙ o))

-- the feed is gone
gone : (s t : State) → Less s t → t.feed ≡ None → AsksFirst s → AsksFirst t
gone s t l e h = record { feed = subst (λ o. IfFed o (FeedIs t.session.phase t.sent t.opened)) (sym e) tt; first = first_less s t l h.first }

-- what is left is as before, or comes to another phase
comes_to : (s t : State) (p : Phase) → Less s t → t.session.phase ≡ p → ((d : Feed) → FeedIs s.session.phase s.sent s.opened d → FeedIs p s.sent s.opened d) → AsksFirst s → AsksFirst t
comes_to s t p l e each h = record {
  feed = rw (e, l.sent, l.opened) (less_feed p s.sent s.opened s.feed t.feed l.feed (on_feed_all (FeedIs s.session.phase s.sent s.opened) (FeedIs p s.sent s.opened) s.feed each h.feed));
  first = first_less s t l h.first;
}

-- ---- what is heard

abbrev IsHeardIn : Phase → Event → Type 0
IsHeardIn p (event.GotServerIdent cookie global) = p ≡ phase.IdentSent
IsHeardIn p event.GotReconnectOk = p ≡ phase.ReconnectSent
IsHeardIn p (event.GotRetry number) = p ≡ phase.ReconnectSent
IsHeardIn p (event.GotRetryGlobal number) = p ≡ phase.ReconnectSent
IsHeardIn p event.GotWait = Unit {0}
IsHeardIn p _ = ⊥

heard_in : (f : SideFacts) (p : Phase) (o : Option Said) → IfSome (answer_event f p o) (IsHeardIn p)
heard_in f phase.IdentSent (Some (says (control.ServerIdent i))) = at (is_agreed f i)
  where
    at : (b : Bool) → IfSome (if b then Some (event.GotServerIdent i.cookie i.global) else None) (IsHeardIn phase.IdentSent)
    at true = refl
    at false = tt
heard_in f phase.IdentSent (Some (says (control.Wait w))) = tt
heard_in f phase.ReconnectSent (Some (says (control.SessionReconnectOk k))) = refl
heard_in f phase.ReconnectSent (Some (says (control.SessionRetry r))) = refl
heard_in f phase.ReconnectSent (Some (says (control.SessionRetryGlobal r))) = refl
heard_in f phase.ReconnectSent (Some (says (control.Wait w))) = tt
heard_in f p o = tt

ident_apart : phase.IdentSent ≢ phase.Connecting
ident_apart e = cc

reconnect_unready : phase.ReconnectSent ≢ phase.Ready
reconnect_unready e = cc

told_first : (e : Event) (s : State) → IsHeardIn s.session.phase e → AsksFirst s → AsksFirst (tells e s)
told_first (event.GotServerIdent cookie global) s p h =
    comes_to s (tells (event.GotServerIdent cookie global) s) phase.Ready (tells_less (event.GotServerIdent cookie global) s) (ap (λ (x : Session). x.phase) (tells-session (event.GotServerIdent cookie global) s))
    (λ d. fine_ready s.session.phase s.sent s.opened d (λ c. ident_apart (sym p ∙ c))) h
told_first event.GotReconnectOk s p h =
    comes_to s (tells event.GotReconnectOk s) phase.Ready (tells_less event.GotReconnectOk s) (ap (λ (x : Session). x.phase) (tells-session event.GotReconnectOk s))
    (λ d. fine_ready s.session.phase s.sent s.opened d (λ c. reconnect_apart (sym p ∙ c))) h
told_first (event.GotRetry number) s p h =
    comes_to s (tells (event.GotRetry number) s) phase.Connecting (tells_less (event.GotRetry number) s) (ap (λ (x : Session). x.phase) (tells-session (event.GotRetry number) s))
    (λ d. fine_back s.session.phase s.sent s.opened d (λ c. reconnect_unready (sym p ∙ c))) h
told_first (event.GotRetryGlobal number) s p h =
    comes_to s (tells (event.GotRetryGlobal number) s) phase.Connecting (tells_less (event.GotRetryGlobal number) s) (ap (λ (x : Session). x.phase) (tells-session (event.GotRetryGlobal number) s))
    (λ d. fine_back s.session.phase s.sent s.opened d (λ c. reconnect_unready (sym p ∙ c))) h
told_first event.GotWait s p h = gone s (tells event.GotWait s) (tells_less event.GotWait s) (closing event.GotWait s refl) h
told_first e s p h = elim p [ ]

heeds_first : (o : Option Event) (d : Feed) (s : State) → IfSome o (IsHeardIn s.session.phase) → AsksFirst (with_feed d s) → AsksFirst (heeds o d s)
heeds_first (Some e) d s p h = told_first e (with_feed (takes_answer d) s) p (record { feed = h.feed; first = h.first })
heeds_first None d s p h = record { feed = h.feed; first = h.first }

-- the feed has heard bytes
heard_first : (bytes : List ℕ) (d : Feed) (s : State) → AsksFirst (with_feed d s) → AsksFirst (with_feed (hears bytes d) s)
heard_first bytes d s h =
    let same = hears_hears bytes d in
    let old = h.feed in
    record {
      feed = rw (same.socket, same.opened) (record { asks_alone = old.asks_alone; taken = old.taken; there = old.there; asked = old.asked; puts = hears_may s.session.phase bytes d old.puts });
      first = h.first;
    }

-- ---- what is put

puts_first : (o : Option PartText) (texts : List PartText) (d : Feed) (s : State) → finished texts ≡ o → AllByRecursion (MayPut s.session.phase) texts → AsksFirst (with_feed d s) → AsksFirst (puts_on o texts d s)
puts_first None texts d s e may h =
    let old = h.feed in
    record { feed = record { asks_alone = old.asks_alone; taken = old.taken; there = old.there; asked = old.asked; puts = may }; first = h.first }
puts_first (Some t) texts d s e may h = at (is_unnamed t.frame) refl
  where
    at : (b : Bool) → is_unnamed t.frame ≡ b → AsksFirst (puts_on (Some t) texts d s)
    at true q =
        let ready = found_so s.session.phase texts t may e q in
        rw q (record {
          feed = fine_mails s.session.phase s.sent s.opened d.socket d.opened d.texts [] t.frame ready tt h.feed;
          first = first_mails s.session.phase s.sent s.opened d.socket d.opened d.texts t.frame ready h.feed h.first;
        })
    at false q =
        let old = h.feed in
        rw q (record { feed = record { asks_alone = old.asks_alone; taken = old.taken; there = old.there; asked = old.asked; puts = tt }; first = h.first })

-- ---- what is told of an answer

abbrev IsPendingOrNone : Option Event → Type 0
IsPendingOrNone None = Unit {0}
IsPendingOrNone (Some event.Pending) = Unit {0}
IsPendingOrNone (Some e) = ⊥

ident_quiet : (given : Answer) (client server global : ℕ) → takes given ≡ false → IsPendingOrNone (ident_event given client server global)
ident_quiet answer.Close client server global e = tt
ident_quiet answer.Wait client server global e = tt
ident_quiet (answer.Reset full) client server global e = tt
ident_quiet answer.ResetPending client server global e = tt
ident_quiet (answer.RetryGlobal number) client server global e = tt
ident_quiet (answer.Retry number) client server global e = tt
ident_quiet given client server global e = from_false_true (sym e)

reconnect_quiet : (given : Answer) (ask : Reconnect) → takes given ≡ false → IsPendingOrNone (reconnect_event given ask)
reconnect_quiet answer.Resume ask e = from_false_true (sym e)
reconnect_quiet given ask e = tt

quiet_answer : (f : SideFacts) (a : AskFacts) (number : ℕ) (given : Answer) → takes given ≡ false → IsPendingOrNone (event_of f a number given)
quiet_answer f a number given e = at a.ident
  where
    at : (b : Bool) → IsPendingOrNone (if b then told_of_ident (kept_of f a) given (cookie_of f number) else told_of_reconnect (kept_of f a) given)
    at true = ident_quiet given (kept_of f a).client (cookie_of f number) a.global e
    at false = reconnect_quiet given (asks.reconnect_of (kept_of f a)) e

pending_first : (o : Option Event) (s : State) → IsPendingOrNone o → AsksFirst s → AsksFirst (tells_if o s)
pending_first None s p h = h
pending_first (Some event.Pending) s p h = gone s (tells event.Pending s) (tells_less event.Pending s) (closing event.Pending s refl) h
pending_first (Some e) s p h = elim p [ ]

-- an answer that takes the socket leads to Ready
ident_ready : (s : Session) (given : Answer) (client server global : ℕ) → takes given ≡ true → (session.told s (ident_event given client server global)).phase ≡ phase.Ready
ident_ready s answer.Close client server global e = from_false_true e
ident_ready s answer.Wait client server global e = from_false_true e
ident_ready s (answer.Reset full) client server global e = from_false_true e
ident_ready s answer.ResetPending client server global e = from_false_true e
ident_ready s (answer.RetryGlobal number) client server global e = from_false_true e
ident_ready s (answer.Retry number) client server global e = from_false_true e
ident_ready s given client server global e = refl

reconnect_ready : (s : Session) (given : Answer) (ask kept : Reconnect) → takes given ≡ true → (session.told s (reconnect_event given ask)).phase ≡ phase.Ready →
    (session.told s (reconnect_event given kept)).phase ≡ phase.Ready
reconnect_ready s answer.Resume ask kept e ready = refl
reconnect_ready s answer.ResetPending ask kept e ready = from_false_true e
reconnect_ready s given ask kept e ready = ready

ready_answer : (f : SideFacts) (s : State) (a : AskFacts) (number : ℕ) (given : Answer) → takes given ≡ true → given ≡ answer_to a s → (session.told s.session (event_of f a number given)).phase ≡ phase.Ready
ready_answer f s a number given t e = at a.ident e
  where
    at : (b : Bool) → given ≡ (if b then ident_answer s.session a.client a.global else reconnect_answer s.session (asks.reconnect_of a) s.out.queue.written) →
        (session.told s.session (if b then told_of_ident (kept_of f a) given (cookie_of f number) else told_of_reconnect (kept_of f a) given)).phase ≡ phase.Ready
    at true q = ident_ready s.session given (kept_of f a).client (cookie_of f number) a.global t
    at false q =
        let ask = asks.reconnect_of a in
        let ready = taken_is_ready_lem.reconnect s.session ask s.out.queue.written (subst (λ (z : Answer). takes z ≡ true) q t) in
        reconnect_ready s.session given ask (asks.reconnect_of (kept_of f a)) t (subst (λ (z : Answer). (session.told s.session (reconnect_event z ask)).phase ≡ phase.Ready) (sym q) ready)

-- ---- where a socket is opened nothing was sent

nothing_sent : (f : SideFacts) (is : List JournalItem) (s : State) (k : SocketId) → AllKept f is s → is_among k s.opened ≡ false → is_among k (map (λ j. j.socket) s.judgements) ≡ false → frames_on k s.sent ≡ []
nothing_sent f is s k h o j = at (is_among k s.opened) (takings_on k is) o (h k)
  where
    unjudged : judged_on k s.judgements ≡ []
    unjudged = not_judged_on k s.judgements j

    at : (b : Bool) (ts : List (List ℕ)) → b ≡ false → KeptBy f b ts (view is s k) → frames_on k s.sent ≡ []
    at true ts e g = from_false_true (sym e)
    at false [] e g = g.frames ∙ ap replied unjudged
    at false (u ∷ []) e g = absurd (no_last g.before g.last (sym unjudged ∙ g.judged))
    at false (u ∷ v ∷ us) e g = absurd g

-- ---- each entry

posts_first : (planned : Option Planned) (s : State) → AsksFirst s → AsksFirst (posts planned (record s { steps = s.steps + 1 }))
posts_first (Some (to_post m)) s h = record { feed = h.feed; first = h.first }
posts_first (Some to_dial) s h = record { feed = h.feed; first = h.first }
posts_first (Some to_go_down) s h = record { feed = h.feed; first = h.first }
posts_first None s h = record { feed = h.feed; first = h.first }

opened_first : (f : SideFacts) (k : SocketId) (s : State) → frames_on k s.sent ≡ [] → AskFirst s.sent s.opened → AsksFirst (after f (item.opened k) s)
opened_first f k s none h =
    let same = opened_hears f k s.last s.owes in
    record {
      feed = rw (same.socket, same.opened) (record {
        asks_alone = inr (ap (filter (λ w. not (is_ask w))) none);
        taken = λ e. from_false_true (sym e);
        there = λ e. among_last k s.opened;
        asked = λ e. inl refl;
        puts = opened_may phase.Connecting f k s.last s.owes;
      });
      first = λ j o. at j (same_socket j k) refl o;
    }
  where
    at : (j : SocketId) (b : Bool) → same_socket j k ≡ b → is_among j (s.opened ++ k ∷ []) ≡ true → BeginsAsking (frames_on j s.sent)
    at j true e o = subst BeginsAsking (sym (ap (λ i. frames_on i s.sent) (same_equal j k e) ∙ none)) tt
    at j false e o = h j (sym (among_other j k s.opened e) ∙ o)

messages_first : (f : SideFacts) (number : ℕ) (o : Option Content) (d : Feed) (s : State) → s.session.phase ≡ phase.Ready → AsksFirst (with_feed d s) → AsksFirst (writes_message f number o (with_feed d s))
messages_first f number None d s e h = h
messages_first f number (Some m) d s e h = record {
  feed = fine_mails s.session.phase s.sent s.opened d.socket d.opened d.texts (begun f (out.message number s.last m) ∷ []) (out.message number s.last m) e (λ u. from_false_true u, tt) h.feed;
  first = first_mails s.session.phase s.sent s.opened d.socket d.opened d.texts (out.message number s.last m) e h.feed h.first;
}

accepts_first : (number : ℕ) (key : Key) (o : Option Said) (d : Feed) (s : State) → AsksFirst (with_feed d s) → AsksFirst (accepts number key o d (with_feed d s))
accepts_first number key (Some (brings m)) d s h = record { feed = h.feed; first = h.first }
accepts_first number key (Some (says c)) d s h = h
accepts_first number key (Some aborts) d s h = h
accepts_first number key (Some garbles) d s h = h
accepts_first number key None d s h = h

obeys : (s : Session) (full : Bool) → (step_of s (event.GotReset full)).session.phase ≡ phase.Connecting
obeys s true = refl
obeys s false = refl

pub entry_first : (f : SideFacts) (is : List JournalItem) (i : JournalItem) (s : State) → Lawful f i s → AllKept f is s → AsksFirst s → AsksFirst (after f i s)
entry_first f is (item.post place planned) s l kept h = posts_first planned s h
entry_first f is (item.dial planned) s l kept h = record { feed = h.feed; first = h.first }
entry_first f is (item.opened socket) s l kept h = opened_first f socket s (nothing_sent f is s socket kept l.not_opened l.not_judged) h.first
entry_first f is (item.read socket bytes) s l kept h = at s.feed h.feed
  where
    at : (o : Option Feed) → IfFed o (FeedIs s.session.phase s.sent s.opened) → AsksFirst (after f (item.read socket bytes) (record s { feed = o }))
    at None g = record { feed = tt; first = h.first }
    at (Some d) g =
        let t = record s { feed = Some d } in
        heeds_first (event_heard f s.session.phase (hears bytes d)) (hears bytes d) t (heard_in f s.session.phase (answer_said (hears bytes d))) (heard_first bytes d t (record { feed = g; first = h.first }))
entry_first f is (item.wrote socket bytes) s l kept h = at s.feed h.feed
  where
    at : (o : Option Feed) → IfFed o (FeedIs s.session.phase s.sent s.opened) → AsksFirst (after f (item.wrote socket bytes) (record s { feed = o }))
    at None g = record { feed = tt; first = h.first }
    at (Some d) g =
        let t = record s { feed = Some d } in
        puts_first (finished (narrowed bytes (texts_at f t d))) (narrowed bytes (texts_at f t d)) d t refl (may_narrow s.session.phase bytes (texts_at f t d) (may_at f t d g.puts)) (record { feed = g; first = h.first })
entry_first f is (item.closed socket broken) s l kept h = at (is_on socket s.feed)
  where
    t : State
    t = tells (event.Faulted (is_waiting s)) s

    at : (b : Bool) → AsksFirst (if b then breaks s else forgets socket s)
    at true =
        gone s (breaks s) (less_trans s t (breaks s) (tells_less (event.Faulted (is_waiting s)) s) (untouched t (breaks s) refl refl refl refl))
        (closing (event.Faulted (is_waiting s)) s (fault_closes s.session (is_waiting s))) h
    at false = record { feed = h.feed; first = h.first }
entry_first f is (item.judged socket ask number given unread trail) s l kept h = at (takes given) refl
  where
    n : State
    n = notes socket ask number given s

    o : Option Event
    o = event_of f ask number given

    t : State
    t = tells_if o n

    less : Less n t
    less = tells_if_less o n

    not_opened : is_among socket t.opened ≡ false
    not_opened = ap (is_among socket) less.opened ∙ l.not_opened

    noted : AsksFirst n
    noted = record { feed = h.feed; first = h.first }

    at : (b : Bool) → takes given ≡ b → AsksFirst (if b then takes_socket f socket ask number unread t else sends socket (replies_of given) t)
    at true e =
        let w = acceptance ask number t in
        let ready : t.session.phase ≡ phase.Ready = ap (λ (x : Session). x.phase) (told-session o n) ∙ ready_answer f s ask number given e l.by_the_tables in
        record {
          feed = record { asks_alone = inl ready; taken = λ z. (ready, not_opened); there = λ z. from_false_true z; asked = λ z. from_false_true z; puts = all_ready t.session.phase ready (begun f w ∷ []) };
          first = first_replies t.sent t.opened socket (w ∷ []) not_opened (first_less n t less h.first);
        }
    at false e =
        let told = pending_first o n (quiet_answer f ask number given e) noted in
        record {
          feed = on_feed_all (FeedIs t.session.phase t.sent t.opened) (FeedIs t.session.phase (t.sent ++ sent_all socket (replies_of given)) t.opened) t.feed (λ d. fine_replies t.session.phase t.sent t.opened d socket (replies_of given) not_opened) told.feed;
          first = first_replies t.sent t.opened socket (replies_of given) not_opened told.first;
        }
entry_first f is (item.asked true number) s l kept h = at s.feed l h.feed
  where
    at : (o : Option Feed) → OnFeedAt o (MayAsk s true number) → IfFed o (FeedIs s.session.phase s.sent s.opened) → AsksFirst (after f (item.asked true number) (record s { feed = o }))
    at None m g = elim m [ ]
    at (Some d) m g =
        let w = out.ident (tells (event.AskedIdent (cookie_of f number)) (record s { top = number; feed = Some d })).session.client_cookie number in
        record {
          feed = fine_asks s.session.phase phase.IdentSent s.sent s.opened d.socket d.opened d.texts (begun f w ∷ []) w m.phase refl (λ u. from_false_true u, tt) g;
          first = first_asks s.sent s.opened d.socket w refl h.first;
        }
entry_first f is (item.asked false number) s l kept h = at s.feed l h.feed
  where
    at : (o : Option Feed) → OnFeedAt o (MayAsk s false number) → IfFed o (FeedIs s.session.phase s.sent s.opened) → AsksFirst (after f (item.asked false number) (record s { feed = o }))
    at None m g = elim m [ ]
    at (Some d) m g =
        let w = out.reconnect s.session.client_cookie s.session.server_cookie number s.session.connect s.last in
        record {
          feed = fine_asks s.session.phase phase.ReconnectSent s.sent s.opened d.socket d.opened d.texts (begun f w ∷ []) w m.phase refl (λ u. from_false_true u, tt) g;
          first = first_asks s.sent s.opened d.socket w refl h.first;
        }
entry_first f is (item.numbered number) s l kept h = at s.feed l h.feed
  where
    at : (o : Option Feed) → OnFeedAt o (MayNumber s number) → IfFed o (FeedIs s.session.phase s.sent s.opened) → AsksFirst (after f (item.numbered number) (record s { feed = o }))
    at None m g = elim m [ ]
    at (Some d) m g =
        let t = queues Next (record s { feed = Some d }) in
        messages_first f number (message_at t.out.queue number) d t m.phase (record { feed = g; first = h.first })
entry_first f is (item.accepted number key) s l kept h = at s.feed h.feed
  where
    at : (o : Option Feed) → IfFed o (FeedIs s.session.phase s.sent s.opened) → AsksFirst (after f (item.accepted number key) (record s { feed = o }))
    at None g = record { feed = tt; first = h.first }
    at (Some d) g = accepts_first number key (next_said s.last d) d (record s { feed = Some d }) (record { feed = g; first = h.first })
entry_first f is (item.acked number) s l kept h = record { feed = h.feed; first = h.first }
entry_first f is (item.obeyed full) s l kept h = at s.feed l h.feed
  where
    at : (o : Option Feed) → OnFeedAt o (MayObey s full) → IfFed o (FeedIs s.session.phase s.sent s.opened) → AsksFirst (after f (item.obeyed full) (record s { feed = o }))
    at None m g = elim m [ ]
    at (Some d) m g =
        let t = with_feed (takes_answer d) (record s { feed = Some d }) in
        comes_to t (tells (event.GotReset full) t) phase.Connecting (tells_less (event.GotReset full) t) (ap (λ (x : Session). x.phase) (tells-session (event.GotReset full) t) ∙ obeys s.session full)
        (λ e. fine_back s.session.phase s.sent s.opened e (λ c. reconnect_unready (sym m.phase ∙ c))) (record { feed = g; first = h.first })
entry_first f is (item.down planned step) s l kept h =
    gone s (after f (item.down planned step) s) (down_less f planned step s) (closing event.MarkedDown s refl) h

-- ---- all that is kept along a journal

pub record IsKept (f : SideFacts) (is : List JournalItem) (s : State) : Type 0 where
  pub kept : AllKept f is s
  pub hand : HandKept s
  pub asks : AsksFirst s

feed_so : (s : State) → AsksFirst s → IfFed s.feed (FeedSo s)
feed_so s h = at s.feed h.feed
  where
    at : (o : Option Feed) → IfFed o (FeedIs s.session.phase s.sent s.opened) → IfFed o (FeedSo s)
    at None g = tt
    at (Some d) g = record { asks_alone = g.asks_alone; taken = λ e. (g.taken e).0 }

-- also where the side is marked down
bytes_kept : (f : SideFacts) (is : List JournalItem) (i : JournalItem) (s : State) → Lawful f i s → IsKept f is s → AllKept f (is ++ i ∷ []) (after f i s) × HandKept (after f i s)
bytes_kept f is (item.down planned step) s l h = (
  kept_quietly f is (item.down planned step) (after f (item.down planned step) s) (λ k. record { read = refl; wrote = refl; taken = refl })
      (kept_in_less f is s (after f (item.down planned step) s) (down_less f planned step s) h.kept),
  none_kept (after f (item.down planned step) s) (closing event.MarkedDown s refl),
)
bytes_kept f is i s l h = (entry_keeps f is i s tt l h.hand (feed_so s h.asks) h.kept, hand_keeps f i s tt l h.hand)

entry_kept : (f : SideFacts) (is : List JournalItem) (i : JournalItem) (s : State) → Lawful f i s → IsKept f is s → IsKept f (is ++ i ∷ []) (after f i s)
entry_kept f is i s l h =
    let bytes = bytes_kept f is i s l h in
    record { kept = bytes.0; hand = bytes.1; asks = entry_first f is i s l h.kept h.asks }

along : (f : SideFacts) (is js : List JournalItem) (s : State) → AreLawful f js s → IsKept f is s → IsKept f (is ++ js) (after_items f js s)
along f is [] s l h = subst (λ l. IsKept f l s) (sym (append-nil is)) h
along f is (j ∷ js) s l h =
    subst (λ l. IsKept f l (after_items f js (after f j s))) (append_assoc is (j ∷ []) js) (along f (is ++ j ∷ []) js (after f j s) l.1 (entry_kept f is j s l.0 h))

at_start : (f : SideFacts) → IsKept f [] (start f)
at_start f = record { kept = λ k. record { read = refl; wrote = refl; feed = refl; frames = refl }; hand = tt; asks = record { feed = tt; first = λ k o. from_false_true o } }

pub lawful_kept : (f : SideFacts) (is : List JournalItem) → AreLawful f is (start f) → IsKept f is (after_items f is (start f))
lawful_kept f is l = along f [] is (start f) l (at_start f)
