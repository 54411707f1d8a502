-- Whatever a record composes for a socket can be sent, where what it keeps is bounded; and what it hears and judges of another
-- such record leaves that bounded.
use Rattle.std.proofs.Common.{◌≡◌, ◌≢◌, ℕ, zero, suc, ◌+◌, ◌<◌, ◌≤◌, ◌^◌, ◌==◌, Bool, true, false, not, if◌then◌else◌, List, [], ◌∷◌, ◌++◌, drop, map, Option, Some, None, refl, sym, ap, ◌∙◌, subst, arith, ◌⊎◌, inl, inr}
use Rattle.std.specs.Prelude.{IfSome}
use Rattle.std.specs.List.{AllByRecursion, filter, filter_map}
use Rattle.std.proofs.lemmas.Bool.{eq-eqb}
use Rattle.std.proofs.lemmas.List.{map-append}
use Rattle.m2_feed.specs.m2_session.declared.ask.AskFacts.{AskFacts}
use Rattle.m2_feed.specs.m2_session.Asks as asks
use Rattle.m2_feed.specs.m2_control.declared.control.Control.TheVariants as control
use Rattle.m2_feed.specs.m2_control.declared.fields.TheConstants.{GREATEST_NUMBER}
use Rattle.m2_feed.specs.m2_control.declared.server_ident.ServerIdent.{ServerIdent}
use Rattle.m2_feed.specs.m2_control.declared.session_retry.SessionRetry.{SessionRetry}
use Rattle.m2_feed.specs.m2_fabric.declared.socket.SocketId.{SocketId}
use Rattle.m2_feed.specs.m2_fabric.Sockets.{is_among, same_socket}
use Rattle.m2_feed.specs.m2_message.Message.{Content}
use Rattle.m2_feed.specs.m2_policy.declared.path.Key.{Key}
use Rattle.m2_never_reset.specs.m2_queues.QueueLaws.{Next}
use Rattle.m2_never_reset.specs.m2_queues.OutQueues.{message_at}
use Rattle.m2_feed.specs.m2_session.declared.answer.Answer.{Answer}
use Rattle.m2_feed.specs.m2_session.declared.answer.Answer.TheVariants as answer
use Rattle.m2_feed.specs.m2_session.declared.event.Event.TheVariants as event
use Rattle.m2_feed.specs.m2_session.declared.session.Phase.{Phase}
use Rattle.m2_feed.specs.m2_session.declared.session.Session.{Session}
use Rattle.m2_feed.specs.m2_session.Ident.{ident_answer, ident_rows}
use Rattle.m2_feed.specs.m2_session.SessionLaws as session
use Rattle.m2_feed.specs.m2_session.SessionLaws.{takes, ident_event, reconnect_event}
use Rattle.m2_feed.specs.m2_session.Reconnect.{reconnect_answer, reconnect_rows}
use Rattle.m2_feed.specs.m2_session.Steps.{step_of}
use Rattle.m2_feed.proofs.m2_session.Rows.{each_answer}
use Rattle.m2_never_reset.specs.Asks.{Ask, by_ident, by_reconnect}
use Rattle.m2_feed.specs.m2_journal.declared.entry.JudgedItem.{JudgedItem}
use Rattle.m2_feed.specs.m2_journal.Feeds.{answer_said, hears, narrowed, finished, next_place, next_said, texts_at}
use Rattle.m2_feed.specs.m2_journal.Items as item
use Rattle.m2_feed.specs.m2_journal.Items.{JournalItem}
use Rattle.m2_feed.specs.m2_journal.Lawful.{IsNext, IsReadable, Lawful, MayAccept, MayAsk, MayNumber, OnFeedAt, judged_on, judged_sockets}
use Rattle.m2_feed.specs.m2_journal.Laws.{IfFed}
use Rattle.m2_feed.specs.m2_journal.OutFrames as out
use Rattle.m2_feed.specs.m2_journal.OutFrames.{OutFrame, is_unnamed, replies_of}
use Rattle.m2_feed.specs.m2_journal.Said.{Said, says, brings, aborts, garbles, said}
use Rattle.m2_feed.specs.m2_journal.SideFacts.{SideFacts, cookie_of}
use Rattle.m2_feed.specs.m2_journal.State.{PartText, Feed, Judgement, SentFrame, State, start}
use Rattle.m2_feed.specs.m2_journal.Steps.{acceptance, accepts, after, answer_to, breaks, composes, event_at, event_heard, event_of, event_on, forgets, heeds, is_on, is_waiting, kept_of, notes, on_feed_at, posts, puts, puts_on, queues, reads, sends, takes_answer, takes_socket, tells, tells_if, with_feed, writes_message}
use Rattle.m2_feed.proofs.m2_journal.Sessions.{goes, tells-session, told-session}
use Rattle.m2_never_reset.specs.Fits.{Says, AreSaid, HearsAt, AreItsAsks, ask_by}
use Rattle.m2_never_reset.specs.Frames.{ask_of, is_ask, frames_on, asks_on, answers_on}
use Rattle.m2_never_reset.specs.PairLaws.{IsNoDown}
use Rattle.m2_never_reset.specs.Paired.{MayBeWritten}
use Rattle.m2_never_reset.proofs.Answered.{next_of}
use Rattle.m2_never_reset.proofs.Judging.{asked_more}
use Rattle.m2_never_reset.proofs.Read.{by_answer, is_ident}
use Rattle.m2_never_reset.proofs.Sockets.{at_among}
use Rattle.m2_never_reset.proofs.Stable.{judgement, judged_after}
use Rattle.m2_never_reset.proofs.Written.{AreWritten, are_narrowed, found, texts_fit}
use Rattle.m2_bytes_fit.specs.Halves.{KeepsRanges}
use Rattle.m2_bytes_fit.specs.Texts.{CanAllBeSent, CanBePosted, CanBeSent, KeepsFields}
use Rattle.m2_bytes_fit.proofs.Bounded.{SessionIsBounded, EventIsBounded, RestIsBounded, IsNoStamp, AreNoStamps, IsTakenIn, IsUnasked, absent_apart, finished_none, message_keeps, narrowed_none, rest_after, said_unasked, step_bounded, tells_if_rest, tells_rest, texts_none, told_bounded, queues_rest}
use Rattle.m2_bytes_fit.proofs.Entries.{posts_less, heeds_less, accepts_less}
use Rattle.m2_bytes_fit.proofs.Formats.{ack_keeps, client_ident_keeps, drawn_below, drawn_some, numbered_keeps, reconnect_keeps, reconnect_ok_keeps, reset_keeps, retry_keeps, retry_global_keeps, server_ident_keeps, wait_keeps}
use Rattle.m2_bytes_fit.proofs.Less.{tells_less, tells_if_less}
use Rattle.m2_feed.proofs.m2_lemmas.Booleans.{from_false_true}
use Rattle.m2_feed.proofs.m2_fabric.Sockets.{among_last}
use Rattle.m2_feed.proofs.m2_lemmas.Lists.{all_append}

-- a node of a lossless link, whose facts keep the ranges of their types
pub record IsNode (f : SideFacts) : Type 0 where
  pub ranges : KeepsRanges f
  pub keeps : f.policy.lossy ≡ false
  pub salt : f.node.salt < 2 ^ 16

-- ---- frames

-- the number of a message is one that can be drawn
abbrev NumberFits : OutFrame → Type 0
NumberFits (out.message number acked m) = number ≤ GREATEST_NUMBER
NumberFits w = Unit {0}

abbrev pub IsComposed : SideFacts → OutFrame → Type 0
IsComposed f w = CanBeSent f w × NumberFits w

abbrev pub AreComposed : SideFacts → List SentFrame → Type 0
AreComposed f sent = AllByRecursion (λ x. IsComposed f x.frame) sent

pub can_be_sent : (f : SideFacts) (sent : List SentFrame) → AreComposed f sent → CanAllBeSent f sent
can_be_sent f [] h = tt
can_be_sent f (x ∷ xs) h = (h.0.0, can_be_sent f xs h.1)

same_sent : (f : SideFacts) (s t : State) → t.sent ≡ s.sent → AreComposed f s.sent → AreComposed f t.sent
same_sent f s t e h = subst (AreComposed f) (sym e) h

on_socket : (f : SideFacts) (k : SocketId) (ws : List OutFrame) → AllByRecursion (IsComposed f) ws →
    AreComposed f (map (λ (w : OutFrame). let x : SentFrame = record { socket = k; frame = w } in x) ws)
on_socket f k [] h = tt
on_socket f k (w ∷ ws) h = (h.0, on_socket f k ws h.1)

sends_sent : (f : SideFacts) (k : SocketId) (ws : List OutFrame) (s : State) → AllByRecursion (IsComposed f) ws → AreComposed f s.sent → AreComposed f (sends k ws s).sent
sends_sent f k ws s new h = all_append (λ x. IsComposed f x.frame) s.sent _ h (on_socket f k ws new)

composes_sent : (f : SideFacts) (w : OutFrame) (s : State) → IsComposed f w → AreComposed f s.sent → AreComposed f (composes f w s).sent
composes_sent f w s new h = at s.feed
  where
    at : (o : Option Feed) → AreComposed f (composes f w (record s { feed = o })).sent
    at (Some d) = all_append (λ x. IsComposed f x.frame) s.sent _ h (new, tt)
    at None = h

-- ---- what no entry names

late_composed : (f : SideFacts) (p : Phase) (last : ℕ) (w : OutFrame) → last ≤ GREATEST_NUMBER → is_unnamed w ≡ true → MayBeWritten p last w → IsNoStamp w → IsComposed f w
late_composed f p last (out.acknowledgement n) l e m k = (ack_keeps n (omega (arith, m.1, l)), tt)
late_composed f p last (out.keepalive_answer s) l e m k = absurd k
late_composed f p last out.greeting l e m k = from_false_true e
late_composed f p last (out.ident c g) l e m k = from_false_true e
late_composed f p last (out.reconnect c s g n v) l e m k = from_false_true e
late_composed f p last (out.server_ident c g) l e m k = from_false_true e
late_composed f p last (out.reconnect_ok n) l e m k = from_false_true e
late_composed f p last (out.reset full) l e m k = from_false_true e
late_composed f p last (out.retry n) l e m k = from_false_true e
late_composed f p last (out.retry_global n) l e m k = from_false_true e
late_composed f p last out.wait l e m k = from_false_true e
late_composed f p last (out.message n a m) l e w k = from_false_true e

puts_sent : (f : SideFacts) (bytes : List ℕ) (d : Feed) (s : State) → s.last ≤ GREATEST_NUMBER → AreWritten s.session.phase s.last d.texts → IsUnasked d → AreNoStamps d.texts →
    AreComposed f s.sent → AreComposed f (puts f bytes d s).sent
puts_sent f bytes d s last written unasked none h = at (finished all) refl (finished_none all (narrowed_none bytes (texts_at f s d) (texts_none f s d unasked none)))
  where
    all : List PartText
    all = narrowed bytes (texts_at f s d)

    may : AreWritten s.session.phase s.last all
    may = are_narrowed s.session.phase s.last bytes (texts_at f s d) (texts_fit f s d written)

    at : (o : Option PartText) → finished all ≡ o → IfSome o (λ t. IsNoStamp t.frame) → AreComposed f (puts_on o all d s).sent
    at None e n = h
    at (Some t) e n = named (is_unnamed t.frame) refl
      where
        named : (b : Bool) → is_unnamed t.frame ≡ b → AreComposed f (puts_on (Some t) all d s).sent
        named true q = rw q (all_append (λ x. IsComposed f x.frame) s.sent _ h (late_composed f s.session.phase s.last t.frame last q (found s.session.phase s.last all t may e) n, tt))
        named false q = rw q h

-- ---- answers

-- an answer by the tables carries a number that keeps its bounds
abbrev AnswerIsBounded : Answer → Type 0
AnswerIsBounded (answer.RetryGlobal n) = n ≤ GREATEST_NUMBER
AnswerIsBounded (answer.Retry n) = n < 2 ^ 64
AnswerIsBounded a = Unit {0}

by_tables : (s : State) (a : AskFacts) → SessionIsBounded s.session → AnswerIsBounded (answer_to a s)
by_tables s a h = at a.ident
  where
    at : (b : Bool) → AnswerIsBounded (if b then ident_answer s.session a.client a.global else reconnect_answer s.session (asks.reconnect_of a) s.out.queue.written)
    at true = each_answer AnswerIsBounded (ident_rows s.session a.client a.global) answer.Wait (tt, (tt, (tt, (tt, (tt, (tt, (tt, tt))))))) tt
    at false =
        let connect = h.connect in
        each_answer AnswerIsBounded (reconnect_rows s.session (asks.reconnect_of a) s.out.queue.written) answer.Resume
        (tt, (tt, (tt, (tt, (h.global, (omega (arith, connect), (tt, (tt, tt)))))))) tt

replies_composed : (f : SideFacts) (a : Answer) → AnswerIsBounded a → AllByRecursion (IsComposed f) (replies_of a)
replies_composed f answer.Accept b = tt
replies_composed f answer.AcceptOver b = tt
replies_composed f (answer.AcceptReset full) b = tt
replies_composed f answer.AcceptAgain b = tt
replies_composed f answer.AcceptReplace b = tt
replies_composed f answer.AcceptRace b = tt
replies_composed f answer.Close b = tt
replies_composed f answer.Wait b = ((wait_keeps, tt), tt)
replies_composed f (answer.Reset full) b = ((reset_keeps full, tt), tt)
replies_composed f answer.ResetPending b = ((reset_keeps false, tt), tt)
replies_composed f (answer.RetryGlobal n) b = ((retry_global_keeps n b, tt), tt)
replies_composed f (answer.Retry n) b = ((retry_keeps n b, tt), tt)
replies_composed f answer.Resume b = tt

-- where an ident is taken, the session keeps the cookie that was drawn
drawn_kept : (s : Session) (client server global : ℕ) (a : Answer) → takes a ≡ true → (session.told s (ident_event a client server global)).server_cookie ≡ server
drawn_kept s client server global answer.Accept e = refl
drawn_kept s client server global answer.AcceptOver e = refl
drawn_kept s client server global (answer.AcceptReset full) e = refl
drawn_kept s client server global answer.AcceptAgain e = refl
drawn_kept s client server global answer.AcceptReplace e = refl
drawn_kept s client server global answer.AcceptRace e = refl
drawn_kept s client server global answer.Resume e = refl
drawn_kept s client server global answer.Close e = from_false_true e
drawn_kept s client server global answer.Wait e = from_false_true e
drawn_kept s client server global (answer.Reset full) e = from_false_true e
drawn_kept s client server global answer.ResetPending e = from_false_true e
drawn_kept s client server global (answer.RetryGlobal n) e = from_false_true e
drawn_kept s client server global (answer.Retry n) e = from_false_true e

acceptance_composed : (f : SideFacts) → IsNode f → (a : AskFacts) (number : ℕ) (given : Answer) (s t : State) → takes given ≡ true → number ≤ GREATEST_NUMBER →
    t.session ≡ session.told s.session (event_of f a number given) → t.last ≤ GREATEST_NUMBER → IsComposed f (acceptance a number t)
acceptance_composed f node a number given s t taken few told last = at a.ident refl
  where
    at : (b : Bool) → a.ident ≡ b → IsComposed f (if b then out.server_ident t.session.server_cookie number else out.reconnect_ok t.last)
    at true e =
        let kept : t.session.server_cookie ≡ cookie_of f number =
        ap (λ (s : Session). s.server_cookie) told
        ∙ ap (λ b. (session.told s.session (if b then asks.told_of_ident (kept_of f a) given (cookie_of f number) else asks.told_of_reconnect (kept_of f a) given)).server_cookie) e
        ∙ drawn_kept s.session (kept_of f a).client (cookie_of f number) a.global given taken in (
          subst (λ c. CanBeSent f (out.server_ident c number)) (sym kept)
              (server_ident_keeps f node.ranges (cookie_of f number) number (drawn_below f node.ranges node.keeps node.salt number) (inr (drawn_some f node.keeps number)) few),
          tt,
        )
    at false e = (reconnect_ok_keeps t.last last, tt)

-- ---- messages

message_composed : (f : SideFacts) (number last : ℕ) (m : Content) → number ≤ GREATEST_NUMBER → last ≤ GREATEST_NUMBER → KeepsFields m → IsComposed f (out.message number last m)
message_composed f number last m n l k = (numbered_keeps m k number last (omega (arith, n)) (omega (arith, l)), n)

writes_message_sent : (f : SideFacts) (number : ℕ) (o : Option Content) (s : State) → number ≤ GREATEST_NUMBER → s.last ≤ GREATEST_NUMBER → IfSome o KeepsFields → AreComposed f s.sent →
    AreComposed f (writes_message f number o s).sent
writes_message_sent f number (Some m) s n l k h = composes_sent f (out.message number s.last m) s (message_composed f number s.last m n l k) h
writes_message_sent f number None s n l k h = h

-- ---- each entry

-- what is known of a feed: what it has begun was accepted, and nothing on it asks for a stamp
pub record FeedIsKnown (s : State) (d : Feed) : Type 0 where
  pub written : AreWritten s.session.phase s.last d.texts
  pub unasked : IsUnasked d

pub record Holds (f : SideFacts) (s : State) : Type 0 where
  pub session : SessionIsBounded s.session
  pub rest : RestIsBounded s
  pub sent : AreComposed f s.sent

-- what is composed at an entry can be sent
pub entry_sent : (f : SideFacts) (i : JournalItem) (s : State) → IsNode f → IsNoDown i → Lawful f i s → IfFed s.feed (FeedIsKnown s) → Holds f s → AreComposed f (after f i s).sent
entry_sent f (item.post place planned) s node up l known h = same_sent f s (posts planned (record s { steps = s.steps + 1 })) (posts_less planned s).sent h.sent
entry_sent f (item.dial planned) s node up l known h = h.sent
entry_sent f (item.opened k) s node up l known h = same_sent f s (tells event.Dialled s) (tells_less event.Dialled s).sent h.sent
entry_sent f (item.read k bytes) s node up l known h = at s.feed
  where
    at : (o : Option Feed) → AreComposed f (on_feed_at o (λ d. reads f (hears bytes d)) s).sent
    at None = h.sent
    at (Some d) = same_sent f (with_feed (hears bytes d) s) (heeds (event_heard f s.session.phase (hears bytes d)) (hears bytes d) s) (heeds_less (event_heard f s.session.phase (hears bytes d)) (hears bytes d) s).sent h.sent
entry_sent f (item.wrote k bytes) s node up l known h = at s.feed known h.rest.texts
  where
    at : (o : Option Feed) → IfFed o (FeedIsKnown s) → IfFed o (λ d. AreNoStamps d.texts) → AreComposed f (on_feed_at o (puts f bytes) s).sent
    at None known none = h.sent
    at (Some d) known none = puts_sent f bytes d s h.rest.last known.written known.unasked none h.sent
entry_sent f (item.closed k broken) s node up l known h = at (is_on k s.feed)
  where
    at : (b : Bool) → AreComposed f (if b then breaks s else forgets k s).sent
    at true = same_sent f s (tells (event.Faulted (is_waiting s)) s) (tells_less (event.Faulted (is_waiting s)) s).sent h.sent
    at false = h.sent
entry_sent f (item.judged k a number given unread trail) s node up l known h = at (takes given) refl
  where
    n : State
    n = notes k a number given s

    t : State
    t = tells_if (event_of f a number given) n

    old : AreComposed f t.sent
    old = same_sent f n t (tells_if_less (event_of f a number given) n).sent h.sent

    rest : RestIsBounded t
    rest = tells_if_rest (event_of f a number given) n (record { last = h.rest.last; queue = h.rest.queue; texts = h.rest.texts })

    at : (b : Bool) → takes given ≡ b → AreComposed f (if b then takes_socket f k a number unread t else sends k (replies_of given) t).sent
    at true e =
        all_append (λ x. IsComposed f x.frame) t.sent _ old
        (acceptance_composed f node a number given s t e l.unused.to (told-session (event_of f a number given) n) rest.last, tt)
    at false e = sends_sent f k (replies_of given) t (replies_composed f given (subst AnswerIsBounded (sym l.by_the_tables) (by_tables s a h.session))) old
entry_sent f (item.asked true number) s node up l known h = at s.feed l
  where
    r : State
    r = record s { top = number }

    t : State
    t = tells (event.AskedIdent (cookie_of f number)) r

    its : SessionIsBounded (step_of s.session (event.AskedIdent (cookie_of f number))).session
    its = step_bounded s.session (event.AskedIdent (cookie_of f number)) h.session (drawn_below f node.ranges node.keeps node.salt number, drawn_some f node.keeps number)

    at : (o : Option Feed) → OnFeedAt o (MayAsk s true number) → AreComposed f (composes f (out.ident t.session.client_cookie number) t).sent
    at None g = elim g [ ]
    at (Some d) g =
        composes_sent f (out.ident t.session.client_cookie number) t (
          subst (λ (k : Session). CanBeSent f (out.ident k.client_cookie number)) (sym (tells-session (event.AskedIdent (cookie_of f number)) r))
              (client_ident_keeps f node.ranges _ number its.client (inr (its.asked refl)) g.unused.to),
          tt,
        )
        (same_sent f r t (tells_less (event.AskedIdent (cookie_of f number)) r).sent h.sent)
entry_sent f (item.asked false number) s node up l known h = at s.feed l
  where
    r : State
    r = record s { top = number }

    t : State
    t = tells event.AskedReconnect r

    rest : RestIsBounded t
    rest = tells_rest event.AskedReconnect r (record { last = h.rest.last; queue = h.rest.queue; texts = h.rest.texts })

    some : (false ≡ (s.session.server_cookie == 0)) → s.session.server_cookie ≢ 0
    some e z = from_false_true (e ∙ eq-eqb s.session.server_cookie 0 z)

    at : (o : Option Feed) → OnFeedAt o (MayAsk s false number) →
        AreComposed f (composes f (out.reconnect t.session.client_cookie t.session.server_cookie number t.session.connect t.last) t).sent
    at None g = elim g [ ]
    at (Some d) g =
        composes_sent f (out.reconnect t.session.client_cookie t.session.server_cookie number t.session.connect t.last) t (
          subst (λ (k : Session). CanBeSent f (out.reconnect k.client_cookie k.server_cookie number k.connect t.last)) (sym (tells-session event.AskedReconnect r))
              (reconnect_keeps f node.ranges s.session.client_cookie s.session.server_cookie number s.session.connect t.last h.session.client (h.session.both (some g.of_kind)) h.session.server
              (some g.of_kind) g.unused.to g.fits rest.last),
          tt,
        )
        (same_sent f r t (tells_less event.AskedReconnect r).sent h.sent)
entry_sent f (item.numbered number) s node up l known h = at s.feed l
  where
    t : State
    t = queues Next s

    rest : RestIsBounded t
    rest = queues_rest Next s tt h.rest

    at : (o : Option Feed) → OnFeedAt o (MayNumber s number) → AreComposed f (writes_message f number (message_at t.out.queue number) t).sent
    at None g = elim g [ ]
    at (Some d) g = writes_message_sent f number (message_at t.out.queue number) t g.fits h.rest.last (message_keeps t.out.queue number rest.queue) h.sent
entry_sent f (item.accepted number key) s node up l known h = at s.feed refl
  where
    at : (o : Option Feed) → s.feed ≡ o → AreComposed f (on_feed_at o (λ d. accepts number key (next_said s.last d) d) s).sent
    at None e = h.sent
    at (Some d) e = same_sent f s (accepts number key (next_said s.last d) d s) (accepts_less number key (next_said s.last d) d s e).sent h.sent
entry_sent f (item.acked number) s node up l known h = h.sent
entry_sent f (item.obeyed full) s node up l known h = at s.feed
  where
    at : (o : Option Feed) → AreComposed f (on_feed_at o (λ d t. tells (event.GotReset full) (with_feed (takes_answer d) t)) s).sent
    at None = h.sent
    at (Some d) = same_sent f (with_feed (takes_answer d) s) (tells (event.GotReset full) (with_feed (takes_answer d) s)) (tells_less (event.GotReset full) (with_feed (takes_answer d) s)).sent h.sent
entry_sent f (item.down planned step) s node up l known h = elim up [ ]

-- ---- what is heard and judged

frames_all : (P : OutFrame → Type 0) (k : SocketId) (sent : List SentFrame) → AllByRecursion (λ x. P x.frame) sent → AllByRecursion P (frames_on k sent)
frames_all P k [] h = tt
frames_all P k (x ∷ xs) h = at (same_socket k x.socket) refl (frames_all P k xs h.1)
  where
    at : (b : Bool) → same_socket k x.socket ≡ b → AllByRecursion P (frames_on k xs) → AllByRecursion P (frames_on k (x ∷ xs))
    at true e more = rw e (h.0, more)
    at false e more = rw e more

filter_all : (P : OutFrame → Type 0) (test : OutFrame → Bool) (ws : List OutFrame) → AllByRecursion P ws → AllByRecursion P (filter test ws)
filter_all P test [] h = tt
filter_all P test (w ∷ ws) h = at (test w) refl (filter_all P test ws h.1)
  where
    at : (b : Bool) → test w ≡ b → AllByRecursion P (filter test ws) → AllByRecursion P (filter test (w ∷ ws))
    at true e more = rw e (h.0, more)
    at false e more = rw e more

answers_all : (g : SideFacts) (k : SocketId) (sent : List SentFrame) → AreComposed g sent → AllByRecursion (IsComposed g) (answers_on k sent)
answers_all g k sent h = filter_all (IsComposed g) (λ w. not (is_ask w)) (frames_on k sent) (frames_all (IsComposed g) k sent h)

first_all : (P : OutFrame → Type 0) (n : ℕ) (ws more : List OutFrame) (w : OutFrame) → AllByRecursion P ws → drop n ws ≡ w ∷ more → P w
first_all P n ws more w h e = (subst (AllByRecursion P) e (dropped n ws h)).0
  where
    dropped : (n : ℕ) (ws : List OutFrame) → AllByRecursion P ws → AllByRecursion P (drop n ws)
    dropped zero ws h = h
    dropped (suc n) [] h = tt
    dropped (suc n) (w ∷ ws) h = dropped n ws h.1

-- what was got on a feed asks for no stamp
pub unasked_so : (o : Option Feed) (theirs : List SentFrame) → HearsAt o theirs → IfFed o IsUnasked
unasked_so None theirs h = tt
unasked_so (Some d) theirs h = said_unasked d.got (answers_on d.socket theirs) h

-- a message that is accepted has a number that can be drawn
brought_fits : (g : SideFacts) (w : OutFrame) (m : Content) → Says (brings m) w → IsComposed g w → m.header.seq ≤ GREATEST_NUMBER
brought_fits g (out.message n a c) m s k = subst (λ (x : Content). x.header.seq ≤ GREATEST_NUMBER) (sym s) k.1
brought_fits g out.greeting m s k = elim s [ ]
brought_fits g (out.ident c x) m s k = elim s [ ]
brought_fits g (out.reconnect c x n v l) m s k = elim s [ ]
brought_fits g (out.server_ident c x) m s k = elim s [ ]
brought_fits g (out.reconnect_ok n) m s k = elim s [ ]
brought_fits g (out.reset full) m s k = elim s [ ]
brought_fits g (out.retry n) m s k = elim s [ ]
brought_fits g (out.retry_global n) m s k = elim s [ ]
brought_fits g out.wait m s k = elim s [ ]
brought_fits g (out.acknowledgement n) m s k = elim s [ ]
brought_fits g (out.keepalive_answer x) m s k = elim s [ ]

next_fits : (f g : SideFacts) (s : State) (d : Feed) (number : ℕ) (key : Key) (theirs : List SentFrame) → AreComposed g theirs → AreSaid d.got (answers_on d.socket theirs) →
    (o : Option Said) → next_said s.last d ≡ o → IsNext f s number key o → number ≤ GREATEST_NUMBER
next_fits f g s d number key theirs composed said (Some (brings m)) e n =
    let next = next_of (next_place s.last d) d.got (answers_on d.socket theirs) (brings m) (λ r. r) said e in
    let all = answers_all g d.socket theirs composed in
    let fits : m.header.seq ≤ GREATEST_NUMBER = brought_fits g next.frame m next.says (first_all (IsComposed g) (next_place s.last d) (answers_on d.socket theirs) _ next.frame all next.first) in
    omega (arith, fits, n.1)
next_fits f g s d number key theirs composed said (Some (says c)) e n = elim n [ ]
next_fits f g s d number key theirs composed said (Some aborts) e n = elim n [ ]
next_fits f g s d number key theirs composed said (Some garbles) e n = elim n [ ]
next_fits f g s d number key theirs composed said None e n = elim n [ ]

pub taken_in : (f g : SideFacts) (i : JournalItem) (s : State) (theirs : List SentFrame) → Lawful f i s → AreComposed g theirs → HearsAt s.feed theirs → IsTakenIn i
taken_in f g (item.accepted number key) s theirs l composed heard = at s.feed l heard
  where
    at : (o : Option Feed) → OnFeedAt o (MayAccept f s number key) → HearsAt o theirs → number ≤ GREATEST_NUMBER
    at None m h = elim m [ ]
    at (Some d) m h = next_fits f g s d number key theirs composed h (next_said s.last d) refl m.next
taken_in f g (item.post place planned) s theirs l composed heard = tt
taken_in f g (item.dial planned) s theirs l composed heard = tt
taken_in f g (item.opened k) s theirs l composed heard = tt
taken_in f g (item.read k bytes) s theirs l composed heard = tt
taken_in f g (item.wrote k bytes) s theirs l composed heard = tt
taken_in f g (item.closed k broken) s theirs l composed heard = tt
taken_in f g (item.judged k a n answer unread trail) s theirs l composed heard = tt
taken_in f g (item.asked ident n) s theirs l composed heard = tt
taken_in f g (item.numbered n) s theirs l composed heard = tt
taken_in f g (item.acked n) s theirs l composed heard = tt
taken_in f g (item.obeyed full) s theirs l composed heard = tt
taken_in f g (item.down planned step) s theirs l composed heard = tt

-- the answer to an ask that is heard
ident_bounded : (g : SideFacts) (i : ServerIdent) (w : OutFrame) → Says (says (control.ServerIdent i)) w → IsComposed g w → (i.cookie < 2 ^ 64) × (i.global ≤ GREATEST_NUMBER)
ident_bounded g i w s k =
    let its = subst (IsComposed g) (is_ident i w s) k in
    (its.0.ranges.1.5, its.0.bounds.1)

retry_few : (r : SessionRetry) (w : OutFrame) → Says (says (control.SessionRetry r)) w → r.connect ≤ GREATEST_NUMBER
retry_few r (out.retry n) s = omega (arith, s.0, s.1)
retry_few r w s = elim s [ ]

heard_bounded : (f g : SideFacts) (s : State) (d : Feed) (theirs : List SentFrame) → AreComposed g theirs → HearsAt (heeds (event_heard f s.session.phase d) d s).feed theirs →
    IfSome (event_heard f s.session.phase d) (EventIsBounded s.session)
heard_bounded f g s d theirs composed heard =
    by_answer f (λ p o e. answer_said d ≡ o → s.session.phase ≡ p → HearsAt (heeds e d s).feed theirs → IfSome e (EventIsBounded s.session))
    (λ i q p h.
    let next = next_of d.taken d.got (answers_on d.socket theirs) (says (control.ServerIdent i)) (λ r. r) h q in
    let its = ident_bounded g i next.frame next.says (first_all (IsComposed g) d.taken (answers_on d.socket theirs) _ next.frame (answers_all g d.socket theirs composed) next.first) in
    (p, its.0, its.1))
    (λ w q p h. tt)
    (λ k q p h. tt)
    (λ r q p h.
    let next = next_of d.taken d.got (answers_on d.socket theirs) (says (control.SessionRetry r)) (λ r. r) h q in
    retry_few r next.frame next.says)
    (λ r q p h. tt)
    (λ w q p h. tt)
    (λ p o q e h. tt)
    s.session.phase (answer_said d) refl refl heard

-- the asks of the other side carry cookies of 64 bits
abbrev AskFits : Ask → Type 0
AskFits (by_ident i) = i.cookie < 2 ^ 64
AskFits (by_reconnect r) = Unit {0}

asks_fit : (g : SideFacts) (ws : List OutFrame) → AllByRecursion (IsComposed g) ws → AllByRecursion AskFits (filter_map ask_of ws)
asks_fit g [] h = tt
asks_fit g (out.ident c n ∷ ws) h = (h.0.0.ranges.2.5, asks_fit g ws h.1)
asks_fit g (out.reconnect c s n k l ∷ ws) h = (tt, asks_fit g ws h.1)
asks_fit g (out.greeting ∷ ws) h = asks_fit g ws h.1
asks_fit g (out.server_ident c n ∷ ws) h = asks_fit g ws h.1
asks_fit g (out.reconnect_ok n ∷ ws) h = asks_fit g ws h.1
asks_fit g (out.reset full ∷ ws) h = asks_fit g ws h.1
asks_fit g (out.retry n ∷ ws) h = asks_fit g ws h.1
asks_fit g (out.retry_global n ∷ ws) h = asks_fit g ws h.1
asks_fit g (out.wait ∷ ws) h = asks_fit g ws h.1
asks_fit g (out.message n a m ∷ ws) h = asks_fit g ws h.1
asks_fit g (out.acknowledgement n ∷ ws) h = asks_fit g ws h.1
asks_fit g (out.keepalive_answer k ∷ ws) h = asks_fit g ws h.1

last_fits : (before after : List Ask) (q : Ask) → AllByRecursion AskFits ((before ++ q ∷ []) ++ after) → AskFits q
last_fits [] after q h = h.0
last_fits (x ∷ xs) after q h = last_fits xs after q h.1

ask_fits : (g : SideFacts) (k : SocketId) (a : AskFacts) (given : Answer) (js : List Judgement) (opened : List SocketId) (theirs : List SentFrame) → AreComposed g theirs →
    AllByRecursion (AreItsAsks opened theirs (js ++ judgement k a given ∷ [])) (map (λ (j : Judgement). j.socket) (js ++ judgement k a given ∷ [])) → AskFits (ask_by a)
ask_fits g k a given js opened theirs composed all =
    let new = js ++ judgement k a given ∷ [] in
    let among : is_among k (map (λ (j : Judgement). j.socket) new) ≡ true =
    subst (λ l. is_among k l ≡ true) (sym (map-append (λ (j : Judgement). j.socket) js (judgement k a given ∷ []))) (among_last k (map (λ (j : Judgement). j.socket) js)) in
    let its = at_among (AreItsAsks opened theirs new) (map (λ (j : Judgement). j.socket) new) k all among in
    let qs = map (λ (i : JudgedItem). ask_by i.ask) (judged_on k js) in
    let whole : asks_on k theirs ≡ (qs ++ ask_by a ∷ []) ++ its.more = its.first ∙ ap (λ l. l ++ its.more) (asked_more k js a given) in
    last_fits qs its.more (ask_by a) (subst (AllByRecursion AskFits) whole (asks_fit g (frames_on k theirs) (frames_all (IsComposed g) k theirs composed)))

judged_bounded : (f : SideFacts) (s : Session) → IsNode f → (k : SocketId) (a : AskFacts) (number : ℕ) (given : Answer) → IsReadable f a → AskFits (ask_by a) →
    IfSome (event_of f a number given) (EventIsBounded s)
judged_bounded f s node k a number given r fits = at a.ident refl
  where
    client : (kept_of f a).client ≡ a.client
    client = ap (λ b. (if b then 0 else a.client)) node.keeps

    below : a.ident ≡ true → a.client < 2 ^ 64
    below e = subst AskFits (ap (λ b. (if b then by_ident (record { cookie = a.client; global = a.global }) else by_reconnect (asks.reconnect_of a))) e) fits

    some : a.ident ≡ true → a.client ≢ 0
    some e = either (r.ident e)
      where
        either : (f.policy.lossy ≡ true) ⊎ (a.client ≢ 0) → a.client ≢ 0
        either (inl l) = from_false_true (sym node.keeps ∙ l)
        either (inr n) = n

    told : (given : Answer) (c : ℕ) → c < 2 ^ 64 → c ≢ 0 → IfSome (ident_event given c (cookie_of f number) a.global) (EventIsBounded s)
    told given c h n = by_kind given
      where
        it : (c < 2 ^ 64) × (c ≢ 0) × (cookie_of f number < 2 ^ 64) × (a.global ≤ GREATEST_NUMBER)
        it = (h, n, drawn_below f node.ranges node.keeps node.salt number, r.global)

        by_kind : (given : Answer) → IfSome (ident_event given c (cookie_of f number) a.global) (EventIsBounded s)
        by_kind answer.Accept = it
        by_kind answer.AcceptOver = it
        by_kind (answer.AcceptReset full) = it
        by_kind answer.AcceptAgain = it
        by_kind answer.AcceptReplace = it
        by_kind answer.AcceptRace = it
        by_kind answer.Resume = it
        by_kind answer.Close = tt
        by_kind answer.Wait = tt
        by_kind (answer.Reset full) = tt
        by_kind answer.ResetPending = tt
        by_kind (answer.RetryGlobal n) = tt
        by_kind (answer.Retry n) = tt

    again : (given : Answer) → IfSome (reconnect_event given (asks.reconnect_of (kept_of f a))) (EventIsBounded s)
    again answer.Resume = (r.global, r.connect)
    again answer.ResetPending = tt
    again answer.Accept = tt
    again answer.AcceptOver = tt
    again (answer.AcceptReset full) = tt
    again answer.AcceptAgain = tt
    again answer.AcceptReplace = tt
    again answer.AcceptRace = tt
    again answer.Close = tt
    again answer.Wait = tt
    again (answer.Reset full) = tt
    again (answer.RetryGlobal n) = tt
    again (answer.Retry n) = tt

    at : (b : Bool) → a.ident ≡ b → IfSome (if b then asks.told_of_ident (kept_of f a) given (cookie_of f number) else asks.told_of_reconnect (kept_of f a) given) (EventIsBounded s)
    at true e = told given (kept_of f a).client (subst (λ n. n < 2 ^ 64) (sym client) (below e)) (subst (λ n. n ≢ 0) (sym client) (some e))
    at false e = again given

pub event_bounded : (f g : SideFacts) (i : JournalItem) (s : State) (opened : List SocketId) (theirs : List SentFrame) → IsNode f → IsNoDown i → Lawful f i s → AreComposed g theirs →
    HearsAt (after f i s).feed theirs → AllByRecursion (AreItsAsks opened theirs (after f i s).judgements) (judged_sockets (after f i s)) → IfSome (event_at f i s) (EventIsBounded s.session)
event_bounded f g (item.post place planned) s opened theirs node up l composed heard judged = tt
event_bounded f g (item.dial planned) s opened theirs node up l composed heard judged = tt
event_bounded f g (item.opened k) s opened theirs node up l composed heard judged = l.fits
event_bounded f g (item.read k bytes) s opened theirs node up l composed heard judged = at s.feed heard
  where
    at : (o : Option Feed) → HearsAt (on_feed_at o (λ d. reads f (hears bytes d)) s).feed theirs → IfSome (event_on o (λ d. event_heard f s.session.phase (hears bytes d))) (EventIsBounded s.session)
    at None h = tt
    at (Some d) h = heard_bounded f g s (hears bytes d) theirs composed h
event_bounded f g (item.wrote k bytes) s opened theirs node up l composed heard judged = tt
event_bounded f g (item.closed k broken) s opened theirs node up l composed heard judged = at (is_on k s.feed)
  where
    at : (b : Bool) → IfSome (if b then Some (event.Faulted (is_waiting s)) else None) (EventIsBounded s.session)
    at true = tt
    at false = tt
event_bounded f g (item.judged k a number given unread trail) s opened theirs node up l composed heard judged =
    let new = judged_after f k a number given unread s in
    judged_bounded f s.session node k a number given l.readable
    (ask_fits g k a given s.judgements opened theirs composed (subst (λ js. AllByRecursion (AreItsAsks opened theirs js) (map (λ (j : Judgement). j.socket) js)) new judged))
event_bounded f g (item.asked true number) s opened theirs node up l composed heard judged = (drawn_below f node.ranges node.keeps node.salt number, drawn_some f node.keeps number)
event_bounded f g (item.asked false number) s opened theirs node up l composed heard judged = tt
event_bounded f g (item.numbered number) s opened theirs node up l composed heard judged = tt
event_bounded f g (item.accepted number key) s opened theirs node up l composed heard judged = tt
event_bounded f g (item.acked number) s opened theirs node up l composed heard judged = tt
event_bounded f g (item.obeyed full) s opened theirs node up l composed heard judged = at s.feed
  where
    at : (o : Option Feed) → IfSome (event_on o (λ d. Some (event.GotReset full))) (EventIsBounded s.session)
    at None = tt
    at (Some d) = tt
event_bounded f g (item.down planned step) s opened theirs node up l composed heard judged = elim up [ ]

-- what each entry leaves
pub entry_holds : (f g : SideFacts) (i : JournalItem) (s : State) (opened : List SocketId) (theirs : List SentFrame) → IsNode f → IsNoDown i → CanBePosted i → Lawful f i s →
    IfFed s.feed (FeedIsKnown s) → AreComposed g theirs → HearsAt s.feed theirs → HearsAt (after f i s).feed theirs →
    AllByRecursion (AreItsAsks opened theirs (after f i s).judgements) (judged_sockets (after f i s)) → Holds f s → Holds f (after f i s)
entry_holds f g i s opened theirs node up posted l known composed before behind judged h = record {
  session = subst SessionIsBounded (sym (goes f i s)) (told_bounded s.session (event_at f i s) h.session (event_bounded f g i s opened theirs node up l composed behind judged));
  rest = rest_after f i s posted (taken_in f g i s theirs l composed before) (unasked_so s.feed theirs before) h.rest;
  sent = entry_sent f i s node up l known h;
}

pub starts_holding : (f : SideFacts) → Holds f (start f)
starts_holding f = record {
  session = record { client = omega arith; server = omega arith; both = λ n. absurd (n refl); asked = λ e. absurd (absent_apart e); global = omega arith; connect = omega arith };
  rest = record { last = omega arith; queue = record { kept = tt; waiting = tt }; texts = tt };
  sent = tt;
}
