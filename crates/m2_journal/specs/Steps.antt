-- What each entry leaves of a record's state. The session goes by its table of steps; the rest is this project's own.
use Rattle.std.specs.Prelude.{◌≡◌, ℕ, ◌+◌, ◌&&◌, ◌||◌, not, Bool, true, false, if◌then◌else◌, List, [], ◌∷◌, ◌++◌, map, Option, Some, None, Result, Ok, Err}
use Rattle.std.specs.List.{filter}
use Rattle.std.specs.Result.{is_ok}
use Rattle.m2_policy.specs.m2_addr.declared.addr.Addr.{Addr}
use Rattle.m2_policy.specs.m2_addr.declared.fault.AddrFault.{AddrFault}
use Rattle.m2_policy.specs.m2_addr.Vector.{main_of}
use Rattle.m2_session.specs.declared.ask.AskFacts.{AskFacts}
use Rattle.m2_session.specs.Asks as asks
use Rattle.m2_session.specs.Dials.{at_rest}
use Rattle.m2_handshake.specs.m2_control.declared.control.Control.TheVariants as control
use Rattle.m2_handshake.specs.m2_control.declared.server_ident.ServerIdent.{ServerIdent}
use Rattle.m2_handshake.specs.m2_control.ServerFacts.{facts_of}
use Rattle.m2_fabric.specs.declared.socket.SocketId.{SocketId}
use Rattle.m2_fabric.specs.Sockets.{same_socket}
use Rattle.m2_handshake.specs.Ident.{server_check}
use Rattle.m2_message.specs.Message.{Content}
use Rattle.m2_policy.specs.declared.path.Key.{Key}
use Rattle.m2_queues.specs.OutQueues.{message_at, waits}
use Rattle.m2_queues.specs.QueueLaws.{Call, Post, Next, Sent, Acked, Requeue, Renumber, Discard, after_call}
use Rattle.m2_session.specs.declared.answer.Answer.{Answer}
use Rattle.m2_session.specs.declared.event.Effects.{Effects}
use Rattle.m2_session.specs.declared.event.Event.{Event}
use Rattle.m2_session.specs.declared.event.Event.TheVariants as event
use Rattle.m2_session.specs.declared.session.Phase.{Phase}
use Rattle.m2_session.specs.declared.session.Phase.TheVariants.{IdentSent, ReconnectSent}
use Rattle.m2_session.specs.SessionLaws.{takes}
use Rattle.m2_session.specs.Phases as phase
use Rattle.m2_session.specs.Steps.{step_of}
use Rattle.m2_journal.specs.declared.entry.JudgedItem.{JudgedItem}
use Rattle.m2_journal.specs.Feeds.{hears, opened_feed, taken_feed, answer_said, next_place, next_said, texts_at, narrowed, finished, begun}
use Rattle.m2_journal.specs.Items.{JournalItem, post, dial, opened, read, wrote, closed, judged, asked, numbered, accepted, acked, obeyed, down}
use Rattle.m2_journal.specs.OutFrames.{OutFrame, ident, reconnect, server_ident, reconnect_ok, message, replies_of, acknowledges, is_unnamed, keepalives_answered}
use Rattle.m2_journal.specs.Plan.{Planned, to_post}
use Rattle.m2_journal.specs.Said.{Said, says, brings}
use Rattle.m2_journal.specs.SideFacts.{SideFacts, cookie_of}
use Rattle.m2_journal.specs.State.{PartText, Feed, letter, discarded, remote_reset, State}

-- ---- words of the steps

abbrev pub queues : Call → State → State
queues c s = record s { out = after_call s.out c }

abbrev pub on_feed_at : Option Feed → (Feed → State → State) → State → State
on_feed_at (Some d) change s = change d s
on_feed_at None change s = s

abbrev pub on_feed : (Feed → State → State) → State → State
on_feed change s = on_feed_at s.feed change s

abbrev pub with_feed : Feed → State → State
with_feed d s = record s { feed = Some d }

abbrev pub sends : SocketId → List OutFrame → State → State
sends socket frames s = record s { sent = s.sent ++ map (λ w. record { socket = socket; frame = w }) frames }

-- a frame is composed for the feed
abbrev pub composes_on : SideFacts → OutFrame → Feed → State → State
composes_on f w d s = sends d.socket (w ∷ []) (with_feed (record d { texts = begun f w ∷ [] }) s)

abbrev pub composes : SideFacts → OutFrame → State → State
composes f w s = on_feed (composes_on f w) s

-- ---- effects

-- the feed is left
abbrev pub spends : Feed → State → State
spends d s = record s { feed = None; spent = s.spent ++ d.socket ∷ [] }

-- numbers begin again on a feed that stays, and what is owed is still owed there
abbrev pub lowers : Feed → State → State
lowers d s = with_feed (record d { floor = 0; owed = s.owes }) s

abbrev pub where_true : Bool → (State → State) → State → State
where_true true change s = change s
where_true false change s = s

abbrev pub closes : State → State
closes s = on_feed spends s

-- numbers begin again, and with them a life, which is named by the server cookie that the session keeps now
abbrev pub sets_back : State → State
sets_back s = queues Renumber (on_feed lowers (record s { last = 0; life = s.session.server_cookie }))

abbrev pub discards : State → State
discards s = queues Discard (record s { deliveries = s.deliveries ++ discarded ∷ [] })

abbrev pub tells_of_reset : State → State
tells_of_reset s = record s { deliveries = s.deliveries ++ remote_reset ∷ [] }

-- what a session's step has the record do: close, requeue, set back, discard, tell of the reset, in this order
abbrev pub has_effects : Effects → State → State
has_effects e s =
    where_true e.remote_reset tells_of_reset
    (where_true e.discard discards
    (where_true e.set_back sets_back
    (where_true e.requeue (queues Requeue)
    (where_true e.close closes s))))

-- the session is told of an event
abbrev pub tells : Event → State → State
tells e s = has_effects (step_of s.session e).effects (record s { session = (step_of s.session e).session })

abbrev pub tells_if : Option Event → State → State
tells_if (Some e) s = tells e s
tells_if None s = s

-- ---- posts

abbrev pub posts : Option Planned → State → State
posts (Some (to_post m)) s = queues (Post m) s
posts _ s = s

-- ---- reading

abbrev pub agrees : SideFacts → ServerIdent → Result Addr AddrFault → Bool
agrees f i (Ok main) = is_ok (server_check (facts_of i main) f.peer f.policy)
agrees f i (Err e) = false

-- an ident of the peer, under the address that was dialled, that says the same of the session
abbrev pub is_agreed : SideFacts → ServerIdent → Bool
is_agreed f i = agrees f i (main_of i.addrs)

-- The answer to an ask, taken when it is read. A reset has an entry of its own, and an ident that isn't agreed is a fault.
abbrev pub answer_event : SideFacts → Phase → Option Said → Option Event
answer_event f IdentSent (Some (says (control.ServerIdent i))) = if is_agreed f i then Some (event.GotServerIdent i.cookie i.global) else None
answer_event f IdentSent (Some (says (control.Wait p))) = Some event.GotWait
answer_event f ReconnectSent (Some (says (control.SessionReconnectOk p))) = Some event.GotReconnectOk
answer_event f ReconnectSent (Some (says (control.SessionRetry p))) = Some (event.GotRetry p.connect)
answer_event f ReconnectSent (Some (says (control.SessionRetryGlobal p))) = Some (event.GotRetryGlobal p.global)
answer_event f ReconnectSent (Some (says (control.Wait p))) = Some event.GotWait
answer_event f _ _ = None

abbrev pub takes_answer : Feed → Feed
takes_answer d = record d { taken = d.taken + 1 }

abbrev pub takes_answer_if : Option Event → Feed → Feed
takes_answer_if (Some e) d = takes_answer d
takes_answer_if None d = d

abbrev pub heeds : Option Event → Feed → State → State
heeds e d s = tells_if e (with_feed (takes_answer_if e d) s)

abbrev pub event_heard : SideFacts → Phase → Feed → Option Event
event_heard f p d = answer_event f p (answer_said d)

abbrev pub reads : SideFacts → Feed → State → State
reads f d s = heeds (event_heard f s.session.phase d) d s

-- ---- writing

abbrev pub sends_late : SocketId → OutFrame → State → State
sends_late socket w s = if is_unnamed w then sends socket (w ∷ []) s else s

-- what was wholly put, and what it pays
abbrev pub puts_whole : PartText → Feed → State → State
puts_whole t d s =
    let owes = s.owes && not (acknowledges t.frame) in
    sends_late d.socket t.frame
    (record s {
      feed = Some (record d { texts = []; floor = s.last; owed = owes; answered = d.answered + keepalives_answered t.frame });
      owes = owes;
    })

abbrev pub puts_on : Option PartText → List PartText → Feed → State → State
puts_on (Some t) texts d s = puts_whole t d s
puts_on None texts d s = with_feed (record d { texts = texts }) s

abbrev pub puts : SideFacts → List ℕ → Feed → State → State
puts f bytes d s =
    let texts = narrowed bytes (texts_at f s d) in
    puts_on (finished texts) texts d s

-- ---- closing

abbrev pub without : SocketId → List SocketId → List SocketId
without socket sockets = filter (λ other. not (same_socket socket other)) sockets

abbrev pub is_waiting : State → Bool
is_waiting s = waits s.out.queue

-- the feed is closed for a fault, and is not spent behind that
abbrev pub breaks : State → State
breaks s = record (tells (event.Faulted (is_waiting s)) s) { spent = s.spent }

abbrev pub forgets : SocketId → State → State
forgets socket s = record s { spent = without socket s.spent }

abbrev pub is_on : SocketId → Option Feed → Bool
is_on socket (Some d) = same_socket socket d.socket
is_on socket None = false

abbrev pub closes_socket : SocketId → State → State
closes_socket socket s = if is_on socket s.feed then breaks s else forgets socket s

-- ---- judging

-- the answer by the tables
abbrev pub answer_to : AskFacts → State → Answer
answer_to a s = asks.answer_to s.session a s.out.queue.written

-- a lossy session keeps no cookie of its peer
abbrev pub kept_of : SideFacts → AskFacts → AskFacts
kept_of f a = record a { client = (if f.policy.lossy then 0 else a.client) }

abbrev pub event_of : SideFacts → AskFacts → ℕ → Answer → Option Event
event_of f a number answer = asks.event_of (kept_of f a) answer (cookie_of f number)

abbrev pub acceptance : AskFacts → ℕ → State → OutFrame
acceptance a number s = if a.ident then server_ident s.session.server_cookie number else reconnect_ok s.last

abbrev pub acknowledged_by : AskFacts → Option ℕ
acknowledged_by a = if a.ident then None else Some a.seen

-- the half's socket becomes the feed, with what the half had left unread
abbrev pub takes_socket : SideFacts → SocketId → AskFacts → ℕ → List ℕ → State → State
takes_socket f socket a number unread s =
    composes f (acceptance a number s)
    (with_feed (taken_feed socket unread (acknowledged_by a) s.last s.owes) (record s { dials = false }))

abbrev pub notes : SocketId → AskFacts → ℕ → Answer → State → State
notes socket a number answer s = record s {
  top = number;
  judgements = s.judgements ++ record { socket = socket; item = record { ask = a; answer = answer } } ∷ [];
}

abbrev pub answers : SideFacts → SocketId → AskFacts → ℕ → Answer → List ℕ → State → State
answers f socket a number answer unread s =
    if takes answer then takes_socket f socket a number unread s
    else sends socket (replies_of answer) s

abbrev pub judges : SideFacts → SocketId → AskFacts → ℕ → Answer → List ℕ → State → State
judges f socket a number answer unread s =
    answers f socket a number answer unread (tells_if (event_of f a number answer) (notes socket a number answer s))

-- ---- asking

abbrev pub writes_ident : SideFacts → ℕ → State → State
writes_ident f number s = composes f (ident s.session.client_cookie number) s

abbrev pub writes_reconnect : SideFacts → ℕ → State → State
writes_reconnect f number s = composes f (reconnect s.session.client_cookie s.session.server_cookie number s.session.connect s.last) s

abbrev pub asks_peer : SideFacts → Bool → ℕ → State → State
asks_peer f true number s = writes_ident f number (tells (event.AskedIdent (cookie_of f number)) (record s { top = number }))
asks_peer f false number s = writes_reconnect f number (tells event.AskedReconnect (record s { top = number }))

-- ---- messages

abbrev pub writes_message : SideFacts → ℕ → Option Content → State → State
writes_message f number (Some m) s = queues Sent (composes f (message number s.last m) s)
writes_message f number None s = s

abbrev pub writes_next : SideFacts → ℕ → State → State
writes_next f number s = writes_message f number (message_at s.out.queue number) s

abbrev pub numbers : SideFacts → ℕ → State → State
numbers f number s = writes_next f number (queues Next s)

abbrev pub accepts : ℕ → Key → Option Said → Feed → State → State
accepts number key (Some (brings m)) d s = record s {
  feed = Some (record d { taken = next_place s.last d + 1 });
  last = number;
  owes = true;
  deliveries = s.deliveries ++ letter number s.life key m ∷ [];
}
accepts number key _ d s = s

-- ---- each entry

abbrev pub wants_dial : State → State
wants_dial s = record s { steps = s.steps + 1; dials = s.dials || phase.is_among s.session.phase at_rest }

abbrev pub opens : SideFacts → SocketId → State → State
opens f socket s = record s { feed = Some (opened_feed f socket s.last s.owes); opened = s.opened ++ socket ∷ []; dials = false }

abbrev pub goes_down : Bool → State → State
goes_down planned s = record s { steps = (if planned then s.steps + 1 else s.steps); dials = false }

abbrev pub after : SideFacts → JournalItem → State → State
after f (post place planned) s = posts planned (record s { steps = s.steps + 1 })
after f (dial planned) s = wants_dial s
after f (opened socket) s = opens f socket (tells event.Dialled s)
after f (read socket bytes) s = on_feed (λ d. reads f (hears bytes d)) s
after f (wrote socket bytes) s = on_feed (puts f bytes) s
after f (closed socket broken) s = closes_socket socket s
after f (judged socket ask number answer unread trail) s = judges f socket ask number answer unread s
after f (asked by_ident number) s = asks_peer f by_ident number s
after f (numbered number) s = numbers f number s
after f (accepted number key) s = on_feed (λ d. accepts number key (next_said s.last d) d) s
after f (acked number) s = queues (Acked number) s
after f (obeyed full) s = on_feed (λ d t. tells (event.GotReset full) (with_feed (takes_answer d) t)) s
after f (down planned step) s = goes_down planned (tells event.MarkedDown s)

-- ---- what the session is told at an entry

abbrev pub event_on : Option Feed → (Feed → Option Event) → Option Event
event_on (Some d) e = e d
event_on None e = None

abbrev pub event_at : SideFacts → JournalItem → State → Option Event
event_at f (opened socket) s = Some event.Dialled
event_at f (read socket bytes) s = event_on s.feed (λ d. event_heard f s.session.phase (hears bytes d))
event_at f (closed socket broken) s = if is_on socket s.feed then Some (event.Faulted (is_waiting s)) else None
event_at f (judged socket ask number answer unread trail) s = event_of f ask number answer
event_at f (asked true number) s = Some (event.AskedIdent (cookie_of f number))
event_at f (asked false number) s = Some event.AskedReconnect
event_at f (obeyed full) s = event_on s.feed (λ d. Some (event.GotReset full))
event_at f (down planned step) s = Some event.MarkedDown
event_at f _ s = None
