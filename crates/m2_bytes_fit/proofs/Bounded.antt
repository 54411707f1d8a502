-- What a record may put into frames keeps its bounds: the cookies and numbers of its session, its last accepted number, the
-- messages of its queue, and what it has begun to write; each entry leaves it so.
use Rattle.std.proofs.Common.{◌≡◌, ◌≢◌, ℕ, zero, suc, ◌+◌, ◌-◌, ◌<◌, ◌≤◌, ◌^◌, Bool, true, false, not, ◌&&◌, ◌==◌, if◌then◌else◌, List, [], ◌∷◌, ◌++◌, length, take, drop, map, max, Option, Some, None, refl, sym, ap, ◌∙◌, subst, arith}
use Rattle.std.specs.Prelude.{IfSome, nat_lt, nat_le, slice_get}
use Rattle.std.specs.List.{AllByRecursion, filter}
use Rattle.std.specs.Option.{option_to_list}
use Rattle.std.proofs.lemmas.Bool.{eq-eqb}
use Rattle.m2_feed.specs.m2_session.declared.ask.AskFacts.{AskFacts}
use Rattle.m2_feed.specs.m2_control.declared.control.Control.TheVariants as control
use Rattle.m2_feed.specs.m2_control.declared.fields.TheConstants.{GREATEST_NUMBER}
use Rattle.m2_feed.specs.m2_control.Banner.{begins}
use Rattle.m2_feed.specs.m2_fabric.declared.socket.SocketId.{SocketId}
use Rattle.m2_feed.specs.m2_frame.Reading.{Item}
use Rattle.m2_feed.specs.m2_message.Message.{Content, priority_of}
use Rattle.m2_feed.specs.m2_policy.declared.path.Key.{Key}
use Rattle.m2_never_reset.specs.m2_queues.ByRank.{put_behind}
use Rattle.m2_never_reset.specs.m2_queues.QueueLaws.{Call, Post, Next, Sent, Acked, Requeue, Renumber, Discard, History, after_call}
use Rattle.m2_never_reset.specs.m2_queues.OutQueues.{Queue, after_next, after_sent, after_acked, message_at}
use Rattle.m2_feed.specs.m2_session.declared.answer.Answer.{Answer}
use Rattle.m2_feed.specs.m2_session.declared.event.Effects.{Effects}
use Rattle.m2_feed.specs.m2_session.declared.event.Event.{Event}
use Rattle.m2_feed.specs.m2_session.declared.event.Event.TheVariants as event
use Rattle.m2_feed.specs.m2_session.declared.session.Phase.TheVariants as phase
use Rattle.m2_feed.specs.m2_session.declared.session.Session.{Session}
use Rattle.m2_feed.specs.m2_session.Conditions.{is_kept}
use Rattle.m2_feed.specs.m2_session.SessionLaws as session
use Rattle.m2_feed.specs.m2_session.Phases as phases
use Rattle.m2_feed.specs.m2_session.Steps.{step_of, fault_rows, closes}
use Rattle.m2_feed.proofs.m2_session.Rows.{each_answer}
use Rattle.m2_feed.specs.m2_handshake.Course as hand
use Rattle.m2_feed.specs.m2_handshake.Course.{Course, course_of}
use Rattle.m2_feed.specs.m2_handshake.Moves.{is_authed}
use Rattle.m2_feed.specs.m2_handshake.Standing.{Standing, fed}
use Rattle.m2_feed.specs.m2_journal.Feeds.{acknowledgements, begun, finished, goes_on, greets, hears, hears_at, keepalive_answers, narrowed, next_place, next_said, owed_numbers, silent_feed, split_into, stamp_of, stamps_in, texts_at, unnamed, without_first}
use Rattle.m2_feed.specs.m2_journal.Items as item
use Rattle.m2_feed.specs.m2_journal.Items.{JournalItem}
use Rattle.m2_feed.specs.m2_journal.Laws.{IfFed}
use Rattle.m2_feed.specs.m2_journal.OutFrames as out
use Rattle.m2_feed.specs.m2_journal.OutFrames.{OutFrame, is_unnamed, replies_of}
use Rattle.m2_feed.specs.m2_journal.Plan.{Planned, to_post, to_dial, to_go_down}
use Rattle.m2_feed.specs.m2_journal.Said.{Said, says, brings, aborts, garbles, said, split}
use Rattle.m2_feed.specs.m2_journal.SideFacts.{SideFacts, cookie_of, opener_half}
use Rattle.m2_feed.specs.m2_journal.State.{PartText, Feed, State}
use Rattle.m2_feed.specs.m2_journal.Steps as steps
use Rattle.m2_feed.specs.m2_journal.Steps.{accepts, after, answers, breaks, composes, discards, event_heard, event_of, forgets, has_effects, is_on, is_waiting, notes, on_feed_at, posts, puts, puts_on, queues, reads, sends, sends_late, sets_back, takes_answer, takes_answer_if, takes_socket, tells, tells_if, tells_of_reset, where_true, with_feed, writes_message}
use Rattle.m2_never_reset.specs.Fits.{Says, IsRefusal, AreSaid}
use Rattle.m2_bytes_fit.specs.Texts.{KeepsFields, CanBePosted}
use Rattle.m2_feed.proofs.m2_lemmas.Booleans.{from_false_true}
use Rattle.m2_feed.proofs.m2_lemmas.Lists.{all_append}

-- ---- the session

pub record SessionIsBounded (s : Session) : Type 0 where
  pub client : s.client_cookie < 2 ^ 64
  pub server : s.server_cookie < 2 ^ 64
  -- a cookie of the server is kept beside one of the client, and an ident carries one
  pub both : s.server_cookie ≢ 0 → s.client_cookie ≢ 0
  pub asked : s.phase ≡ phase.IdentSent → s.client_cookie ≢ 0
  pub global : s.peer_global ≤ GREATEST_NUMBER
  pub connect : s.connect ≤ GREATEST_NUMBER + 1

-- the events that leave it so
abbrev pub EventIsBounded : Session → Event → Type 0
EventIsBounded s event.Dialled = (step_of s event.Dialled).session.connect ≤ GREATEST_NUMBER
EventIsBounded s (event.AskedIdent cookie) = (cookie < 2 ^ 64) × (cookie ≢ 0)
EventIsBounded s (event.GotServerIdent cookie global) = (s.phase ≡ phase.IdentSent) × (cookie < 2 ^ 64) × (global ≤ GREATEST_NUMBER)
EventIsBounded s (event.GotRetry number) = number ≤ GREATEST_NUMBER
EventIsBounded s (event.TookIdent full client server global) = (client < 2 ^ 64) × (client ≢ 0) × (server < 2 ^ 64) × (global ≤ GREATEST_NUMBER)
EventIsBounded s (event.TookReconnect global connect) = (global ≤ GREATEST_NUMBER) × (connect ≤ GREATEST_NUMBER)
EventIsBounded s _ = Unit {0}

chosen : (c cookie : ℕ) → c < 2 ^ 64 → cookie < 2 ^ 64 → cookie ≢ 0 → ((if is_kept c then c else cookie) < 2 ^ 64) × ((if is_kept c then c else cookie) ≢ 0)
chosen c cookie h k some = at (c == 0) refl
  where
    at : (t : Bool) → (c == 0) ≡ t → ((if not t then c else cookie) < 2 ^ 64) × ((if not t then c else cookie) ≢ 0)
    at true e = (k, some)
    at false e = (h, λ z. from_false_true (sym e ∙ eq-eqb c 0 z))

rests : (b : Bool) → (if b then phase.Standby else phase.Wait) ≡ phase.IdentSent → ⊥
rests true e = cc
rests false e = cc

pub absent_apart : phase.Absent ≡ phase.IdentSent → ⊥
absent_apart e = cc

connecting_apart : phase.Connecting ≡ phase.IdentSent → ⊥
connecting_apart e = cc

reconnect_apart : phase.ReconnectSent ≡ phase.IdentSent → ⊥
reconnect_apart e = cc

ready_apart : phase.Ready ≡ phase.IdentSent → ⊥
ready_apart e = cc

fault_bounded : (s : Session) (waits lost : Bool) → SessionIsBounded s → SessionIsBounded (record (step_of s (event.Faulted waits)).session { lost_ready = lost })
fault_bounded s waits lost h =
    each_answer (λ (o : Session × Effects). SessionIsBounded (record o.0 { lost_ready = lost })) (fault_rows s waits) (record s { phase = phase.Wait }, closes) (
      record { client = omega arith; server = omega arith; both = λ n. absurd (n refl); asked = λ e. absurd (absent_apart e); global = h.global; connect = h.connect },
      (
        record { client = h.client; server = h.server; both = h.both; asked = λ e. absurd (rests true e); global = h.global; connect = h.connect },
        (record { client = h.client; server = h.server; both = h.both; asked = λ e. absurd (rests true e); global = h.global; connect = h.connect }, tt),
      ),
    ) (record { client = h.client; server = h.server; both = h.both; asked = λ e. absurd (rests false e); global = h.global; connect = h.connect })

pub step_bounded : (s : Session) (e : Event) → SessionIsBounded s → EventIsBounded s e → SessionIsBounded (step_of s e).session
step_bounded s event.Dialled h k = record { client = h.client; server = h.server; both = h.both; asked = λ e. absurd (connecting_apart e); global = h.global; connect = omega (arith, k) }
step_bounded s (event.AskedIdent cookie) h k =
    let c = chosen s.client_cookie cookie h.client k.0 k.1 in
    record { client = c.0; server = h.server; both = λ n. c.1; asked = λ e. c.1; global = h.global; connect = h.connect }
step_bounded s event.AskedReconnect h k = record { client = h.client; server = h.server; both = h.both; asked = λ e. absurd (reconnect_apart e); global = h.global; connect = h.connect }
step_bounded s (event.GotServerIdent cookie global) h k =
    record { client = h.client; server = k.1; both = λ n. h.asked k.0; asked = λ e. absurd (ready_apart e); global = omega (arith, h.global, k.2); connect = omega arith }
step_bounded s event.GotReconnectOk h k = record { client = h.client; server = h.server; both = h.both; asked = λ e. absurd (ready_apart e); global = h.global; connect = h.connect }
step_bounded s (event.GotReset true) h k = record { client = omega arith; server = omega arith; both = λ n. absurd (n refl); asked = λ e. absurd (connecting_apart e); global = h.global; connect = omega arith }
step_bounded s (event.GotReset false) h k = record { client = h.client; server = omega arith; both = λ n. absurd (n refl); asked = λ e. absurd (connecting_apart e); global = h.global; connect = omega arith }
step_bounded s (event.GotRetry number) h k = record { client = h.client; server = h.server; both = h.both; asked = λ e. absurd (connecting_apart e); global = h.global; connect = omega (arith, k) }
step_bounded s (event.GotRetryGlobal number) h k = record { client = h.client; server = h.server; both = h.both; asked = λ e. absurd (connecting_apart e); global = h.global; connect = h.connect }
step_bounded s event.GotWait h k = record { client = h.client; server = h.server; both = h.both; asked = λ e. absurd (rests false e); global = h.global; connect = h.connect }
step_bounded s (event.TookIdent full client server global) h k =
    record { client = k.0; server = k.2; both = λ n. k.1; asked = λ e. k.1; global = omega (arith, h.global, k.3); connect = omega arith }
step_bounded s (event.TookReconnect global connect) h k =
    record { client = h.client; server = h.server; both = h.both; asked = λ e. absurd (ready_apart e); global = k.0; connect = omega (arith, k.1) }
step_bounded s event.Pending h k =
    record { client = h.client; server = h.server; both = h.both; asked = λ e. absurd (rests (phases.is s.phase phase.Standby) e); global = h.global; connect = h.connect }
step_bounded s (event.Faulted waits) h k = fault_bounded s waits _ h
step_bounded s event.MarkedDown h k = record { client = omega arith; server = omega arith; both = λ n. absurd (n refl); asked = λ e. absurd (absent_apart e); global = h.global; connect = omega arith }

pub told_bounded : (s : Session) (o : Option Event) → SessionIsBounded s → IfSome o (EventIsBounded s) → SessionIsBounded (session.told s o)
told_bounded s (Some e) h k = step_bounded s e h k
told_bounded s None h k = h

-- ---- the queue

pub record QueueIsBounded (q : Queue) : Type 0 where
  pub kept : AllByRecursion KeepsFields q.kept
  pub waiting : AllByRecursion KeepsFields q.waiting

abbrev pub CallIsBounded : Call → Type 0
CallIsBounded (Post m) = KeepsFields m
CallIsBounded _ = Unit {0}

all-take : (n : ℕ) (xs : List Content) → AllByRecursion KeepsFields xs → AllByRecursion KeepsFields (take n xs)
all-take zero xs h = tt
all-take (suc n) [] h = tt
all-take (suc n) (x ∷ xs) h = (h.0, all-take n xs h.1)

all-drop : (n : ℕ) (xs : List Content) → AllByRecursion KeepsFields xs → AllByRecursion KeepsFields (drop n xs)
all-drop zero xs h = h
all-drop (suc n) [] h = tt
all-drop (suc n) (x ∷ xs) h = all-drop n xs h.1

all-put : (m : Content) (xs : List Content) → KeepsFields m → AllByRecursion KeepsFields xs → AllByRecursion KeepsFields (put_behind priority_of m xs)
all-put m [] k h = (k, tt)
all-put m (x ∷ xs) k h = at (nat_lt (priority_of x) (priority_of m)) refl (all-put m xs k h.1)
  where
    at : (t : Bool) → nat_lt (priority_of x) (priority_of m) ≡ t → AllByRecursion KeepsFields (put_behind priority_of m xs) → AllByRecursion KeepsFields (put_behind priority_of m (x ∷ xs))
    at true e more = rw e (k, (h.0, h.1))
    at false e more = rw e (h.0, more)

all-get : (n : ℕ) (xs : List Content) → AllByRecursion KeepsFields xs → IfSome (slice_get xs n) KeepsFields
all-get n [] h = tt
all-get zero (x ∷ xs) h = h.0
all-get (suc n) (x ∷ xs) h = all-get n xs h.1

-- so the message with a number does
pub message_keeps : (q : Queue) (number : ℕ) → QueueIsBounded q → IfSome (message_at q number) KeepsFields
message_keeps q number h = at (nat_lt q.base number)
  where
    at : (t : Bool) → IfSome (if t then slice_get q.kept (number - q.base - 1) else None) KeepsFields
    at true = all-get (number - q.base - 1) q.kept h.kept
    at false = tt

next_bounded : (q : Queue) → QueueIsBounded q → QueueIsBounded (after_next q)
next_bounded q h = at (nat_lt q.cursor (length q.kept))
  where
    at : (t : Bool) → QueueIsBounded (if t then q else record q { kept = q.kept ++ take 1 q.waiting; waiting = drop 1 q.waiting })
    at true = h
    at false = record { kept = all_append KeepsFields q.kept (take 1 q.waiting) h.kept (all-take 1 q.waiting h.waiting); waiting = all-drop 1 q.waiting h.waiting }

sent_bounded : (q : Queue) → QueueIsBounded q → QueueIsBounded (after_sent q)
sent_bounded q h = at q.keeps
  where
    at : (t : Bool) → QueueIsBounded (if t then record q { written = max q.written (q.base + q.cursor + 1); cursor = q.cursor + 1 }
        else record q { written = max q.written (q.base + q.cursor + 1); base = q.base + 1; kept = drop 1 q.kept })
    at true = record { kept = h.kept; waiting = h.waiting }
    at false = record { kept = all-drop 1 q.kept h.kept; waiting = h.waiting }

call_bounded : (h : History) (c : Call) → QueueIsBounded h.queue → CallIsBounded c → QueueIsBounded (after_call h c).queue
call_bounded h (Post m) q k = record { kept = q.kept; waiting = all-put m h.queue.waiting k q.waiting }
call_bounded h Next q k = next_bounded h.queue q
call_bounded h Sent q k = at (nat_lt h.queue.cursor (length h.queue.kept))
  where
    at : (t : Bool) → QueueIsBounded (if t then after_sent h.queue else h.queue)
    at true = sent_bounded h.queue q
    at false = q
call_bounded h (Acked n) q k = at (nat_le n h.queue.written)
  where
    at : (t : Bool) → QueueIsBounded (if t then after_acked h.queue n else h.queue)
    at true = record { kept = all-drop (n - h.queue.base) h.queue.kept q.kept; waiting = q.waiting }
    at false = q
call_bounded h Requeue q k = record { kept = q.kept; waiting = q.waiting }
call_bounded h Renumber q k = record { kept = q.kept; waiting = q.waiting }
call_bounded h Discard q k = record { kept = tt; waiting = tt }

-- ---- what is begun to be written

-- not the answer to a keepalive: no record asks for one
abbrev pub IsNoStamp : OutFrame → Type 0
IsNoStamp (out.keepalive_answer k) = ⊥
IsNoStamp w = Unit {0}

abbrev pub AreNoStamps : List PartText → Type 0
AreNoStamps texts = AllByRecursion (λ t. IsNoStamp t.frame) texts

kept_none : (test : PartText → Bool) (texts : List PartText) → AreNoStamps texts → AreNoStamps (filter test texts)
kept_none test [] h = tt
kept_none test (t ∷ ts) h = at (test t) refl (kept_none test ts h.1)
  where
    at : (b : Bool) → test t ≡ b → AreNoStamps (filter test ts) → AreNoStamps (filter test (t ∷ ts))
    at true e more = rw e (h.0, more)
    at false e more = rw e more

shortened_none : (n : ℕ) (texts : List PartText) → AreNoStamps texts → AreNoStamps (map (without_first n) texts)
shortened_none n [] h = tt
shortened_none n (t ∷ ts) h = (h.0, shortened_none n ts h.1)

pub narrowed_none : (bytes : List ℕ) (texts : List PartText) → AreNoStamps texts → AreNoStamps (narrowed bytes texts)
narrowed_none bytes texts h = shortened_none (length bytes) (filter (λ t. begins bytes t.left) texts) (kept_none (λ t. begins bytes t.left) texts h)

pub finished_none : (texts : List PartText) → AreNoStamps texts → IfSome (finished texts) (λ t. IsNoStamp t.frame)
finished_none [] h = tt
finished_none (t ∷ ts) h = at (length t.left == 0) refl (finished_none ts h.1)
  where
    at : (b : Bool) → (length t.left == 0) ≡ b → IfSome (finished ts) (λ t. IsNoStamp t.frame) → IfSome (finished (t ∷ ts)) (λ t. IsNoStamp t.frame)
    at true e more = rw e h.0
    at false e more = rw e more

greets_none : (bytes : List ℕ) (texts : List PartText) → AreNoStamps texts → AreNoStamps (greets bytes texts)
greets_none [] texts h = h
greets_none (b ∷ bs) [] h = (tt, tt)
greets_none (b ∷ bs) (t ∷ ts) h = (h.0, tt)

goes_on_none : (c : Course) (d : Feed) → AreNoStamps d.texts → AreNoStamps (goes_on c d).texts
goes_on_none c d h = at (is_authed c.standing.stage)
  where
    e : Feed
    e = record d { texts = greets (hand.text_of c.events) d.texts }

    at : (b : Bool) → AreNoStamps (if b then split_into (split c.standing.rest) (record e { hand = None }) else record e { hand = Some c.standing }).texts
    at true = greets_none (hand.text_of c.events) d.texts h
    at false = greets_none (hand.text_of c.events) d.texts h

hears_none : (bytes : List ℕ) (d : Feed) → AreNoStamps d.texts → AreNoStamps (hears bytes d).texts
hears_none bytes d h = at d.hand
  where
    at : (o : Option Standing) → AreNoStamps (hears_at o bytes d).texts
    at (Some s) = goes_on_none (course_of (fed s bytes) []) d h
    at None = h

-- what the other side sends asks for none
abbrev pub IsUnasked : Feed → Type 0
IsUnasked d = (n : ℕ) → stamps_in (take n d.got) ≡ []

says_none : (x : Said) (w : OutFrame) → Says x w → stamp_of x ≡ None
says_none (brings m) (out.message n a c) h = refl
says_none (says (control.Ack p)) (out.acknowledgement n) h = refl
says_none (says (control.KeepaliveAck p)) (out.keepalive_answer k) h = refl
says_none (says (control.ServerIdent i)) (out.server_ident c g) h = refl
says_none (says (control.SessionReconnectOk p)) (out.reconnect_ok n) h = refl
says_none (says (control.SessionReset p)) (out.reset full) h = refl
says_none (says (control.SessionRetry p)) (out.retry k) h = refl
says_none (says (control.SessionRetryGlobal p)) (out.retry_global g) h = refl
says_none (says (control.Wait p)) out.wait h = refl
says_none garbles (out.retry k) h = refl
says_none x w h = elim h [ ]

refusal_none : (x : Said) → IsRefusal x → stamp_of x ≡ None
refusal_none (says (control.IdentMissingFeatures p)) h = refl
refusal_none x h = elim h [ ]

one_more : (i : Item) (is : List Item) (n : ℕ) → stamp_of (said i) ≡ None → stamps_in (take n is) ≡ [] → stamps_in (take (suc n) (i ∷ is)) ≡ []
one_more i is n none more = rw none more

none_of_none : (n : ℕ) → stamps_in (take n []) ≡ []
none_of_none zero = refl
none_of_none (suc n) = refl

pub said_unasked : (is : List Item) (ws : List OutFrame) → AreSaid is ws → (n : ℕ) → stamps_in (take n is) ≡ []
said_unasked is ws h zero = refl
said_unasked [] ws h (suc n) = refl
said_unasked (i ∷ is) [] h (suc n) = one_more i is n (refusal_none (said i) h.0) (subst (λ l. stamps_in (take n l) ≡ []) (sym h.1) (none_of_none n))
said_unasked (i ∷ is) (w ∷ ws) h (suc n) = one_more i is n (says_none (said i) w h.0) (said_unasked is ws h.1 n)

numbers_none : (f : SideFacts) (ns : List ℕ) → AreNoStamps (map (λ n. begun f (out.acknowledgement n)) ns)
numbers_none f [] = tt
numbers_none f (n ∷ ns) = (tt, numbers_none f ns)

pub texts_none : (f : SideFacts) (s : State) (d : Feed) → IsUnasked d → AreNoStamps d.texts → AreNoStamps (texts_at f s d)
texts_none f s d u h = at (length d.texts == 0)
  where
    owed : (b : Bool) → AreNoStamps (if b then map (λ n. begun f (out.acknowledgement n)) (owed_numbers s d) else [])
    owed true = numbers_none f (owed_numbers s d)
    owed false = tt

    none : keepalive_answers f s d ≡ []
    none = ap (λ l. map (λ k. begun f (out.keepalive_answer k)) (option_to_list (slice_get l d.answered))) (u (next_place s.last d))

    some : (b : Bool) → AreNoStamps (if b then acknowledgements f s d ++ keepalive_answers f s d else [])
    some true = all_append (λ t. IsNoStamp t.frame) (acknowledgements f s d) (keepalive_answers f s d) (owed (s.owes && not f.policy.lossy)) (subst AreNoStamps (sym none) tt)
    some false = tt

    at : (b : Bool) → AreNoStamps (if b then unnamed f s d else d.texts)
    at true = some (phases.is s.session.phase phase.Ready)
    at false = h

-- ---- all of it but the session

pub record RestIsBounded (s : State) : Type 0 where
  pub last : s.last ≤ GREATEST_NUMBER
  pub queue : QueueIsBounded s.out.queue
  pub texts : IfFed s.feed (λ d. AreNoStamps d.texts)

pub queues_rest : (c : Call) (s : State) → CallIsBounded c → RestIsBounded s → RestIsBounded (queues c s)
queues_rest c s k h = record { last = h.last; queue = call_bounded s.out c h.queue k; texts = h.texts }

where_true_rest : (b : Bool) (change : State → State) (s : State) → ((t : State) → RestIsBounded t → RestIsBounded (change t)) → RestIsBounded s → RestIsBounded (where_true b change s)
where_true_rest true change s each h = each s h
where_true_rest false change s each h = h

closes_rest : (s : State) → RestIsBounded s → RestIsBounded (steps.closes s)
closes_rest s h = at s.feed
  where
    at : (o : Option Feed) → RestIsBounded (steps.closes (record s { feed = o }))
    at (Some d) = record { last = h.last; queue = h.queue; texts = tt }
    at None = record { last = h.last; queue = h.queue; texts = tt }

sets_back_rest : (s : State) → RestIsBounded s → RestIsBounded (sets_back s)
sets_back_rest s h = at s.feed h.texts
  where
    q : QueueIsBounded (after_call s.out Renumber).queue
    q = call_bounded s.out Renumber h.queue tt

    at : (o : Option Feed) → IfFed o (λ d. AreNoStamps d.texts) → RestIsBounded (sets_back (record s { feed = o }))
    at (Some d) texts = record { last = omega arith; queue = q; texts = texts }
    at None texts = record { last = omega arith; queue = q; texts = tt }

discards_rest : (s : State) → RestIsBounded s → RestIsBounded (discards s)
discards_rest s h = record { last = h.last; queue = call_bounded s.out Discard h.queue tt; texts = h.texts }

tells_of_reset_rest : (s : State) → RestIsBounded s → RestIsBounded (tells_of_reset s)
tells_of_reset_rest s h = record { last = h.last; queue = h.queue; texts = h.texts }

has_effects_rest : (close requeue back discard remote_reset : Bool) (s : State) → RestIsBounded s →
    RestIsBounded (has_effects (record { close = close; requeue = requeue; set_back = back; discard = discard; remote_reset = remote_reset }) s)
has_effects_rest close requeue back discard remote_reset s h =
    where_true_rest remote_reset tells_of_reset _ tells_of_reset_rest
    (where_true_rest discard discards _ discards_rest
    (where_true_rest back sets_back _ sets_back_rest
    (where_true_rest requeue (queues Requeue) _ (λ t k. queues_rest Requeue t tt k)
    (where_true_rest close steps.closes s closes_rest h))))

pub tells_rest : (e : Event) (s : State) → RestIsBounded s → RestIsBounded (tells e s)
tells_rest e s h =
    let o = (step_of s.session e).effects in
    has_effects_rest o.close o.requeue o.set_back o.discard o.remote_reset (record s { session = (step_of s.session e).session }) (record { last = h.last; queue = h.queue; texts = h.texts })

pub tells_if_rest : (o : Option Event) (s : State) → RestIsBounded s → RestIsBounded (tells_if o s)
tells_if_rest (Some e) s h = tells_rest e s h
tells_if_rest None s h = h

composes_rest : (f : SideFacts) (w : OutFrame) (s : State) → IsNoStamp w → RestIsBounded s → RestIsBounded (composes f w s)
composes_rest f w s n h = at s.feed
  where
    at : (o : Option Feed) → RestIsBounded (composes f w (record s { feed = o }))
    at (Some d) = record { last = h.last; queue = h.queue; texts = (n, tt) }
    at None = record { last = h.last; queue = h.queue; texts = tt }

sends_late_rest : (k : SocketId) (w : OutFrame) (s : State) → RestIsBounded s → RestIsBounded (sends_late k w s)
sends_late_rest k w s h = at (is_unnamed w)
  where
    at : (b : Bool) → RestIsBounded (if b then sends k (w ∷ []) s else s)
    at true = record { last = h.last; queue = h.queue; texts = h.texts }
    at false = h

puts_on_rest : (o : Option PartText) (texts : List PartText) (d : Feed) (s : State) → AreNoStamps texts → RestIsBounded s → RestIsBounded (puts_on o texts d s)
puts_on_rest (Some t) texts d s n h = sends_late_rest d.socket t.frame _ (record { last = h.last; queue = h.queue; texts = tt })
puts_on_rest None texts d s n h = record { last = h.last; queue = h.queue; texts = n }

writes_message_rest : (f : SideFacts) (n : ℕ) (o : Option Content) (s : State) → RestIsBounded s → RestIsBounded (writes_message f n o s)
writes_message_rest f n (Some m) s h = queues_rest Sent _ tt (composes_rest f (out.message n s.last m) s tt h)
writes_message_rest f n None s h = h

accepts_rest : (n : ℕ) (key : Key) (o : Option Said) (d : Feed) (s : State) → n ≤ GREATEST_NUMBER → AreNoStamps d.texts → RestIsBounded s → RestIsBounded (accepts n key o d s)
accepts_rest n key (Some (brings m)) d s l t h = record { last = l; queue = h.queue; texts = t }
accepts_rest n key (Some (says c)) d s l t h = h
accepts_rest n key (Some aborts) d s l t h = h
accepts_rest n key (Some garbles) d s l t h = h
accepts_rest n key None d s l t h = h

answers_rest : (f : SideFacts) (k : SocketId) (a : AskFacts) (n : ℕ) (answer : Answer) (unread : List ℕ) (s : State) → RestIsBounded s → RestIsBounded (answers f k a n answer unread s)
answers_rest f k a n answer unread s h = at (session.takes answer)
  where
    named : (b : Bool) → IsNoStamp (if b then out.server_ident s.session.server_cookie n else out.reconnect_ok s.last)
    named true = tt
    named false = tt

    at : (b : Bool) → RestIsBounded (if b then takes_socket f k a n unread s else sends k (replies_of answer) s)
    at true = record { last = h.last; queue = h.queue; texts = (named a.ident, tt) }
    at false = record { last = h.last; queue = h.queue; texts = h.texts }

-- the message that is posted keeps its fields, and the number that is accepted is one that can be drawn
abbrev pub IsTakenIn : JournalItem → Type 0
IsTakenIn (item.accepted number key) = number ≤ GREATEST_NUMBER
IsTakenIn _ = Unit {0}

posts_rest : (place : ℕ) (o : Option Planned) (s : State) → CanBePosted (item.post place o) → RestIsBounded s → RestIsBounded (posts o s)
posts_rest place (Some (to_post m)) s k h = queues_rest (Post m) s k h
posts_rest place (Some to_dial) s k h = h
posts_rest place (Some to_go_down) s k h = h
posts_rest place None s k h = h

pub rest_after : (f : SideFacts) (i : JournalItem) (s : State) → CanBePosted i → IsTakenIn i → IfFed s.feed IsUnasked → RestIsBounded s → RestIsBounded (after f i s)
rest_after f (item.post place planned) s posted taken u h = posts_rest place planned (record s { steps = s.steps + 1 }) posted (record { last = h.last; queue = h.queue; texts = h.texts })
rest_after f (item.dial planned) s posted taken u h = record { last = h.last; queue = h.queue; texts = h.texts }
rest_after f (item.opened k) s posted taken u h =
    let t = tells event.Dialled s in
    let told = tells_rest event.Dialled s h in
    record { last = told.last; queue = told.queue; texts = goes_on_none (course_of (opener_half f) []) (silent_feed k true t.last t.owes) tt }
rest_after f (item.read k bytes) s posted taken u h = at s.feed h.texts
  where
    at : (o : Option Feed) → IfFed o (λ d. AreNoStamps d.texts) → RestIsBounded (on_feed_at o (λ d. reads f (hears bytes d)) s)
    at (Some d) texts =
        let e = hears bytes d in
        let w = event_heard f s.session.phase e in
        tells_if_rest w (with_feed (takes_answer_if w e) s) (record { last = h.last; queue = h.queue; texts = taken_none w e (hears_none bytes d texts) })
      where
        taken_none : (o : Option Event) (e : Feed) → AreNoStamps e.texts → AreNoStamps (takes_answer_if o e).texts
        taken_none (Some w) e n = n
        taken_none None e n = n
    at None texts = h
rest_after f (item.wrote k bytes) s posted taken u h = at s.feed u h.texts
  where
    at : (o : Option Feed) → IfFed o IsUnasked → IfFed o (λ d. AreNoStamps d.texts) → RestIsBounded (on_feed_at o (puts f bytes) s)
    at (Some d) unasked texts =
        let all = narrowed bytes (texts_at f s d) in
        puts_on_rest (finished all) all d s (narrowed_none bytes (texts_at f s d) (texts_none f s d unasked texts)) h
    at None unasked texts = h
rest_after f (item.closed k broken) s posted taken u h = at (is_on k s.feed)
  where
    at : (b : Bool) → RestIsBounded (if b then breaks s else forgets k s)
    at true = let t = tells_rest (event.Faulted (is_waiting s)) s h in record { last = t.last; queue = t.queue; texts = t.texts }
    at false = record { last = h.last; queue = h.queue; texts = h.texts }
rest_after f (item.judged k a n answer unread trail) s posted taken u h =
    answers_rest f k a n answer unread _ (tells_if_rest (event_of f a n answer) (notes k a n answer s) (record { last = h.last; queue = h.queue; texts = h.texts }))
rest_after f (item.asked true n) s posted taken u h =
    composes_rest f _ _ tt (tells_rest (event.AskedIdent (cookie_of f n)) (record s { top = n }) (record { last = h.last; queue = h.queue; texts = h.texts }))
rest_after f (item.asked false n) s posted taken u h =
    composes_rest f _ _ tt (tells_rest event.AskedReconnect (record s { top = n }) (record { last = h.last; queue = h.queue; texts = h.texts }))
rest_after f (item.numbered n) s posted taken u h =
    let t = queues Next s in
    writes_message_rest f n (message_at t.out.queue n) t (queues_rest Next s tt h)
rest_after f (item.accepted n key) s posted taken u h = at s.feed h.texts
  where
    at : (o : Option Feed) → IfFed o (λ d. AreNoStamps d.texts) → RestIsBounded (on_feed_at o (λ d. accepts n key (next_said s.last d) d) s)
    at (Some d) texts = accepts_rest n key (next_said s.last d) d s taken texts h
    at None texts = h
rest_after f (item.acked n) s posted taken u h = queues_rest (Acked n) s tt h
rest_after f (item.obeyed full) s posted taken u h = at s.feed h.texts
  where
    at : (o : Option Feed) → IfFed o (λ d. AreNoStamps d.texts) → RestIsBounded (on_feed_at o (λ d t. tells (event.GotReset full) (with_feed (takes_answer d) t)) s)
    at (Some d) texts = tells_rest (event.GotReset full) (with_feed (takes_answer d) s) (record { last = h.last; queue = h.queue; texts = texts })
    at None texts = h
rest_after f (item.down planned step) s posted taken u h = let t = tells_rest event.MarkedDown s h in record { last = t.last; queue = t.queue; texts = t.texts }
