-- What an entry without trouble leaves of what was handed on and of what is acknowledged: the first grows where a message
-- is accepted, the second rises where an acknowledgement is counted, and each stays else.
use Rattle.std.proofs.Common.{◌≡◌, ℕ, ◌+◌, ◌≤◌, max, Bool, true, false, if◌then◌else◌, List, [], ◌∷◌, ◌++◌, length, map, take, drop, Option, Some, None, nat_lt, nat_le, refl, sym, ap, ◌∙◌, arith, append-nil, not, ◌&&◌, subst}
use Rattle.std.specs.List.{AllByRecursion}
use Rattle.std.proofs.lemmas.Bool.{le-leb}
use Rattle.m2_never_reset.specs.m2_session.declared.ask.AskFacts.{AskFacts}
use Rattle.m2_never_reset.specs.m2_fabric.declared.socket.SocketId.{SocketId}
use Rattle.m2_dispatch.specs.m2_message.Message.{Content, unnumbered}
use Rattle.m2_dispatch.specs.m2_policy.declared.path.Key.{Key}
use Rattle.m2_dispatch.specs.m2_queues.QueueLaws.{Next, Sent, Requeue}
use Rattle.m2_dispatch.specs.m2_queues.OutQueues.{Queue, message_at, cursor_number, after_sent, after_acked}
use Rattle.m2_never_reset.specs.m2_session.declared.answer.Answer.{Answer}
use Rattle.m2_never_reset.specs.m2_session.declared.event.Effects.{Effects}
use Rattle.m2_never_reset.specs.m2_session.declared.event.Event.{Event}
use Rattle.m2_never_reset.specs.m2_session.declared.event.Event.TheVariants as event
use Rattle.m2_never_reset.specs.m2_session.SessionLaws as session
use Rattle.m2_never_reset.specs.m2_session.declared.session.Phase.TheVariants.{Absent, Standby, Wait}
use Rattle.m2_never_reset.specs.m2_session.declared.session.Session.{Session}
use Rattle.m2_never_reset.specs.m2_session.Steps as step
use Rattle.m2_never_reset.specs.m2_session.Steps.{step_of, fault}
use Rattle.m2_never_reset.specs.Steps.{times}
use Rattle.m2_never_reset.specs.m2_journal.Feeds.{hears, next_said}
use Rattle.m2_never_reset.specs.m2_journal.Items as item
use Rattle.m2_never_reset.specs.m2_journal.Items.{JournalItem}
use Rattle.m2_never_reset.specs.m2_journal.Lawful.{Lawful, OnFeedAt, MayAcknowledge}
use Rattle.m2_never_reset.specs.m2_journal.OutFrames as out
use Rattle.m2_never_reset.specs.m2_journal.OutFrames.{OutFrame, is_unnamed, replies_of}
use Rattle.m2_never_reset.specs.m2_journal.Plan.{Planned, to_post, to_dial, to_go_down}
use Rattle.m2_never_reset.specs.m2_journal.Said.{Said, says, brings, aborts, garbles}
use Rattle.m2_never_reset.specs.m2_journal.SideFacts.{SideFacts, cookie_of}
use Rattle.m2_never_reset.specs.m2_journal.State as state
use Rattle.m2_never_reset.specs.m2_journal.State.{PartText, Feed, Delivery, State}
use Rattle.m2_never_reset.specs.m2_journal.Steps.{after, where_true, closes, sets_back, has_effects, tells, tells_if, on_feed_at, posts, composes, sends, sends_late, puts_on, puts, reads, event_heard, event_on, takes_answer_if, breaks, forgets, is_on, writes_message, accepts, answers, notes, takes_answer, takes_socket, with_feed, is_waiting, event_of, queues, writes_ident, writes_reconnect}
use Rattle.m2_never_reset.specs.PairLaws.{IsNoDown}
use Rattle.m2_never_reset.specs.LinkOf.{letters}
use Rattle.m2_never_reset.specs.Trouble.{trouble_at, trouble_told}
use Rattle.m2_channel.specs.Channel.{KeyedMessage, keyed}
use Rattle.m2_channel.specs.Observed.{handed, brought_by, brought_on, IsLetter}
use Rattle.m2_dispatch.proofs.m2_lemmas.Numbers.{none_back}
use Rattle.m2_dispatch.proofs.m2_lemmas.Booleans.{from_false_true}

-- ---- what stays

-- what is acknowledged, whether messages are kept, and what was handed on
abbrev pub Quiet : State → State → Type 0
Quiet s t = (t.out.queue.base ≡ s.out.queue.base) × (t.out.queue.keeps ≡ s.out.queue.keeps) × (t.deliveries ≡ s.deliveries)

both : (r s t : State) → Quiet r s → Quiet s t → Quiet r t
both r s t h k = (k.0 ∙ h.0, k.1 ∙ h.1, k.2 ∙ h.2)

-- ---- effects

closes-quiet : (b : Bool) (s : State) → Quiet s (where_true b closes s)
closes-quiet false s = (refl, refl, refl)
closes-quiet true s = at s.feed
  where
    at : (o : Option Feed) → Quiet s (closes (record s { feed = o }))
    at (Some d) = (refl, refl, refl)
    at None = (refl, refl, refl)

requeues-quiet : (b : Bool) (s : State) → Quiet s (where_true b (queues Requeue) s)
requeues-quiet true s = (refl, refl, refl)
requeues-quiet false s = (refl, refl, refl)

sets_back-quiet : (b : Bool) (s : State) → (b ≡ true → s.out.queue.base ≡ 0) → Quiet s (where_true b sets_back s)
sets_back-quiet false s h = (refl, refl, refl)
sets_back-quiet true s h = at s.feed
  where
    at : (o : Option Feed) → Quiet s (sets_back (record s { feed = o }))
    at (Some d) = (sym (h refl), refl, refl)
    at None = (sym (h refl), refl, refl)

-- where nothing is thrown away, numbers are set back only where nothing is acknowledged, and no reset is told of
has_effects-quiet : (close requeue back : Bool) (s : State) → (back ≡ true → s.out.queue.base ≡ 0) →
    Quiet s (has_effects (record { close = close; requeue = requeue; set_back = back; discard = false; remote_reset = false }) s)
has_effects-quiet close requeue back s h =
    let t = where_true close closes s in
    let u = where_true requeue (queues Requeue) t in
    let v = where_true back sets_back u in
    let first = both s t u (closes-quiet close s) (requeues-quiet requeue t) in
    both s u v first (sets_back-quiet back u (λ e. first.0 ∙ h e))

-- a step that tells of a reset throws messages away
fault_tells_none : (s : Session) (waits : Bool) → (fault s waits).1.remote_reset ≡ false
fault_tells_none s waits = at s.policy.lossy s.policy.server (s.policy.standby && not waits)
  where
    at : (a b c : Bool) → let r : Session × Effects =
        if a then (record s { phase = Absent; client_cookie = 0; server_cookie = 0 }, record step.closes { discard = true })
        else if b then (record s { phase = Standby }, step.closes)
        else if c then (record s { phase = Standby }, step.closes) else (record s { phase = Wait }, step.closes) in
        r.1.remote_reset ≡ false
    at true b c = refl
    at false true c = refl
    at false false true = refl
    at false false false = refl

tells_none : (s : Session) (e : Event) → (step_of s e).effects.discard ≡ false → (step_of s e).effects.remote_reset ≡ false
tells_none s event.Dialled h = refl
tells_none s (event.AskedIdent cookie) h = refl
tells_none s event.AskedReconnect h = refl
tells_none s (event.GotServerIdent cookie global) h = refl
tells_none s event.GotReconnectOk h = refl
tells_none s (event.GotReset true) h = from_false_true (sym h)
tells_none s (event.GotReset false) h = refl
tells_none s (event.GotRetry number) h = refl
tells_none s (event.GotRetryGlobal number) h = refl
tells_none s event.GotWait h = refl
tells_none s (event.TookIdent full client server global) h = h
tells_none s (event.TookReconnect global connect) h = refl
tells_none s event.Pending h = refl
tells_none s (event.Faulted waits) h = fault_tells_none s waits
tells_none s event.MarkedDown h = refl

none_thrown : (discard : Bool) (m : ℕ) → times discard + m ≡ 0 → discard ≡ false
none_thrown true m e = absurd (omega (arith, e))
none_thrown false m e = refl

-- an event without trouble
tells-quiet : (e : Event) (s : State) (n : ℕ) → trouble_told (Some e) s.session n ≡ 0 → (n ≡ 0 → s.out.queue.base ≡ 0) → Quiet s (tells e s)
tells-quiet e s n none base =
    let o = (step_of s.session e).effects in
    let kept = none_thrown o.discard (if o.set_back then n else 0) none in
    at o.close o.requeue o.set_back o.discard o.remote_reset (record s { session = (step_of s.session e).session })
    kept (tells_none s.session e kept) (λ b. base (none_back o.set_back (times o.discard) n none b))
  where
    at : (close requeue back discard remote_reset : Bool) (t : State) → discard ≡ false → remote_reset ≡ false → (back ≡ true → t.out.queue.base ≡ 0) →
        Quiet t (has_effects (record { close = close; requeue = requeue; set_back = back; discard = discard; remote_reset = remote_reset }) t)
    at close requeue back false false t z y h = has_effects-quiet close requeue back t h
    at close requeue back true remote_reset t z y h = from_false_true (sym z)
    at close requeue back false true t z y h = from_false_true (sym y)

tells_if-quiet : (o : Option Event) (s : State) (n : ℕ) → trouble_told o s.session n ≡ 0 → (n ≡ 0 → s.out.queue.base ≡ 0) → Quiet s (tells_if o s)
tells_if-quiet (Some e) s n none base = tells-quiet e s n none base
tells_if-quiet None s n none base = (refl, refl, refl)

-- ---- what composes, puts and judges

composes-quiet : (f : SideFacts) (w : OutFrame) (s : State) → Quiet s (composes f w s)
composes-quiet f w s = at s.feed
  where
    at : (o : Option Feed) → Quiet s (composes f w (record s { feed = o }))
    at (Some d) = (refl, refl, refl)
    at None = (refl, refl, refl)

sends_late-quiet : (k : SocketId) (w : OutFrame) (s : State) → Quiet s (sends_late k w s)
sends_late-quiet k w s = at (is_unnamed w)
  where
    at : (b : Bool) → Quiet s (if b then sends k (w ∷ []) s else s)
    at true = (refl, refl, refl)
    at false = (refl, refl, refl)

puts_on-quiet : (o : Option PartText) (texts : List PartText) (d : Feed) (s : State) → Quiet s (puts_on o texts d s)
puts_on-quiet (Some t) texts d s = sends_late-quiet d.socket t.frame _
puts_on-quiet None texts d s = (refl, refl, refl)

posts-quiet : (o : Option Planned) (s : State) → Quiet s (posts o s)
posts-quiet (Some (to_post m)) s = (refl, refl, refl)
posts-quiet (Some to_dial) s = (refl, refl, refl)
posts-quiet (Some to_go_down) s = (refl, refl, refl)
posts-quiet None s = (refl, refl, refl)

answers-quiet : (f : SideFacts) (k : SocketId) (a : AskFacts) (n : ℕ) (answer : Answer) (unread : List ℕ) (s : State) →
    Quiet s (answers f k a n answer unread s)
answers-quiet f k a n answer unread s = at (session.takes answer)
  where
    at : (b : Bool) → Quiet s (if b then takes_socket f k a n unread s else sends k (replies_of answer) s)
    at true = (refl, refl, refl)
    at false = (refl, refl, refl)

-- ---- the queue

pub next_keeps : (b : Bool) (q : Queue) → let r = if b then q else record q { kept = q.kept ++ take 1 q.waiting; waiting = drop 1 q.waiting } in
    (r.base ≡ q.base) × (r.keeps ≡ q.keeps)
next_keeps true q = (refl, refl)
next_keeps false q = (refl, refl)

next-quiet : (s : State) → Quiet s (queues Next s)
next-quiet s =
    let it = next_keeps (nat_lt s.out.queue.cursor (length s.out.queue.kept)) s.out.queue in
    (it.0, it.1, refl)

sent_keeps : (q : Queue) → q.keeps ≡ true → ((after_sent q).base ≡ q.base) × ((after_sent q).keeps ≡ q.keeps)
sent_keeps q e = at q.keeps e
  where
    at : (b : Bool) → b ≡ true → let r = if b
        then record q { written = max q.written (cursor_number q); cursor = q.cursor + 1 }
        else record q { written = max q.written (cursor_number q); base = q.base + 1; kept = drop 1 q.kept } in
        (r.base ≡ q.base) × (r.keeps ≡ q.keeps)
    at true g = (refl, refl)
    at false g = from_false_true g

sent-quiet : (s : State) → s.out.queue.keeps ≡ true → Quiet s (queues Sent s)
sent-quiet s keeps =
    let it = at (nat_lt s.out.queue.cursor (length s.out.queue.kept)) (sent_keeps s.out.queue keeps) in
    (it.0, it.1, refl)
  where
    at : (b : Bool) → ((after_sent s.out.queue).base ≡ s.out.queue.base) × ((after_sent s.out.queue).keeps ≡ s.out.queue.keeps) →
        ((if b then after_sent s.out.queue else s.out.queue).base ≡ s.out.queue.base) × ((if b then after_sent s.out.queue else s.out.queue).keeps ≡ s.out.queue.keeps)
    at true h = h
    at false h = (refl, refl)

writes-quiet : (f : SideFacts) (n : ℕ) (o : Option Content) (s : State) → s.out.queue.keeps ≡ true → Quiet s (writes_message f n o s)
writes-quiet f n (Some m) s keeps =
    let t = composes f (out.message n s.last m) s in
    let composed = composes-quiet f (out.message n s.last m) s in
    both s t (queues Sent t) composed (sent-quiet t (composed.1 ∙ keeps))
writes-quiet f n None s keeps = (refl, refl, refl)

acked_raises : (q : Queue) (n : ℕ) → n ≤ q.written → let r = if nat_le n q.written then after_acked q n else q in
    (r.base ≡ max q.base n) × (r.keeps ≡ q.keeps)
acked_raises q n h = at (nat_le n q.written) (le-leb n q.written h)
  where
    at : (b : Bool) → b ≡ true → let r = if b then after_acked q n else q in (r.base ≡ max q.base n) × (r.keeps ≡ q.keeps)
    at true e = (refl, refl)
    at false e = from_false_true e

-- ---- a letter

pub handed_letter : (ds : List Delivery) (n life : ℕ) (k : Key) (m : Content) → handed (ds ++ state.letter n life k m ∷ []) ≡ handed ds ++ keyed k m ∷ []
handed_letter [] n life k m = refl
handed_letter (state.letter i u l c ∷ ds) n life k m = ap (λ x. keyed l c ∷ x) (handed_letter ds n life k m)
handed_letter (state.discarded ∷ ds) n life k m = handed_letter ds n life k m
handed_letter (state.remote_reset ∷ ds) n life k m = handed_letter ds n life k m

letters_letter : (ds : List Delivery) (n life : ℕ) (k : Key) (m : Content) → letters (ds ++ state.letter n life k m ∷ []) ≡ letters ds ++ unnumbered m ∷ []
letters_letter [] n life k m = refl
letters_letter (state.letter i u l c ∷ ds) n life k m = ap (λ x. unnumbered c ∷ x) (letters_letter ds n life k m)
letters_letter (state.discarded ∷ ds) n life k m = letters_letter ds n life k m
letters_letter (state.remote_reset ∷ ds) n life k m = letters_letter ds n life k m

only_letter : (ds : List Delivery) (n life : ℕ) (k : Key) (m : Content) → AllByRecursion IsLetter ds → AllByRecursion IsLetter (ds ++ state.letter n life k m ∷ [])
only_letter [] n life k m h = (tt, tt)
only_letter (d ∷ ds) n life k m h = (h.0, only_letter ds n life k m h.1)

-- ---- each entry

abbrev pub base_by : JournalItem → ℕ → ℕ
base_by (item.acked number) base = max base number
base_by _ base = base

abbrev pub handed_by : JournalItem → State → List KeyedMessage
handed_by (item.accepted number key) s = map (keyed key) (brought_on s.last s.feed)
handed_by _ s = []

abbrev pub letters_by : JournalItem → State → List Content
letters_by (item.accepted number key) s = map unnumbered (brought_on s.last s.feed)
letters_by _ s = []

-- where an entry leads
pub record Leads (i : JournalItem) (s t : State) : Type 0 where
  pub base : t.out.queue.base ≡ base_by i s.out.queue.base
  pub keeps : t.out.queue.keeps ≡ s.out.queue.keeps
  pub handed : handed t.deliveries ≡ handed s.deliveries ++ handed_by i s
  pub letters : letters t.deliveries ≡ letters s.deliveries ++ letters_by i s
  pub letters_only : AllByRecursion IsLetter s.deliveries → AllByRecursion IsLetter t.deliveries

-- one that is neither counted nor accepted
quietly : (i : JournalItem) (s t : State) → base_by i s.out.queue.base ≡ s.out.queue.base → handed_by i s ≡ [] → letters_by i s ≡ [] → Quiet s t → Leads i s t
quietly i s t b h l q = record {
  base = q.0 ∙ sym b;
  keeps = q.1;
  handed = ap handed q.2 ∙ sym (append-nil (handed s.deliveries)) ∙ ap (λ x. handed s.deliveries ++ x) (sym h);
  letters = ap letters q.2 ∙ sym (append-nil (letters s.deliveries)) ∙ ap (λ x. letters s.deliveries ++ x) (sym l);
  letters_only = λ only. subst (AllByRecursion IsLetter) (sym q.2) only;
}

-- a text that is accepted, or stays where it is no message
takes_text : (number : ℕ) (key : Key) (s : State) (d : Feed) (x : Option Said) → let t = accepts number key x d s in
    (t.out ≡ s.out) × (handed t.deliveries ≡ handed s.deliveries ++ map (keyed key) (brought_by x))
    × (letters t.deliveries ≡ letters s.deliveries ++ map unnumbered (brought_by x))
    × (AllByRecursion IsLetter s.deliveries → AllByRecursion IsLetter t.deliveries)
takes_text number key s d (Some (brings m)) = (
  refl,
  handed_letter s.deliveries number s.life key m,
  letters_letter s.deliveries number s.life key m,
  only_letter s.deliveries number s.life key m,
)
takes_text number key s d (Some (says c)) = (refl, sym (append-nil (handed s.deliveries)), sym (append-nil (letters s.deliveries)), λ h. h)
takes_text number key s d (Some aborts) = (refl, sym (append-nil (handed s.deliveries)), sym (append-nil (letters s.deliveries)), λ h. h)
takes_text number key s d (Some garbles) = (refl, sym (append-nil (handed s.deliveries)), sym (append-nil (letters s.deliveries)), λ h. h)
takes_text number key s d None = (refl, sym (append-nil (handed s.deliveries)), sym (append-nil (letters s.deliveries)), λ h. h)

pub accepted-leads : (f : SideFacts) (number : ℕ) (key : Key) (s : State) → Leads (item.accepted number key) s (after f (item.accepted number key) s)
accepted-leads f number key s = let it = at s.feed in record {
  base = ap (λ h. h.queue.base) it.0;
  keeps = ap (λ h. h.queue.keeps) it.0;
  handed = it.1;
  letters = it.2;
  letters_only = it.3;
}
  where
    at : (o : Option Feed) → let t = on_feed_at o (λ d. accepts number key (next_said s.last d) d) s in
        (t.out ≡ s.out) × (handed t.deliveries ≡ handed s.deliveries ++ map (keyed key) (brought_on s.last o))
        × (letters t.deliveries ≡ letters s.deliveries ++ map unnumbered (brought_on s.last o))
        × (AllByRecursion IsLetter s.deliveries → AllByRecursion IsLetter t.deliveries)
    at (Some d) = takes_text number key s d (next_said s.last d)
    at None = (refl, sym (append-nil (handed s.deliveries)), sym (append-nil (letters s.deliveries)), λ h. h)

written_at : (s : State) (number : ℕ) (o : Option Feed) → OnFeedAt o (MayAcknowledge s number) → number ≤ s.out.queue.written
written_at s number (Some d) may = may.written
written_at s number None may = absurd may

pub acked-leads : (f : SideFacts) (number : ℕ) (s : State) → Lawful f (item.acked number) s → Leads (item.acked number) s (after f (item.acked number) s)
acked-leads f number s may =
    let it = acked_raises s.out.queue number (written_at s number s.feed may) in
    record {
      base = it.0;
      keeps = it.1;
      handed = sym (append-nil (handed s.deliveries));
      letters = sym (append-nil (letters s.deliveries));
      letters_only = λ d. d;
    }

abbrev accepted_by_both : State → State → ℕ
accepted_by_both s other = length (letters s.deliveries) + length (letters other.deliveries)

none_of_both : (s other : State) → accepted_by_both s other ≡ 0 → length (letters other.deliveries) ≡ 0
none_of_both s other e = omega (arith, e)

pub entry_leads : (f : SideFacts) (i : JournalItem) (s other : State) → IsNoDown i → Lawful f i s → trouble_at f i s other ≡ 0 →
    (length (letters other.deliveries) ≡ 0 → s.out.queue.base ≡ 0) → s.out.queue.keeps ≡ true → Leads i s (after f i s)
entry_leads f i s other not_down lawful none base keeps = each i not_down lawful none
  where
    at_zero : accepted_by_both s other ≡ 0 → s.out.queue.base ≡ 0
    at_zero e = base (none_of_both s other e)

    each : (i : JournalItem) → IsNoDown i → Lawful f i s → trouble_at f i s other ≡ 0 → Leads i s (after f i s)
    each (item.post place planned) nd l z = quietly (item.post place planned) s (after f (item.post place planned) s) refl refl refl (posts-quiet planned (record s { steps = s.steps + 1 }))
    each (item.dial planned) nd l z = quietly (item.dial planned) s (after f (item.dial planned) s) refl refl refl (refl, refl, refl)
    each (item.opened k) nd l z = quietly (item.opened k) s (after f (item.opened k) s) refl refl refl (tells-quiet event.Dialled s (accepted_by_both s other) z at_zero)
    each (item.read k bytes) nd l z = quietly (item.read k bytes) s (after f (item.read k bytes) s) refl refl refl (at s.feed z)
      where
        at : (o : Option Feed) → trouble_told (event_on o (λ d. event_heard f s.session.phase (hears bytes d))) s.session (accepted_by_both s other) ≡ 0 →
            Quiet s (on_feed_at o (λ d. reads f (hears bytes d)) s)
        at (Some d) e =
            let heard = hears bytes d in
            let w = event_heard f s.session.phase heard in
            tells_if-quiet w (with_feed (takes_answer_if w heard) s) (accepted_by_both s other) e at_zero
        at None e = (refl, refl, refl)
    each (item.wrote k bytes) nd l z = quietly (item.wrote k bytes) s (after f (item.wrote k bytes) s) refl refl refl (at s.feed)
      where
        at : (o : Option Feed) → Quiet s (on_feed_at o (puts f bytes) s)
        at (Some d) = puts_on-quiet _ _ d s
        at None = (refl, refl, refl)
    each (item.closed k broken) nd l z = quietly (item.closed k broken) s (after f (item.closed k broken) s) refl refl refl (at (is_on k s.feed) z)
      where
        at : (c : Bool) → trouble_told (if c then Some (event.Faulted (is_waiting s)) else None) s.session (accepted_by_both s other) ≡ 0 →
            Quiet s (if c then breaks s else forgets k s)
        at true e = tells-quiet (event.Faulted (is_waiting s)) s (accepted_by_both s other) e at_zero
        at false e = (refl, refl, refl)
    each (item.judged k a number answer unread trail) nd l z =
        let r = notes k a number answer s in
        let t = tells_if (event_of f a number answer) r in
        quietly (item.judged k a number answer unread trail) s (after f (item.judged k a number answer unread trail) s) refl refl refl
        (both s t (answers f k a number answer unread t) (tells_if-quiet (event_of f a number answer) r (accepted_by_both s other) z at_zero) (answers-quiet f k a number answer unread t))
    each (item.asked true number) nd l z =
        let t = tells (event.AskedIdent (cookie_of f number)) (record s { top = number }) in
        quietly (item.asked true number) s (after f (item.asked true number) s) refl refl refl
        (both s t (writes_ident f number t) (tells-quiet (event.AskedIdent (cookie_of f number)) (record s { top = number }) (accepted_by_both s other) z at_zero)
        (composes-quiet f (out.ident t.session.client_cookie number) t))
    each (item.asked false number) nd l z =
        let t = tells event.AskedReconnect (record s { top = number }) in
        quietly (item.asked false number) s (after f (item.asked false number) s) refl refl refl
        (both s t (writes_reconnect f number t) (tells-quiet event.AskedReconnect (record s { top = number }) (accepted_by_both s other) z at_zero)
        (composes-quiet f (out.reconnect t.session.client_cookie t.session.server_cookie number t.session.connect t.last) t))
    each (item.numbered number) nd l z =
        let t = queues Next s in
        let next = next-quiet s in
        quietly (item.numbered number) s (after f (item.numbered number) s) refl refl refl
        (both s t (writes_message f number (message_at t.out.queue number) t) next (writes-quiet f number (message_at t.out.queue number) t (next.1 ∙ keeps)))
    each (item.accepted number key) nd l z = accepted-leads f number key s
    each (item.acked number) nd l z = acked-leads f number s l
    each (item.obeyed full) nd l z = quietly (item.obeyed full) s (after f (item.obeyed full) s) refl refl refl (at s.feed z)
      where
        at : (o : Option Feed) → trouble_told (event_on o (λ d. Some (event.GotReset full))) s.session (accepted_by_both s other) ≡ 0 →
            Quiet s (on_feed_at o (λ d t. tells (event.GotReset full) (with_feed (takes_answer d) t)) s)
        at (Some d) e = tells-quiet (event.GotReset full) (with_feed (takes_answer d) s) (accepted_by_both s other) e at_zero
        at None e = (refl, refl, refl)
    each (item.down planned step) nd l z = absurd nd
