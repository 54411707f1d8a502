-- What an entry leaves of a side's queue and of what it hands on: a life goes on, in which messages are posted, numbered, acknowledged
-- and accepted, or another one begins, in which what isn't acknowledged is numbered anew or thrown away.
use Rattle.std.proofs.Common.{◌≡◌, ℕ, ◌+◌, ◌≤◌, max, Bool, true, false, not, ◌&&◌, if◌then◌else◌, List, [], ◌∷◌, ◌++◌, length, map, take, ◌⊎◌, inl, inr, Option, Some, None, nat_lt, refl, sym, ap, subst, ◌∙◌, append-nil, append_assoc}
use Rattle.m2_channel.proofs.Quiet.{next_keeps}
use Rattle.m2_channel.specs.Observed.{brought_by, brought_on}
use Rattle.m2_journal.specs.Feeds.{hears, narrowed, finished, next_said, texts_at}
use Rattle.m2_journal.specs.Items as item
use Rattle.m2_journal.specs.Items.{JournalItem}
use Rattle.m2_journal.specs.Lawful.{Lawful, OnFeedAt, MayAcknowledge}
use Rattle.m2_journal.specs.OutFrames as out
use Rattle.m2_journal.specs.OutFrames.{OutFrame, is_unnamed, replies_of}
use Rattle.m2_journal.specs.Plan.{Planned, to_post, to_dial, to_go_down}
use Rattle.m2_journal.specs.Said.{Said, says, brings, aborts, garbles}
use Rattle.m2_journal.specs.SideFacts.{SideFacts, cookie_of}
use Rattle.m2_journal.specs.State as state
use Rattle.m2_journal.specs.State.{PartText, Feed, Delivery, State}
use Rattle.m2_journal.specs.Steps.{accepts, after, answers, breaks, closes, composes, event_at, event_heard, event_of, event_on, forgets, has_effects, heeds, is_on, is_waiting, notes, on_feed_at, posts, puts, puts_on, queues, reads, sends, sends_late, sets_back, takes_answer, takes_socket, tells, tells_if, where_true, with_feed, writes_ident, writes_message, writes_reconnect}
use Rattle.m2_journal.specs.m2_fabric.declared.socket.SocketId.{SocketId}
use Rattle.m2_journal.specs.m2_message.Message.{Content}
use Rattle.m2_journal.specs.m2_policy.declared.path.Key.{Key}
use Rattle.m2_journal.specs.m2_queues.OutQueues.{message_at, newly_numbered}
use Rattle.m2_journal.specs.m2_queues.QueueLaws.{History, Next, Sent, Requeue}
use Rattle.m2_journal.specs.m2_session.SessionLaws as session
use Rattle.m2_journal.specs.m2_session.declared.answer.Answer.{Answer}
use Rattle.m2_journal.specs.m2_session.declared.ask.AskFacts.{AskFacts}
use Rattle.m2_journal.specs.m2_session.declared.event.Effects.{Effects}
use Rattle.m2_journal.specs.m2_session.declared.event.Event.{Event}
use Rattle.m2_journal.specs.m2_session.declared.event.Event.TheVariants as event
use Rattle.m2_journal.specs.m2_session.declared.session.Phase.TheVariants.{Absent, Standby, Wait}
use Rattle.m2_journal.specs.m2_session.declared.session.Session.{Session}
use Rattle.m2_journal.specs.m2_session.Steps as step
use Rattle.m2_journal.specs.m2_session.Steps.{step_of, fault}
use Rattle.m2_journal.proofs.m2_lemmas.Booleans.{from_false_true}
use Rattle.m2_never_reset.specs.Orders.{posted_in}
use Rattle.m2_lives.specs.Observed.{shown_by_sender, shown_by_reader}
use Rattle.m2_lives.proofs.Entries.{acked_base, past_base, sets_back_told}

-- ---- what stays

-- of the queue's history what was posted, dropped and numbered, and what is acknowledged; and what was handed on
abbrev pub KeepsHistory : State → State → Type 0
KeepsHistory s t = (t.out.posted ≡ s.out.posted) × (t.out.dropped ≡ s.out.dropped) × (t.out.numbered ≡ s.out.numbered) × (t.out.queue.base ≡ s.out.queue.base) × (t.deliveries ≡ s.deliveries)

history_trans : (r s t : State) → KeepsHistory r s → KeepsHistory s t → KeepsHistory r t
history_trans r s t h k = (k.0 ∙ h.0, k.1 ∙ h.1, k.2 ∙ h.2, k.3 ∙ h.3, k.4 ∙ h.4)

history_none : (s : State) → KeepsHistory s s
history_none s = (refl, refl, refl, refl, refl)

-- ---- what the session has it do

-- whether numbers are set back, and whether messages are thrown away
abbrev pub Turned : (back thrown : Bool) → History → History → Type 0
Turned false false h k = (k.posted ≡ h.posted) × (k.dropped ≡ h.dropped) × (k.numbered ≡ h.numbered) × (k.queue.base ≡ h.queue.base)
Turned true false h k = (k.posted ≡ h.posted) × (k.dropped ≡ h.dropped ++ take h.queue.base h.numbered) × (k.queue.base ≡ 0)
Turned false true h k = (k.posted ≡ []) × (k.dropped ≡ []) × (k.numbered ≡ []) × (k.queue.base ≡ 0)
Turned true true h k = (k.posted ≡ []) × (k.dropped ≡ []) × (k.numbered ≡ []) × (k.queue.base ≡ 0)

abbrev pub thrown_by : (thrown told : Bool) → List Delivery
thrown_by true true = state.discarded ∷ state.remote_reset ∷ []
thrown_by true false = state.discarded ∷ []
thrown_by false true = state.remote_reset ∷ []
thrown_by false false = []

abbrev pub Turns : (back thrown told : Bool) → State → State → Type 0
Turns back thrown told s t = Turned back thrown s.out t.out × (t.deliveries ≡ s.deliveries ++ thrown_by thrown told)

closes_keep : (b : Bool) (s : State) → KeepsHistory s (where_true b closes s)
closes_keep false s = history_none s
closes_keep true s = at s.feed
  where
    at : (o : Option Feed) → KeepsHistory s (closes (record s { feed = o }))
    at (Some d) = (refl, refl, refl, refl, refl)
    at None = (refl, refl, refl, refl, refl)

requeues_keep : (b : Bool) (s : State) → KeepsHistory s (where_true b (queues Requeue) s)
requeues_keep true s = (refl, refl, refl, refl, refl)
requeues_keep false s = history_none s

sets_back_turns : (s : State) → Turns true false false s (sets_back s)
sets_back_turns s = at s.feed
  where
    at : (o : Option Feed) → Turns true false false s (sets_back (record s { feed = o }))
    at (Some d) = ((refl, refl, refl), sym (append-nil s.deliveries))
    at None = ((refl, refl, refl), sym (append-nil s.deliveries))

-- what is set back and then thrown away
sets_back_hands : (s : State) → (sets_back s).deliveries ≡ s.deliveries
sets_back_hands s = (sets_back_turns s).1 ∙ append-nil s.deliveries

both_behind : (ds es : List Delivery) → es ≡ ds → (es ++ state.discarded ∷ []) ++ state.remote_reset ∷ [] ≡ ds ++ state.discarded ∷ state.remote_reset ∷ []
both_behind ds es e = ap (λ l. (l ++ state.discarded ∷ []) ++ state.remote_reset ∷ []) e ∙ append_assoc ds (state.discarded ∷ []) (state.remote_reset ∷ [])

effects_turn : (close requeue back thrown told : Bool) (s : State) →
    Turns back thrown told s (has_effects (record { close = close; requeue = requeue; set_back = back; discard = thrown; remote_reset = told }) s)
effects_turn close requeue back thrown told s = at back thrown told
  where
    u : State
    u = where_true requeue (queues Requeue) (where_true close closes s)

    same : KeepsHistory s u
    same = history_trans s (where_true close closes s) u (closes_keep close s) (requeues_keep requeue (where_true close closes s))

    low : Turns true false false s (sets_back u)
    low = let it = sets_back_turns u in (
      (
        it.0.0 ∙ same.0,
        it.0.1 ∙ ap (λ l. l ++ take u.out.queue.base u.out.numbered) same.1 ∙ ap (λ n. s.out.dropped ++ take n u.out.numbered) same.3 ∙ ap (λ l. s.out.dropped ++ take s.out.queue.base l) same.2,
        it.0.2,
      ),
      it.1 ∙ ap (λ l. l ++ []) same.4,
    )

    hands : (sets_back u).deliveries ≡ s.deliveries
    hands = sets_back_hands u ∙ same.4

    at : (back thrown told : Bool) → Turns back thrown told s (has_effects (record { close = close; requeue = requeue; set_back = back; discard = thrown; remote_reset = told }) s)
    at false false false = ((same.0, same.1, same.2, same.3), same.4 ∙ sym (append-nil s.deliveries))
    at false false true = ((same.0, same.1, same.2, same.3), ap (λ l. l ++ state.remote_reset ∷ []) same.4)
    at true false false = low
    at true false true = (low.0, ap (λ l. l ++ state.remote_reset ∷ []) hands)
    at false true false = ((refl, refl, refl, refl), ap (λ l. l ++ state.discarded ∷ []) same.4)
    at false true true = ((refl, refl, refl, refl), both_behind s.deliveries u.deliveries same.4)
    at true true false = ((refl, refl, refl, refl), ap (λ l. l ++ state.discarded ∷ []) hands)
    at true true true = ((refl, refl, refl, refl), both_behind s.deliveries (sets_back u).deliveries hands)

-- what a session is told, if anything
abbrev pub Told : Option Event → Session → State → State → Type 0
Told (Some e) q s t = let o = (step_of q e).effects in Turns o.set_back o.discard o.remote_reset s t
Told None q s t = KeepsHistory s t

tells_turn : (e : Event) (s : State) → Told (Some e) s.session s (tells e s)
tells_turn e s =
    let o = (step_of s.session e).effects in effects_turn o.close o.requeue o.set_back o.discard o.remote_reset (record s { session = (step_of s.session e).session })

heeds_told : (o : Option Event) (d : Feed) (s : State) → Told o s.session s (heeds o d s)
heeds_told (Some e) d s = tells_turn e (with_feed (takes_answer d) s)
heeds_told None d s = (refl, refl, refl, refl, refl)

-- what changes neither the queue nor what was handed on
abbrev SameOut : State → State → Type 0
SameOut t u = (u.out ≡ t.out) × (u.deliveries ≡ t.deliveries)

told_on : (o : Option Event) (q : Session) (s t u : State) → SameOut t u → Told o q s t → Told o q s u
told_on (Some e) q s t u same h =
    let o = (step_of q e).effects in
    (subst (Turned o.set_back o.discard s.out) (sym same.0) h.0, same.1 ∙ h.1)
told_on None q s t u same h =
    (ap (λ (k : History). k.posted) same.0 ∙ h.0, ap (λ (k : History). k.dropped) same.0 ∙ h.1, ap (λ (k : History). k.numbered) same.0 ∙ h.2, ap (λ (k : History). k.queue.base) same.0 ∙ h.3, same.1 ∙ h.4)

-- ---- a session that isn't lossy throws away only where it sets numbers back

fault_keeps : (q : Session) (waits : Bool) → q.policy.lossy ≡ false → ((fault q waits).1.discard ≡ false) × ((fault q waits).1.remote_reset ≡ false)
fault_keeps q waits e = at q.policy.lossy q.policy.server (q.policy.standby && not waits) e
  where
    at : (a b c : Bool) → a ≡ false → let r : Session × Effects =
        if a then (record q { phase = Absent; client_cookie = 0; server_cookie = 0 }, record step.closes { discard = true })
        else if b then (record q { phase = Standby }, step.closes)
        else if c then (record q { phase = Standby }, step.closes) else (record q { phase = Wait }, step.closes) in
        (r.1.discard ≡ false) × (r.1.remote_reset ≡ false)
    at true b c z = from_false_true (sym z)
    at false true c z = (refl, refl)
    at false false true z = (refl, refl)
    at false false false z = (refl, refl)

keeps_all : (q : Session) (e : Event) → q.policy.lossy ≡ false → (step_of q e).effects.set_back ≡ false → ((step_of q e).effects.discard ≡ false) × ((step_of q e).effects.remote_reset ≡ false)
keeps_all q event.Dialled l b = (refl, refl)
keeps_all q (event.AskedIdent cookie) l b = (refl, refl)
keeps_all q event.AskedReconnect l b = (refl, refl)
keeps_all q (event.GotServerIdent cookie global) l b = (refl, refl)
keeps_all q event.GotReconnectOk l b = (refl, refl)
keeps_all q (event.GotReset true) l b = from_false_true (sym b)
keeps_all q (event.GotReset false) l b = (refl, refl)
keeps_all q (event.GotRetry number) l b = (refl, refl)
keeps_all q (event.GotRetryGlobal number) l b = (refl, refl)
keeps_all q event.GotWait l b = (refl, refl)
keeps_all q (event.TookIdent full client server global) l b = from_false_true (sym b)
keeps_all q (event.TookReconnect global connect) l b = (refl, refl)
keeps_all q event.Pending l b = (refl, refl)
keeps_all q (event.Faulted waits) l b = fault_keeps q waits l
keeps_all q event.MarkedDown l b = from_false_true (sym b)

-- ---- an entry

abbrev pub base_by : JournalItem → ℕ → ℕ
base_by (item.acked number) base = max base number
base_by _ base = base

abbrev pub letters_by : JournalItem → State → List Delivery
letters_by (item.accepted number key) s = map (λ m. state.letter number s.life key m) (brought_on s.last s.feed)
letters_by _ s = []

-- a life goes on
pub record Stays (f : SideFacts) (i : JournalItem) (s t : State) : Type 0 where
  pub none : sets_back_told (event_at f i s) s.session ≡ false
  pub posted : t.out.posted ≡ s.out.posted ++ posted_in i
  pub dropped : t.out.dropped ≡ s.out.dropped
  pub more : List Content
  pub numbered : t.out.numbered ≡ s.out.numbered ++ more
  pub base : t.out.queue.base ≡ base_by i s.out.queue.base
  pub deliveries : t.deliveries ≡ s.deliveries ++ letters_by i s

-- it shows nothing else
pub record IsPlain (i : JournalItem) (s : State) : Type 0 where
  pub posts : posted_in i ≡ []
  pub sends : (g : SideFacts) → shown_by_sender g i s ≡ []
  pub reads : shown_by_reader i s ≡ []
  pub base : base_by i s.out.queue.base ≡ s.out.queue.base
  pub letters : letters_by i s ≡ []

-- another one begins
pub record Begins (f : SideFacts) (i : JournalItem) (s t : State) : Type 0 where
  pub event : Event
  pub told : event_at f i s ≡ Some event
  pub back : (step_of s.session event).effects.set_back ≡ true
  pub turned : Turned true (step_of s.session event).effects.discard s.out t.out
  pub deliveries : t.deliveries ≡ s.deliveries ++ thrown_by (step_of s.session event).effects.discard (step_of s.session event).effects.remote_reset
  pub plain : IsPlain i s

history_stays : (f : SideFacts) (i : JournalItem) (s t : State) → sets_back_told (event_at f i s) s.session ≡ false → IsPlain i s → KeepsHistory s t → Stays f i s t
history_stays f i s t none p h = record {
  none = none;
  posted = h.0 ∙ sym (append-nil s.out.posted) ∙ ap (λ l. s.out.posted ++ l) (sym p.posts);
  dropped = h.1;
  more = [];
  numbered = h.2 ∙ sym (append-nil s.out.numbered);
  base = h.3 ∙ sym p.base;
  deliveries = h.4 ∙ sym (append-nil s.deliveries) ∙ ap (λ l. s.deliveries ++ l) (sym p.letters);
}

by_event : (f : SideFacts) (i : JournalItem) (s t : State) → s.session.policy.lossy ≡ false → IsPlain i s → (o : Option Event) → event_at f i s ≡ o → Told o s.session s t → Stays f i s t ⊎ Begins f i s t
by_event f i s t lossless p None e h = inl (history_stays f i s t (ap (λ o. sets_back_told o s.session) e) p h)
by_event f i s t lossless p (Some w) e h = at (step_of s.session w).effects.set_back refl h
  where
    o : Effects
    o = (step_of s.session w).effects

    at : (b : Bool) → o.set_back ≡ b → Turns b o.discard o.remote_reset s t → Stays f i s t ⊎ Begins f i s t
    at true z k = inr (record { event = w; told = e; back = z; turned = k.0; deliveries = k.1; plain = p })
    at false z k =
        let kept = keeps_all s.session w lossless z in
        let it = subst (λ b. Turns false b o.remote_reset s t) kept.0 k in
        let is = subst (λ b. Turns false false b s t) kept.1 it in
        inl (history_stays f i s t (ap (λ x. sets_back_told x s.session) e ∙ z) p (is.0.0, is.0.1, is.0.2, is.0.3, is.1 ∙ append-nil s.deliveries))

-- ---- what composes, puts and judges

composes_same : (f : SideFacts) (w : OutFrame) (s : State) → SameOut s (composes f w s)
composes_same f w s = at s.feed
  where
    at : (o : Option Feed) → SameOut s (composes f w (record s { feed = o }))
    at (Some d) = (refl, refl)
    at None = (refl, refl)

sends_late_same : (k : SocketId) (w : OutFrame) (s : State) → SameOut s (sends_late k w s)
sends_late_same k w s = at (is_unnamed w)
  where
    at : (b : Bool) → SameOut s (if b then sends k (w ∷ []) s else s)
    at true = (refl, refl)
    at false = (refl, refl)

puts_on_same : (o : Option PartText) (texts : List PartText) (d : Feed) (s : State) → SameOut s (puts_on o texts d s)
puts_on_same (Some t) texts d s = sends_late_same d.socket t.frame _
puts_on_same None texts d s = (refl, refl)

answers_same : (f : SideFacts) (k : SocketId) (a : AskFacts) (n : ℕ) (answer : Answer) (unread : List ℕ) (s : State) → SameOut s (answers f k a n answer unread s)
answers_same f k a n answer unread s = at (session.takes answer)
  where
    at : (b : Bool) → SameOut s (if b then takes_socket f k a n unread s else sends k (replies_of answer) s)
    at true = (refl, refl)
    at false = (refl, refl)

history_same : (s t : State) → SameOut s t → KeepsHistory s t
history_same s t h = (ap (λ (k : History). k.posted) h.0, ap (λ (k : History). k.dropped) h.0, ap (λ (k : History). k.numbered) h.0, ap (λ (k : History). k.queue.base) h.0, h.1)

-- ---- messages are numbered, acknowledged and accepted

-- what is left but for the numbered ones
abbrev Numbered : State → State → List Content → Type 0
Numbered s t more = (t.out.posted ≡ s.out.posted) × (t.out.dropped ≡ s.out.dropped) × (t.out.numbered ≡ s.out.numbered ++ more) × (t.out.queue.base ≡ s.out.queue.base) × (t.deliveries ≡ s.deliveries)

numbered_quiet : (f : SideFacts) (n : ℕ) (s : State) → s.out.queue.keeps ≡ true → Numbered s (after f (item.numbered n) s) (newly_numbered s.out.queue)
numbered_quiet f n s keeps = at (message_at u.out.queue n)
  where
    u : State
    u = queues Next s

    base : (u.out.queue.base ≡ s.out.queue.base) × (u.out.queue.keeps ≡ s.out.queue.keeps)
    base = next_keeps (nat_lt s.out.queue.cursor (length s.out.queue.kept)) s.out.queue

    at : (o : Option Content) → Numbered s (writes_message f n o u) (newly_numbered s.out.queue)
    at None = (refl, refl, refl, base.0, refl)
    at (Some m) =
        let c = composes_same f (out.message n u.last m) u in
        let v = composes f (out.message n u.last m) u in
        let low : (queues Sent v).out.queue.base ≡ u.out.queue.base = past_base v.out.queue (ap (λ (k : History). k.queue.keeps) c.0 ∙ base.1 ∙ keeps) ∙ ap (λ (k : History). k.queue.base) c.0 in
        (ap (λ (k : History). k.posted) c.0, ap (λ (k : History). k.dropped) c.0, ap (λ (k : History). k.numbered) c.0, low ∙ base.0, c.1)

written_at : (s : State) (n : ℕ) (o : Option Feed) → OnFeedAt o (MayAcknowledge s n) → n ≤ s.out.queue.written
written_at s n (Some d) may = may.written
written_at s n None may = absurd may

accepts_hand : (n : ℕ) (key : Key) (s : State) (o : Option Feed) → let t = on_feed_at o (λ d. accepts n key (next_said s.last d) d) s in
    (t.out ≡ s.out) × (t.deliveries ≡ s.deliveries ++ map (λ m. state.letter n s.life key m) (brought_on s.last o))
accepts_hand n key s None = (refl, sym (append-nil s.deliveries))
accepts_hand n key s (Some d) = at (next_said s.last d)
  where
    at : (x : Option Said) → let t = accepts n key x d s in (t.out ≡ s.out) × (t.deliveries ≡ s.deliveries ++ map (λ m. state.letter n s.life key m) (brought_by x))
    at (Some (brings m)) = (refl, refl)
    at (Some (says c)) = (refl, sym (append-nil s.deliveries))
    at (Some aborts) = (refl, sym (append-nil s.deliveries))
    at (Some garbles) = (refl, sym (append-nil s.deliveries))
    at None = (refl, sym (append-nil s.deliveries))

posts_stay : (f : SideFacts) (place : ℕ) (o : Option Planned) (s : State) → Stays f (item.post place o) s (posts o (record s { steps = s.steps + 1 }))
posts_stay f place (Some (to_post m)) s = record { none = refl; posted = refl; dropped = refl; more = []; numbered = sym (append-nil s.out.numbered); base = refl; deliveries = sym (append-nil s.deliveries) }
posts_stay f place (Some to_dial) s = record { none = refl; posted = sym (append-nil s.out.posted); dropped = refl; more = []; numbered = sym (append-nil s.out.numbered); base = refl; deliveries = sym (append-nil s.deliveries) }
posts_stay f place (Some to_go_down) s = record { none = refl; posted = sym (append-nil s.out.posted); dropped = refl; more = []; numbered = sym (append-nil s.out.numbered); base = refl; deliveries = sym (append-nil s.deliveries) }
posts_stay f place None s = record { none = refl; posted = sym (append-nil s.out.posted); dropped = refl; more = []; numbered = sym (append-nil s.out.numbered); base = refl; deliveries = sym (append-nil s.deliveries) }

-- ---- each entry

-- one that posts, numbers, accepts or acknowledges
abbrev pub MovesMessages : JournalItem → Type 0
MovesMessages (item.post place planned) = Unit {0}
MovesMessages (item.numbered n) = Unit {0}
MovesMessages (item.accepted n key) = Unit {0}
MovesMessages (item.acked n) = Unit {0}
MovesMessages _ = ⊥

-- any other one does what the session is told
pub record DoesAsTold (f : SideFacts) (i : JournalItem) (s : State) : Type 0 where
  pub plain : IsPlain i s
  pub told : Told (event_at f i s) s.session s (after f i s)

as_told : (f : SideFacts) (i : JournalItem) (s : State) → posted_in i ≡ [] → ((g : SideFacts) → shown_by_sender g i s ≡ []) → shown_by_reader i s ≡ [] → base_by i s.out.queue.base ≡ s.out.queue.base → letters_by i s ≡ [] →
    Told (event_at f i s) s.session s (after f i s) → MovesMessages i ⊎ DoesAsTold f i s
as_told f i s p q r b l t = inr (record { plain = record { posts = p; sends = q; reads = r; base = b; letters = l }; told = t })

pub moves_or_told : (f : SideFacts) (s : State) (i : JournalItem) → MovesMessages i ⊎ DoesAsTold f i s
moves_or_told f s (item.post place planned) = inl tt
moves_or_told f s (item.numbered n) = inl tt
moves_or_told f s (item.accepted n key) = inl tt
moves_or_told f s (item.acked n) = inl tt
moves_or_told f s (item.dial planned) = as_told f (item.dial planned) s refl (λ g. refl) refl refl refl (refl, refl, refl, refl, refl)
moves_or_told f s (item.opened k) = as_told f (item.opened k) s refl (λ g. refl) refl refl refl (tells_turn event.Dialled s)
moves_or_told f s (item.read k bytes) = as_told f (item.read k bytes) s refl (λ g. refl) refl refl refl (at s.feed)
  where
    at : (o : Option Feed) → Told (event_on o (λ d. event_heard f s.session.phase (hears bytes d))) s.session s (on_feed_at o (λ d. reads f (hears bytes d)) s)
    at (Some d) = heeds_told (event_heard f s.session.phase (hears bytes d)) (hears bytes d) s
    at None = history_none s
moves_or_told f s (item.wrote k bytes) = as_told f (item.wrote k bytes) s refl (λ g. refl) refl refl refl (at s.feed)
  where
    at : (o : Option Feed) → KeepsHistory s (on_feed_at o (puts f bytes) s)
    at (Some d) = history_same s (puts f bytes d s) (puts_on_same (finished (narrowed bytes (texts_at f s d))) (narrowed bytes (texts_at f s d)) d s)
    at None = history_none s
moves_or_told f s (item.closed k broken) = as_told f (item.closed k broken) s refl (λ g. refl) refl refl refl (at (is_on k s.feed))
  where
    at : (b : Bool) → Told (if b then Some (event.Faulted (is_waiting s)) else None) s.session s (if b then breaks s else forgets k s)
    at true = tells_turn (event.Faulted (is_waiting s)) s
    at false = (refl, refl, refl, refl, refl)
moves_or_told f s (item.judged k a n answer unread trail) =
    let t = tells_if (event_of f a n answer) (notes k a n answer s) in
    as_told f (item.judged k a n answer unread trail) s refl (λ g. refl) refl refl refl
    (told_on (event_of f a n answer) s.session s t (answers f k a n answer unread t) (answers_same f k a n answer unread t) (noted (event_of f a n answer)))
  where
    noted : (o : Option Event) → Told o s.session s (tells_if o (notes k a n answer s))
    noted (Some e) = tells_turn e (notes k a n answer s)
    noted None = (refl, refl, refl, refl, refl)
moves_or_told f s (item.asked true n) =
    let t = tells (event.AskedIdent (cookie_of f n)) (record s { top = n }) in
    as_told f (item.asked true n) s refl (λ g. refl) refl refl refl
    (told_on (Some (event.AskedIdent (cookie_of f n))) s.session s t (writes_ident f n t) (composes_same f (out.ident t.session.client_cookie n) t) (tells_turn (event.AskedIdent (cookie_of f n)) (record s { top = n })))
moves_or_told f s (item.asked false n) =
    let t = tells event.AskedReconnect (record s { top = n }) in
    as_told f (item.asked false n) s refl (λ g. refl) refl refl refl
    (told_on (Some event.AskedReconnect) s.session s t (writes_reconnect f n t) (composes_same f (out.reconnect t.session.client_cookie t.session.server_cookie n t.session.connect t.last) t)
    (tells_turn event.AskedReconnect (record s { top = n })))
moves_or_told f s (item.obeyed full) = as_told f (item.obeyed full) s refl (λ g. refl) refl refl refl (at s.feed)
  where
    at : (o : Option Feed) → Told (event_on o (λ d. Some (event.GotReset full))) s.session s (on_feed_at o (λ d t. tells (event.GotReset full) (with_feed (takes_answer d) t)) s)
    at (Some d) = tells_turn (event.GotReset full) (with_feed (takes_answer d) s)
    at None = history_none s
moves_or_told f s (item.down planned step) = as_told f (item.down planned step) s refl (λ g. refl) refl refl refl (tells_turn event.MarkedDown s)

-- what such an entry hands on, whatever the policy
pub moves_hand : (f : SideFacts) (s : State) (i : JournalItem) → MovesMessages i → (after f i s).deliveries ≡ s.deliveries ++ letters_by i s
moves_hand f s (item.post place planned) m = (posts_stay f place planned s).deliveries
moves_hand f s (item.acked n) m = sym (append-nil s.deliveries)
moves_hand f s (item.accepted n key) m = (accepts_hand n key s s.feed).1
moves_hand f s (item.dial planned) m = absurd m
moves_hand f s (item.opened k) m = absurd m
moves_hand f s (item.read k bytes) m = absurd m
moves_hand f s (item.wrote k bytes) m = absurd m
moves_hand f s (item.closed k broken) m = absurd m
moves_hand f s (item.judged k a n answer unread trail) m = absurd m
moves_hand f s (item.asked ident n) m = absurd m
moves_hand f s (item.obeyed full) m = absurd m
moves_hand f s (item.down planned step) m = absurd m
moves_hand f s (item.numbered n) m = at (message_at (queues Next s).out.queue n) ∙ sym (append-nil s.deliveries)
  where
    at : (o : Option Content) → (writes_message f n o (queues Next s)).deliveries ≡ s.deliveries
    at None = refl
    at (Some m) = (composes_same f (out.message n s.last m) (queues Next s)).1

module _ (f : SideFacts) (s : State) (lossless : s.session.policy.lossy ≡ false) (keeps : s.out.queue.keeps ≡ true) where
  abbrev Leads : JournalItem → Type 0
  Leads i = Stays f i s (after f i s) ⊎ Begins f i s (after f i s)

  moves_stay : (i : JournalItem) → MovesMessages i → Lawful f i s → Leads i
  moves_stay (item.post place planned) m l = inl (posts_stay f place planned s)
  moves_stay (item.numbered n) m l =
      let it = numbered_quiet f n s keeps in
      inl (record {
        none = refl;
        posted = it.0 ∙ sym (append-nil s.out.posted);
        dropped = it.1;
        more = newly_numbered s.out.queue;
        numbered = it.2;
        base = it.3;
        deliveries = it.4 ∙ sym (append-nil s.deliveries);
      })
  moves_stay (item.accepted n key) m l =
      let it = accepts_hand n key s s.feed in
      inl (record {
        none = refl;
        posted = ap (λ (h : History). h.posted) it.0 ∙ sym (append-nil s.out.posted);
        dropped = ap (λ (h : History). h.dropped) it.0;
        more = [];
        numbered = ap (λ (h : History). h.numbered) it.0 ∙ sym (append-nil s.out.numbered);
        base = ap (λ (h : History). h.queue.base) it.0;
        deliveries = it.1;
      })
  moves_stay (item.acked n) m l = inl (record {
    none = refl;
    posted = sym (append-nil s.out.posted);
    dropped = refl;
    more = [];
    numbered = sym (append-nil s.out.numbered);
    base = acked_base s.out.queue n (written_at s n s.feed l);
    deliveries = sym (append-nil s.deliveries);
  })
  moves_stay (item.dial planned) m l = absurd m
  moves_stay (item.opened k) m l = absurd m
  moves_stay (item.read k bytes) m l = absurd m
  moves_stay (item.wrote k bytes) m l = absurd m
  moves_stay (item.closed k broken) m l = absurd m
  moves_stay (item.judged k a n answer unread trail) m l = absurd m
  moves_stay (item.asked ident n) m l = absurd m
  moves_stay (item.obeyed full) m l = absurd m
  moves_stay (item.down planned step) m l = absurd m

  pub entry_turns : (i : JournalItem) → Lawful f i s → Leads i
  entry_turns i l = at (moves_or_told f s i)
    where
      at : MovesMessages i ⊎ DoesAsTold f i s → Leads i
      at (inl m) = moves_stay i m l
      at (inr t) = by_event f i s (after f i s) lossless t.plain (event_at f i s) refl t.told
