-- Where an acknowledgement is owed on a feed, one of the last accepted number may be put there.
use Rattle.std.proofs.Common.{◌≡◌, ℕ, ◌+◌, ◌≤◌, Bool, true, false, not, List, [], ◌∷◌, Option, Some, None, refl, subst, arith}
use Rattle.std.specs.Prelude.{if◌then◌else◌, ◌&&◌}
use Rattle.m2_session.specs.declared.ask.AskFacts.{AskFacts}
use Rattle.m2_fabric.specs.declared.socket.SocketId.{SocketId}
use Rattle.m2_handshake.specs.Course.{course_of}
use Rattle.m2_message.specs.Message.{Content}
use Rattle.m2_policy.specs.declared.path.Key.{Key}
use Rattle.m2_session.specs.declared.answer.Answer.{Answer}
use Rattle.m2_session.specs.declared.event.Event.{Event}
use Rattle.m2_session.specs.declared.event.Event.TheVariants as event
use Rattle.m2_session.specs.SessionLaws as session
use Rattle.m2_session.specs.Steps.{step_of}
use Rattle.m2_journal.specs.Feeds.{goes_on, hears, silent_feed, taken_feed, first_owed, next_said}
use Rattle.m2_journal.specs.Items as items
use Rattle.m2_journal.specs.Items.{JournalItem}
use Rattle.m2_journal.specs.Laws.{IfFed, CanBePaid, AcknowledgementsCanBePaid}
use Rattle.m2_journal.specs.Lawful.{Lawful, OnFeedAt, MayAccept, IsNext}
use Rattle.m2_journal.specs.OutFrames as out
use Rattle.m2_journal.specs.OutFrames.{OutFrame, acknowledges, is_unnamed, keepalives_answered, replies_of}
use Rattle.m2_journal.specs.Plan.{Planned, to_post, to_dial, to_go_down}
use Rattle.m2_journal.specs.Replay.{AreLawful, after_items}
use Rattle.m2_queues.specs.QueueLaws.{Requeue}
use Rattle.m2_journal.specs.Said.{Said, says, brings, aborts, garbles}
use Rattle.m2_journal.specs.SideFacts.{SideFacts, cookie_of, opener_half}
use Rattle.m2_journal.specs.State.{PartText, Feed, State, start}
use Rattle.m2_journal.specs.Steps.{after, where_true, closes, sets_back, discards, tells_of_reset, has_effects, tells, tells_if, on_feed_at, posts, composes, sends, sends_late, puts_on, puts, reads, event_heard, takes_answer_if, breaks, forgets, is_on, writes_message, accepts, answers, notes, judges, takes_answer, takes_socket, with_feed, is_waiting, event_of, queues, acceptance, acknowledged_by}
use Rattle.m2_journal.proofs.SameFeed.{SameFeed, goes_on-same, hears-same, takes_answer_if-same}

-- of a feed, by the last accepted number and whether an acknowledgement is owed
abbrev Pays : ℕ → Bool → Feed → Type 0
Pays last owes d = (d.floor ≤ last) × (owes ≡ true → first_owed d ≤ last)

abbrev PaysOn : Option Feed → ℕ → Bool → Type 0
PaysOn o last owes = IfFed o (Pays last owes)

abbrev Sound : State → Type 0
Sound s = PaysOn s.feed s.last s.owes

-- ---- feeds

owed_at : (owed : Bool) (n : ℕ) → (owed ≡ true → (if owed then n else n + 1) ≤ n)
owed_at true n e = omega arith
owed_at false n e = absurd (apart e)
  where
    apart : false ≡ true → ⊥
    apart e = subst (λ b. elim b as (λ _. Type 0) [ false ↦ Unit {0} | true ↦ ⊥ ]) e tt

-- a feed that begins, or on which a text was just put
fresh : (d : Feed) (last : ℕ) (owes : Bool) → d.floor ≡ last → d.owed ≡ owes → Pays last owes d
fresh d last owes e g = (rw e (omega arith), λ h. rw (e, g) (owed_at owes last h))

stays : (d e : Feed) (last : ℕ) (owes : Bool) → SameFeed d e → Pays last owes d → Pays last owes e
stays d e last owes same h = (rw same.2 h.0, λ o. rw (same.2, same.3) (h.1 o))

-- ---- effects

where_true-sound : (b : Bool) (change : State → State) (s : State) → ((t : State) → Sound t → Sound (change t)) → Sound s → Sound (where_true b change s)
where_true-sound true change s keeps h = keeps s h
where_true-sound false change s keeps h = h

closes-sound : (s : State) → Sound s → Sound (closes s)
closes-sound s h = at s.feed h
  where
    at : (o : Option Feed) → PaysOn o s.last s.owes → Sound (closes (record s { feed = o }))
    at (Some d) k = tt
    at None k = tt

sets_back-sound : (s : State) → Sound s → Sound (sets_back s)
sets_back-sound s h = at s.feed
  where
    at : (o : Option Feed) → Sound (sets_back (record s { feed = o }))
    at (Some d) = fresh (record d { floor = 0; owed = s.owes }) 0 s.owes refl refl
    at None = tt

has_effects-sound : (close requeue back discard remote_reset : Bool) (s : State) → Sound s →
    Sound (has_effects (record { close = close; requeue = requeue; set_back = back; discard = discard; remote_reset = remote_reset }) s)
has_effects-sound close requeue back discard remote_reset s h =
    where_true-sound remote_reset tells_of_reset _ (λ t k. k)
    (where_true-sound discard discards _ (λ t k. k)
    (where_true-sound back sets_back _ sets_back-sound
    (where_true-sound requeue (queues Requeue) _ (λ t k. k)
    (where_true-sound close closes s closes-sound h))))

tells-sound : (e : Event) (s : State) → Sound s → Sound (tells e s)
tells-sound e s h =
    let o = (step_of s.session e).effects in
    has_effects-sound o.close o.requeue o.set_back o.discard o.remote_reset (record s { session = (step_of s.session e).session }) h

tells_if-sound : (o : Option Event) (s : State) → Sound s → Sound (tells_if o s)
tells_if-sound (Some e) s h = tells-sound e s h
tells_if-sound None s h = h

-- ---- what composes and sends

composes-sound : (f : SideFacts) (w : OutFrame) (s : State) → Sound s → Sound (composes f w s)
composes-sound f w s h = at s.feed h
  where
    at : (o : Option Feed) → PaysOn o s.last s.owes → Sound (composes f w (record s { feed = o }))
    at (Some d) k = k
    at None k = tt

sends_late-sound : (k : SocketId) (w : OutFrame) (s : State) → Sound s → Sound (sends_late k w s)
sends_late-sound k w s h = at (is_unnamed w)
  where
    at : (b : Bool) → Sound (if b then sends k (w ∷ []) s else s)
    at true = h
    at false = h

puts_on-sound : (o : Option PartText) (texts : List PartText) (d : Feed) (s : State) → Pays s.last s.owes d → Sound (puts_on o texts d s)
puts_on-sound (Some t) texts d s h = sends_late-sound d.socket t.frame _ (fresh (record d { texts = []; floor = s.last; owed = s.owes && not (acknowledges t.frame); answered = d.answered + keepalives_answered t.frame }) s.last (s.owes && not (acknowledges t.frame)) refl refl)
puts_on-sound None texts d s h = h

writes_message-sound : (f : SideFacts) (n : ℕ) (o : Option Content) (s : State) → Sound s → Sound (writes_message f n o s)
writes_message-sound f n (Some m) s h = composes-sound f (out.message n s.last m) s h
writes_message-sound f n None s h = h

posts-sound : (o : Option Planned) (s : State) → Sound s → Sound (posts o s)
posts-sound (Some (to_post m)) s h = h
posts-sound (Some to_dial) s h = h
posts-sound (Some to_go_down) s h = h
posts-sound None s h = h

-- ---- what accepts and judges

-- only a message with the number after the last one is accepted
rises : (last floor : ℕ) (owed : Bool) → floor ≤ last → (floor ≤ last + 1) × (true ≡ true → (if owed then floor else floor + 1) ≤ last + 1)
rises last floor true h = (omega (arith, h), λ e. omega (arith, h))
rises last floor false h = (omega (arith, h), λ e. omega (arith, h))

accepts-sound : (f : SideFacts) (n : ℕ) (key : Key) (o : Option Said) (d : Feed) (s : State) → Pays s.last s.owes d → IsNext f s n key o → Sound (accepts n key o d s)
accepts-sound f n key (Some (brings m)) d s h next = rw next.0 (rises s.last d.floor d.owed h.0)
accepts-sound f n key (Some (says c)) d s h next = absurd next
accepts-sound f n key (Some aborts) d s h next = absurd next
accepts-sound f n key (Some garbles) d s h next = absurd next
accepts-sound f n key None d s h next = absurd next

takes_socket-sound : (f : SideFacts) (k : SocketId) (a : AskFacts) (n : ℕ) (unread : List ℕ) (s : State) → Sound (takes_socket f k a n unread s)
takes_socket-sound f k a n unread s =
    composes-sound f (acceptance a n s) (with_feed (taken_feed k unread (acknowledged_by a) s.last s.owes) (record s { dials = false }))
    (fresh (taken_feed k unread (acknowledged_by a) s.last s.owes) s.last s.owes refl refl)

answers-sound : (f : SideFacts) (k : SocketId) (a : AskFacts) (n : ℕ) (answer : Answer) (unread : List ℕ) (s : State) → Sound s → Sound (answers f k a n answer unread s)
answers-sound f k a n answer unread s h = at (session.takes answer)
  where
    at : (b : Bool) → Sound (if b then takes_socket f k a n unread s else sends k (replies_of answer) s)
    at true = takes_socket-sound f k a n unread s
    at false = h

-- ---- each entry

after-sound : (f : SideFacts) (i : JournalItem) (s : State) → Lawful f i s → Sound s → Sound (after f i s)
after-sound f (items.post place planned) s law h = posts-sound planned (record s { steps = s.steps + 1 }) h
after-sound f (items.dial planned) s law h = h
after-sound f (items.opened k) s law h =
    let t = tells event.Dialled s in
    let c = course_of (opener_half f) [] in
    let d = silent_feed k true t.last t.owes in
    stays d (goes_on c d) t.last t.owes (goes_on-same c d) (fresh d t.last t.owes refl refl)
after-sound f (items.read k bytes) s law h = at s.feed h
  where
    at : (o : Option Feed) → PaysOn o s.last s.owes → Sound (on_feed_at o (λ d. reads f (hears bytes d)) (record s { feed = o }))
    at (Some d) p =
        let e = hears bytes d in
        let o = event_heard f s.session.phase e in
        tells_if-sound o (with_feed (takes_answer_if o e) (record s { feed = Some d }))
        (stays e (takes_answer_if o e) s.last s.owes (takes_answer_if-same o e) (stays d e s.last s.owes (hears-same bytes d) p))
    at None p = tt
after-sound f (items.wrote k bytes) s law h = at s.feed h
  where
    at : (o : Option Feed) → PaysOn o s.last s.owes → Sound (on_feed_at o (puts f bytes) (record s { feed = o }))
    at (Some d) p = puts_on-sound _ _ d (record s { feed = Some d }) p
    at None p = tt
after-sound f (items.closed k broken) s law h = at (is_on k s.feed)
  where
    at : (b : Bool) → Sound (if b then breaks s else forgets k s)
    at true = tells-sound (event.Faulted (is_waiting s)) s h
    at false = h
after-sound f (items.judged k a n answer unread trail) s law h =
    answers-sound f k a n answer unread (tells_if (event_of f a n answer) (notes k a n answer s)) (tells_if-sound (event_of f a n answer) (notes k a n answer s) h)
after-sound f (items.asked true n) s law h = composes-sound f _ _ (tells-sound (event.AskedIdent (cookie_of f n)) (record s { top = n }) h)
after-sound f (items.asked false n) s law h = composes-sound f _ _ (tells-sound event.AskedReconnect (record s { top = n }) h)
after-sound f (items.numbered n) s law h = writes_message-sound f n _ _ h
after-sound f (items.accepted n key) s law h = at s.feed law h
  where
    at : (o : Option Feed) → OnFeedAt o (MayAccept f s n key) → PaysOn o s.last s.owes → Sound (on_feed_at o (λ d. accepts n key (next_said s.last d) d) (record s { feed = o }))
    at (Some d) may p = accepts-sound f n key (next_said s.last d) d (record s { feed = Some d }) p may.next
    at None may p = tt
after-sound f (items.acked n) s law h = h
after-sound f (items.obeyed full) s law h = at s.feed h
  where
    at : (o : Option Feed) → PaysOn o s.last s.owes → Sound (on_feed_at o (λ d t. tells (event.GotReset full) (with_feed (takes_answer d) t)) (record s { feed = o }))
    at (Some d) p = tells-sound (event.GotReset full) (with_feed (takes_answer d) (record s { feed = Some d })) p
    at None p = tt
after-sound f (items.down planned step) s law h = tells-sound event.MarkedDown s h

all-sound : (f : SideFacts) (is : List JournalItem) (s : State) → AreLawful f is s → Sound s → Sound (after_items f is s)
all-sound f [] s law h = h
all-sound f (i ∷ is) s law h = all-sound f is (after f i s) law.1 (after-sound f i s law.0 h)

-- as it is named in the laws
named : (o : Option Feed) (s : State) → PaysOn o s.last s.owes → IfFed o (CanBePaid s)
named (Some d) s h = record { floor = h.0; last = h.1 }
named None s h = tt

pub can_be_paid : AcknowledgementsCanBePaid
can_be_paid f is law = let s = after_items f is (start f) in named s.feed s (all-sound f is (start f) law tt)
