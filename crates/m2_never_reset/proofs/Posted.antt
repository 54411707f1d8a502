-- Where nothing is thrown away and numbers are set back only before any acceptance, the queue's history keeps all that was
-- posted, and drops nothing; so what has a number is, of each priority, a prefix of what was posted.
use Rattle.std.proofs.Common.{◌≡◌, ℕ, ◌+◌, Bool, true, false, if◌then◌else◌, List, [], ◌∷◌, ◌++◌, length, map, take, Option, Some, None, refl, sym, ap, subst, ◌∙◌, arith, append-nil, append_assoc}
use Rattle.std.specs.List.{filter}
use Rattle.std.specs.Prelude.{◌==◌}
use Rattle.std.proofs.lemmas.Bool.{and_parts}
use Rattle.std.proofs.lemmas.List.{map-append}
use Rattle.std.proofs.lemmas.List.Elements.{filter-append}
use Rattle.m2_session.specs.declared.ask.AskFacts.{AskFacts}
use Rattle.m2_dispatch.specs.Heard.{is_key, is_path}
use Rattle.m2_journal.specs.m2_fabric.declared.socket.SocketId.{SocketId}
use Rattle.m2_queues.specs.m2_message.Message.{Content, unnumbered, priority_of}
use Rattle.m2_session.specs.m2_policy.declared.path.Key.{Key}
use Rattle.m2_queues.specs.QueueLaws.{History, start_of, of_priority, EachPriorityKeepsItsOrder, Next, Requeue}
use Rattle.m2_queues.specs.OutQueues.{message_at}
use Rattle.m2_session.specs.declared.answer.Answer.{Answer}
use Rattle.m2_session.specs.declared.event.Event.{Event}
use Rattle.m2_session.specs.declared.event.Event.TheVariants as event
use Rattle.m2_session.specs.SessionLaws as session
use Rattle.m2_session.specs.Steps.{step_of}
use Rattle.m2_never_reset.specs.Order.{AreFirstOf}
use Rattle.m2_never_reset.specs.Steps.{times}
use Rattle.m2_journal.specs.Feeds.{hears, next_said}
use Rattle.m2_journal.specs.Items as item
use Rattle.m2_journal.specs.Items.{JournalItem}
use Rattle.m2_journal.specs.Lawful.{key_of}
use Rattle.m2_journal.specs.Laws.{IsOfCalls}
use Rattle.m2_journal.specs.OutFrames as out
use Rattle.m2_journal.specs.OutFrames.{OutFrame, is_unnamed, replies_of}
use Rattle.m2_journal.specs.Plan.{Planned, to_post, to_dial, to_go_down}
use Rattle.m2_journal.specs.Said.{Said, says, brings, aborts, garbles}
use Rattle.m2_journal.specs.SideFacts.{SideFacts, cookie_of}
use Rattle.m2_journal.specs.State.{PartText, Feed, State}
use Rattle.m2_journal.specs.Steps.{after, where_true, closes, sets_back, tells_of_reset, has_effects, tells, tells_if, on_feed_at, posts, composes, sends, sends_late, puts_on, puts, reads, event_heard, event_on, takes_answer_if, breaks, forgets, is_on, writes_message, accepts, answers, notes, takes_answer, takes_socket, with_feed, is_waiting, event_of, queues, writes_ident, writes_reconnect}
use Rattle.m2_never_reset.specs.PairLaws.{IsNoDown}
use Rattle.m2_never_reset.specs.LinkOf.{letters}
use Rattle.m2_never_reset.specs.Orders.{posted_in, of_key}
use Rattle.m2_never_reset.specs.Trouble.{trouble_at, trouble_told}
use Rattle.m2_queues.proofs.m2_lemmas.Numbers.{none_back}
use Rattle.m2_queues.proofs.m2_lemmas.Lists.{finer_filter}
use Rattle.m2_queues.proofs.m2_lemmas.Booleans.{from_false_true}

-- ---- histories to which these posts were added, and nothing was dropped

pub record Goes (old : History) (more : List Content) (new : History) : Type 0 where
  pub posted : new.posted ≡ old.posted ++ more
  pub dropped : new.dropped ≡ old.dropped

pub same : (h : History) → Goes h [] h
same h = record { posted = sym (append-nil h.posted); dropped = refl }

goes_as : (h k : History) → k.posted ≡ h.posted → k.dropped ≡ h.dropped → Goes h [] k
goes_as h k p d = record { posted = p ∙ sym (append-nil h.posted); dropped = d }

-- what leaves what was posted and dropped
abbrev Keeps : State → State → Type 0
Keeps s t = (t.out.posted ≡ s.out.posted) × (t.out.dropped ≡ s.out.dropped)

both : (r s t : State) → Keeps r s → Keeps s t → Keeps r t
both r s t h k = (k.0 ∙ h.0, k.1 ∙ h.1)

-- ---- effects

closes-out : (s : State) → (closes s).out ≡ s.out
closes-out s = at s.feed
  where
    at : (o : Option Feed) → (closes (record s { feed = o })).out ≡ s.out
    at (Some d) = refl
    at None = refl

set_back-keeps : (s : State) → s.out.queue.base ≡ 0 → Keeps s (sets_back s)
set_back-keeps s e = at s.feed
  where
    at : (o : Option Feed) → Keeps s (sets_back (record s { feed = o }))
    at (Some d) = (refl, ap (λ n. s.out.dropped ++ take n s.out.numbered) e ∙ append-nil s.out.dropped)
    at None = (refl, ap (λ n. s.out.dropped ++ take n s.out.numbered) e ∙ append-nil s.out.dropped)

-- where nothing is thrown away, and numbers are set back only where nothing is acknowledged
has_effects-keeps : (close requeue back remote_reset : Bool) (s : State) → (back ≡ true → s.out.queue.base ≡ 0) →
    Keeps s (has_effects (record { close = close; requeue = requeue; set_back = back; discard = false; remote_reset = remote_reset }) s)
has_effects-keeps close requeue back remote_reset s h = told remote_reset
  where
    closed : (c : Bool) → (where_true c closes s).out ≡ s.out
    closed true = closes-out s
    closed false = refl

    queued : (r : Bool) → let t = where_true r (queues Requeue) (where_true close closes s) in Keeps s t × (t.out.queue.base ≡ s.out.queue.base)
    queued true = ((ap (λ k. k.posted) (closed close), ap (λ k. k.dropped) (closed close)), ap (λ k. k.queue.base) (closed close))
    queued false = ((ap (λ k. k.posted) (closed close), ap (λ k. k.dropped) (closed close)), ap (λ k. k.queue.base) (closed close))

    low : (b : Bool) → (b ≡ true → s.out.queue.base ≡ 0) → Keeps s (where_true b sets_back (where_true requeue (queues Requeue) (where_true close closes s)))
    low true g =
        let t = where_true requeue (queues Requeue) (where_true close closes s) in
        both s t (sets_back t) (queued requeue).0 (set_back-keeps t ((queued requeue).1 ∙ g refl))
    low false g = (queued requeue).0

    told : (r : Bool) → Keeps s (where_true r tells_of_reset (where_true back sets_back (where_true requeue (queues Requeue) (where_true close closes s))))
    told true = low back h
    told false = low back h

none_thrown : (discard : Bool) (n m : ℕ) → times discard + m ≡ 0 → discard ≡ false
none_thrown true n m e = absurd (omega (arith, e))
none_thrown false n m e = refl

-- an event without trouble
tells-keeps : (e : Event) (s : State) (n : ℕ) → trouble_told (Some e) s.session n ≡ 0 → (n ≡ 0 → s.out.queue.base ≡ 0) → Keeps s (tells e s)
tells-keeps e s n none base =
    let o = (step_of s.session e).effects in
    at o.close o.requeue o.set_back o.discard o.remote_reset (record s { session = (step_of s.session e).session })
    (none_thrown o.discard n (if o.set_back then n else 0) none) (λ b. base (none_back o.set_back (times o.discard) n none b))
  where
    at : (close requeue back discard remote_reset : Bool) (t : State) → discard ≡ false → (back ≡ true → t.out.queue.base ≡ 0) →
        Keeps t (has_effects (record { close = close; requeue = requeue; set_back = back; discard = discard; remote_reset = remote_reset }) t)
    at close requeue back false remote_reset t z h = has_effects-keeps close requeue back remote_reset t h
    at close requeue back true remote_reset t z h = from_false_true (sym z)

tells_if-keeps : (o : Option Event) (s : State) (n : ℕ) → trouble_told o s.session n ≡ 0 → (n ≡ 0 → s.out.queue.base ≡ 0) → Keeps s (tells_if o s)
tells_if-keeps (Some e) s n none base = tells-keeps e s n none base
tells_if-keeps None s n none base = (refl, refl)

-- ---- what composes, puts and judges

composes-out : (f : SideFacts) (w : OutFrame) (s : State) → (composes f w s).out ≡ s.out
composes-out f w s = at s.feed
  where
    at : (o : Option Feed) → (composes f w (record s { feed = o })).out ≡ s.out
    at (Some d) = refl
    at None = refl

sends_late-out : (k : SocketId) (w : OutFrame) (s : State) → (sends_late k w s).out ≡ s.out
sends_late-out k w s = at (is_unnamed w)
  where
    at : (b : Bool) → (if b then sends k (w ∷ []) s else s).out ≡ s.out
    at true = refl
    at false = refl

puts_on-out : (o : Option PartText) (texts : List PartText) (d : Feed) (s : State) → (puts_on o texts d s).out ≡ s.out
puts_on-out (Some t) texts d s = sends_late-out d.socket t.frame _
puts_on-out None texts d s = refl

writes_message-keeps : (f : SideFacts) (n : ℕ) (o : Option Content) (s : State) → Keeps s (writes_message f n o s)
writes_message-keeps f n (Some m) s = (ap (λ k. k.posted) (composes-out f (out.message n s.last m) s), ap (λ k. k.dropped) (composes-out f (out.message n s.last m) s))
writes_message-keeps f n None s = (refl, refl)

accepts-out : (n : ℕ) (key : Key) (o : Option Said) (d : Feed) (s : State) → (accepts n key o d s).out ≡ s.out
accepts-out n key (Some (brings m)) d s = refl
accepts-out n key (Some (says c)) d s = refl
accepts-out n key (Some aborts) d s = refl
accepts-out n key (Some garbles) d s = refl
accepts-out n key None d s = refl

answers-out : (f : SideFacts) (k : SocketId) (a : AskFacts) (n : ℕ) (answer : Answer) (unread : List ℕ) (s : State) → (answers f k a n answer unread s).out ≡ s.out
answers-out f k a n answer unread s = at (session.takes answer)
  where
    at : (b : Bool) → (if b then takes_socket f k a n unread s else sends k (replies_of answer) s).out ≡ s.out
    at true = refl
    at false = refl

-- ---- each entry

keeps_goes : (s t : State) → Keeps s t → Goes s.out [] t.out
keeps_goes s t h = goes_as s.out t.out h.0 h.1

same_out : (s t : State) → t.out ≡ s.out → Keeps s t
same_out s t e = (ap (λ k. k.posted) e, ap (λ k. k.dropped) e)

posts-goes : (place : ℕ) (o : Option Planned) (s : State) → Goes s.out (posted_in (item.post place o)) (posts o s).out
posts-goes place (Some (to_post m)) s = record { posted = refl; dropped = refl }
posts-goes place (Some to_dial) s = same s.out
posts-goes place (Some to_go_down) s = same s.out
posts-goes place None s = same s.out

abbrev accepted_by_both : State → State → ℕ
accepted_by_both s b = length (letters s.deliveries) + length (letters b.deliveries)

none_of_both : (s b : State) → accepted_by_both s b ≡ 0 → length (letters b.deliveries) ≡ 0
none_of_both s b e = omega (arith, e)

pub entry-goes : (f : SideFacts) (i : JournalItem) (s b : State) → IsNoDown i → trouble_at f i s b ≡ 0 →
    (length (letters b.deliveries) ≡ 0 → s.out.queue.base ≡ 0) → Goes s.out (posted_in i) (after f i s).out
entry-goes f i s b not_down none base = each i not_down none
  where
    at_zero : accepted_by_both s b ≡ 0 → s.out.queue.base ≡ 0
    at_zero e = base (none_of_both s b e)

    each : (i : JournalItem) → IsNoDown i → trouble_at f i s b ≡ 0 → Goes s.out (posted_in i) (after f i s).out
    each (item.post place planned) nd none = posts-goes place planned (record s { steps = s.steps + 1 })
    each (item.dial planned) nd none = same s.out
    each (item.opened k) nd none = keeps_goes s (tells event.Dialled s) (tells-keeps event.Dialled s (accepted_by_both s b) none at_zero)
    each (item.read k bytes) nd none = at s.feed none
      where
        at : (o : Option Feed) → trouble_told (event_on o (λ d. event_heard f s.session.phase (hears bytes d))) s.session (accepted_by_both s b) ≡ 0 →
            Goes s.out [] (on_feed_at o (λ d. reads f (hears bytes d)) s).out
        at (Some d) z =
            let e = hears bytes d in
            let w = event_heard f s.session.phase e in
            let t = with_feed (takes_answer_if w e) s in
            keeps_goes s (tells_if w t) (tells_if-keeps w t (accepted_by_both s b) z at_zero)
        at None z = same s.out
    each (item.wrote k bytes) nd none = at s.feed
      where
        at : (o : Option Feed) → Goes s.out [] (on_feed_at o (puts f bytes) s).out
        at (Some d) = keeps_goes s (puts f bytes d s) (same_out s (puts f bytes d s) (puts_on-out _ _ d s))
        at None = same s.out
    each (item.closed k broken) nd none = at (is_on k s.feed) none
      where
        at : (c : Bool) → trouble_told (if c then Some (event.Faulted (is_waiting s)) else None) s.session (accepted_by_both s b) ≡ 0 → Goes s.out [] (if c then breaks s else forgets k s).out
        at true z = keeps_goes s (tells (event.Faulted (is_waiting s)) s) (tells-keeps (event.Faulted (is_waiting s)) s (accepted_by_both s b) z at_zero)
        at false z = same s.out
    each (item.judged k a number answer unread trail) nd none =
        let r = notes k a number answer s in
        let t = tells_if (event_of f a number answer) r in
        let kept = tells_if-keeps (event_of f a number answer) r (accepted_by_both s b) none at_zero in
        keeps_goes s (answers f k a number answer unread t) (both s t (answers f k a number answer unread t) kept (same_out t (answers f k a number answer unread t) (answers-out f k a number answer unread t)))
    each (item.asked true number) nd none =
        let t = tells (event.AskedIdent (cookie_of f number)) (record s { top = number }) in
        let u = writes_ident f number t in
        keeps_goes s u (both s t u (tells-keeps (event.AskedIdent (cookie_of f number)) (record s { top = number }) (accepted_by_both s b) none at_zero)
        (same_out t u (composes-out f (out.ident t.session.client_cookie number) t)))
    each (item.asked false number) nd none =
        let t = tells event.AskedReconnect (record s { top = number }) in
        let u = writes_reconnect f number t in
        keeps_goes s u (both s t u (tells-keeps event.AskedReconnect (record s { top = number }) (accepted_by_both s b) none at_zero)
        (same_out t u (composes-out f (out.reconnect t.session.client_cookie t.session.server_cookie number t.session.connect t.last) t)))
    each (item.numbered number) nd none =
        let t = queues Next s in
        let u = writes_message f number (message_at t.out.queue number) t in
        keeps_goes s u (both s t u (refl, refl) (writes_message-keeps f number (message_at t.out.queue number) t))
    each (item.accepted number key) nd none = at s.feed
      where
        at : (o : Option Feed) → Goes s.out [] (on_feed_at o (λ d. accepts number key (next_said s.last d) d) s).out
        at (Some d) =
            let t = accepts number key (next_said s.last d) d s in
            keeps_goes s t (same_out s t (accepts-out number key (next_said s.last d) d s))
        at None = same s.out
    each (item.acked number) nd none = goes_as s.out (after f (item.acked number) s).out refl refl
    each (item.obeyed full) nd none = at s.feed none
      where
        at : (o : Option Feed) → trouble_told (event_on o (λ d. Some (event.GotReset full))) s.session (accepted_by_both s b) ≡ 0 →
            Goes s.out [] (on_feed_at o (λ d t. tells (event.GotReset full) (with_feed (takes_answer d) t)) s).out
        at (Some d) z =
            let t = with_feed (takes_answer d) s in
            keeps_goes s (tells (event.GotReset full) t) (tells-keeps (event.GotReset full) t (accepted_by_both s b) z at_zero)
        at None z = same s.out
    each (item.down planned step) nd none = absurd nd

-- ---- of each key

plain-filter : (f : SideFacts) (key : Key) (ms : List Content) → of_key f key (map unnumbered ms) ≡ map unnumbered (of_key f key ms)
plain-filter f key [] = refl
plain-filter f key (m ∷ ms) = at (is_key (key_of f m) key) (plain-filter f key ms)
  where
    at : (b : Bool) → of_key f key (map unnumbered ms) ≡ map unnumbered (of_key f key ms) →
        (if b then unnumbered m ∷ of_key f key (map unnumbered ms) else of_key f key (map unnumbered ms)) ≡ map unnumbered (if b then m ∷ of_key f key ms else of_key f key ms)
    at true more = ap (λ l. unnumbered m ∷ l) more
    at false more = more

pub has_priority : (f : SideFacts) (key : Key) (m : Content) → is_key (key_of f m) key ≡ true → (priority_of m == key.priority) ≡ true
has_priority f key m h = (and_parts (priority_of m == key.priority) (is_path (key_of f m).path key.path) h).0

-- of what has a number, where nothing was dropped
numbered_first : EachPriorityKeepsItsOrder → (f : SideFacts) (key : Key) (keeps : Bool) (h : History) → IsOfCalls keeps h → h.dropped ≡ [] →
    AreFirstOf (of_key f key h.numbered) (of_key f key h.posted)
numbered_first law f key keeps h (calls, e) none =
    let p = key.priority in
    let test : Content → Bool = λ m. is_key (key_of f m) key in
    let of_p : Content → Bool = λ m. priority_of m == p in
    let all : of_priority p h.dropped ++ of_priority p h.numbered ++ of_priority p h.queue.waiting ≡ of_priority p h.posted =
    subst (λ k. of_priority p k.dropped ++ of_priority p k.numbered ++ of_priority p k.queue.waiting ≡ of_priority p k.posted) (sym e) (law keeps calls p) in
    let some : of_priority p h.numbered ++ of_priority p h.queue.waiting ≡ of_priority p h.posted =
    sym (ap (λ l. of_priority p l ++ of_priority p h.numbered ++ of_priority p h.queue.waiting) none) ∙ all in (
      filter test (of_priority p h.queue.waiting),
      sym (finer_filter test of_p (has_priority f key) h.posted) ∙ ap (filter test) (sym some)
          ∙ filter-append test (of_priority p h.numbered) (of_priority p h.queue.waiting)
          ∙ ap (λ l. l ++ filter test (of_priority p h.queue.waiting)) (finer_filter test of_p (has_priority f key) h.numbered),
    )

pub as_posted : EachPriorityKeepsItsOrder → (f : SideFacts) (key : Key) (keeps : Bool) (h : History) (accepted posts : List Content) → IsOfCalls keeps h →
    Goes (start_of keeps) posts h → AreFirstOf accepted (map unnumbered h.numbered) → AreFirstOf (of_key f key accepted) (of_key f key (map unnumbered posts))
as_posted law f key keeps h accepted posts calls goes (more, e) =
    let first = numbered_first law f key keeps h calls goes.dropped in
    let test : Content → Bool = λ m. is_key (key_of f m) key in
    let of_numbered : of_key f key (map unnumbered h.numbered) ≡ of_key f key accepted ++ of_key f key more = ap (of_key f key) e ∙ filter-append test accepted more in (
      of_key f key more ++ map unnumbered first.0,
      ap (λ l. of_key f key (map unnumbered l)) (sym goes.posted)
          ∙ plain-filter f key h.posted
          ∙ ap (map unnumbered) first.1
          ∙ map-append unnumbered (of_key f key h.numbered) first.0
          ∙ ap (λ l. l ++ map unnumbered first.0) (sym (plain-filter f key h.numbered) ∙ of_numbered)
          ∙ append_assoc (of_key f key accepted) (of_key f key more) (map unnumbered first.0),
    )

-- ---- one after the other

pub goes_on : (h k l : History) (xs ys : List Content) → Goes h xs k → Goes k ys l → Goes h (xs ++ ys) l
goes_on h k l xs ys a b = record {
  posted = b.posted ∙ ap (λ ms. ms ++ ys) a.posted ∙ append_assoc h.posted xs ys;
  dropped = b.dropped ∙ a.dropped;
}
