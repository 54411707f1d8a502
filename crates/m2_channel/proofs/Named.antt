-- What a lossy side has begun to write is named by an entry: it owes no acknowledgement, and no keepalive asks it.
use Rattle.std.proofs.Common.{◌≡◌, ℕ, ◌+◌, Bool, true, false, not, ◌&&◌, ◌==◌, if◌then◌else◌, List, [], ◌∷◌, ◌++◌, length, map, Option, Some, None, refl, sym, ap, ◌∙◌, subst}
use Rattle.std.specs.Prelude.{IfSome, slice_get}
use Rattle.std.specs.List.{AllByRecursion, filter}
use Rattle.std.specs.Option.{option_to_list}
use Rattle.m2_journal.specs.m2_control.Banner.{begins}
use Rattle.m2_bytes_fit.proofs.Bounded.{IsUnasked}
use Rattle.m2_bytes_fit.proofs.Entries.{posts_less, heeds_less, accepts_less}
use Rattle.m2_bytes_fit.proofs.Kept.{IsNamed}
use Rattle.m2_bytes_fit.proofs.Less.{Less, FeedLess, tells_less, tells_if_less}
use Rattle.m2_journal.specs.m2_handshake.Course as hand
use Rattle.m2_journal.specs.m2_handshake.Course.{Course, course_of}
use Rattle.m2_journal.specs.m2_handshake.Moves.{is_authed}
use Rattle.m2_journal.specs.m2_handshake.Standing.{Standing, fed}
use Rattle.m2_journal.specs.Feeds.{acknowledgements, begun, finished, goes_on, greets, hears, hears_at, keepalive_answers, narrowed, next_place, next_said, owed_numbers, silent_feed, split_into, texts_at, unnamed, without_first}
use Rattle.m2_journal.specs.Items as item
use Rattle.m2_journal.specs.Items.{JournalItem}
use Rattle.m2_journal.specs.Laws.{IfFed}
use Rattle.m2_journal.specs.OutFrames as out
use Rattle.m2_journal.specs.OutFrames.{OutFrame, is_unnamed, replies_of}
use Rattle.m2_journal.specs.Said.{split}
use Rattle.m2_journal.specs.SideFacts.{SideFacts, cookie_of, opener_half}
use Rattle.m2_journal.specs.State.{PartText, Feed, State}
use Rattle.m2_journal.specs.Steps.{after, breaks, composes, event_heard, event_of, forgets, is_on, is_waiting, notes, on_feed_at, accepts, posts, puts, puts_on, queues, reads, sends, takes_answer, takes_socket, tells, tells_if, with_feed, writes_message}
use Rattle.m2_journal.specs.m2_message.Message.{Content}
use Rattle.m2_journal.specs.m2_queues.QueueLaws.{Next}
use Rattle.m2_journal.specs.m2_queues.OutQueues.{message_at}
use Rattle.m2_journal.specs.m2_session.declared.event.Event.TheVariants as event
use Rattle.m2_journal.specs.m2_session.SessionLaws.{takes}
use Rattle.m2_journal.specs.m2_session.Phases as phases
use Rattle.m2_journal.specs.m2_session.declared.session.Phase.TheVariants as phase

abbrev pub AreNamed : List PartText → Type 0
AreNamed texts = AllByRecursion IsNamed texts

abbrev pub NamedKept : State → Type 0
NamedKept s = IfFed s.feed (λ d. AreNamed d.texts)

-- ---- texts

passing : (test : PartText → Bool) (texts : List PartText) → AreNamed texts → AreNamed (filter test texts)
passing test [] h = tt
passing test (t ∷ ts) h = at (test t) refl (passing test ts h.1)
  where
    at : (b : Bool) → test t ≡ b → AreNamed (filter test ts) → AreNamed (filter test (t ∷ ts))
    at true e more = rw e (h.0, more)
    at false e more = rw e more

shortened : (n : ℕ) (texts : List PartText) → AreNamed texts → AreNamed (map (without_first n) texts)
shortened n [] h = tt
shortened n (t ∷ ts) h = (h.0, shortened n ts h.1)

narrowed_named : (bytes : List ℕ) (texts : List PartText) → AreNamed texts → AreNamed (narrowed bytes texts)
narrowed_named bytes texts h = shortened (length bytes) (filter (λ t. begins bytes t.left) texts) (passing (λ t. begins bytes t.left) texts h)

finished_named : (texts : List PartText) → AreNamed texts → IfSome (finished texts) IsNamed
finished_named [] h = tt
finished_named (t ∷ ts) h = at (length t.left == 0) refl (finished_named ts h.1)
  where
    at : (b : Bool) → (length t.left == 0) ≡ b → IfSome (finished ts) IsNamed → IfSome (finished (t ∷ ts)) IsNamed
    at true e more = rw e h.0
    at false e more = rw e more

greets_named : (bytes : List ℕ) (texts : List PartText) → AreNamed texts → AreNamed (greets bytes texts)
greets_named [] texts h = h
greets_named (b ∷ bs) [] h = (refl, tt)
greets_named (b ∷ bs) (t ∷ ts) h = (h.0, tt)

goes_on_named : (c : Course) (d : Feed) → AreNamed d.texts → AreNamed (goes_on c d).texts
goes_on_named c d h = at (is_authed c.standing.stage)
  where
    e : Feed
    e = record d { texts = greets (hand.text_of c.events) d.texts }

    at : (b : Bool) → AreNamed (if b then split_into (split c.standing.rest) (record e { hand = None }) else record e { hand = Some c.standing }).texts
    at true = greets_named (hand.text_of c.events) d.texts h
    at false = greets_named (hand.text_of c.events) d.texts h

hears_named : (bytes : List ℕ) (d : Feed) → AreNamed d.texts → AreNamed (hears bytes d).texts
hears_named bytes d h = at d.hand
  where
    at : (o : Option Standing) → AreNamed (hears_at o bytes d).texts
    at (Some s) = goes_on_named (course_of (fed s bytes) []) d h
    at None = h

-- a lossy side puts nothing that no entry names
pub texts_named : (f : SideFacts) (s : State) (d : Feed) → f.policy.lossy ≡ true → IsUnasked d → AreNamed d.texts → AreNamed (texts_at f s d)
texts_named f s d lossy u h = at (length d.texts == 0)
  where
    owed : (b c : Bool) → c ≡ true → (if b && not c then map (λ n. begun f (out.acknowledgement n)) (owed_numbers s d) else []) ≡ []
    owed true true e = refl
    owed false true e = refl
    owed b false e = absurd (differs e)
      where
        differs : false ≡ true → ⊥
        differs e = cc

    none : keepalive_answers f s d ≡ []
    none = ap (λ l. map (λ k. begun f (out.keepalive_answer k)) (option_to_list (slice_get l d.answered))) (u (next_place s.last d))

    nothing : acknowledgements f s d ++ keepalive_answers f s d ≡ []
    nothing = ap (λ l. l ++ keepalive_answers f s d) (owed s.owes f.policy.lossy lossy) ∙ none

    some : (b : Bool) → AreNamed (if b then acknowledgements f s d ++ keepalive_answers f s d else [])
    some true = subst AreNamed (sym nothing) tt
    some false = tt

    at : (b : Bool) → AreNamed (if b then unnamed f s d else d.texts)
    at true = some (phases.is s.session.phase phase.Ready)
    at false = h

-- so the text that is wholly put is named
pub put_named : (f : SideFacts) (s : State) (d : Feed) (bytes : List ℕ) → f.policy.lossy ≡ true → IsUnasked d → AreNamed d.texts → IfSome (finished (narrowed bytes (texts_at f s d))) IsNamed
put_named f s d bytes lossy u h = finished_named (narrowed bytes (texts_at f s d)) (narrowed_named bytes (texts_at f s d) (texts_named f s d lossy u h))

-- ---- each entry

less_named : (o p : Option Feed) → FeedLess o p → IfFed o (λ d. AreNamed d.texts) → IfFed p (λ d. AreNamed d.texts)
less_named o None l h = tt
less_named None (Some e) l h = absurd l
less_named (Some d) (Some e) l h = subst AreNamed (sym l.texts) h

kept_less : (s t : State) → Less s t → NamedKept s → NamedKept t
kept_less s t l h = less_named s.feed t.feed l.feed h

composes_named : (f : SideFacts) (w : OutFrame) (s : State) → is_unnamed w ≡ false → NamedKept (composes f w s)
composes_named f w s n = at s.feed
  where
    at : (o : Option Feed) → NamedKept (composes f w (record s { feed = o }))
    at (Some d) = (n, tt)
    at None = tt

puts_named : (o : Option PartText) (texts : List PartText) (d : Feed) (s : State) → IfSome o IsNamed → AreNamed texts → NamedKept (puts_on o texts d s)
puts_named None texts d s n h = h
puts_named (Some t) texts d s n h = rw n tt

writes_named : (f : SideFacts) (n : ℕ) (o : Option Content) (s : State) → NamedKept s → NamedKept (writes_message f n o s)
writes_named f n (Some m) s h = composes_named f (out.message n s.last m) s refl
writes_named f n None s h = h

pub named_after : (f : SideFacts) (i : JournalItem) (s : State) → f.policy.lossy ≡ true → IfFed s.feed IsUnasked → NamedKept s → NamedKept (after f i s)
named_after f (item.post place planned) s lossy u h = kept_less s (posts planned (record s { steps = s.steps + 1 })) (posts_less planned s) h
named_after f (item.dial planned) s lossy u h = h
named_after f (item.opened k) s lossy u h =
    let t = tells event.Dialled s in
    goes_on_named (course_of (opener_half f) []) (silent_feed k true t.last t.owes) tt
named_after f (item.read k bytes) s lossy u h = at s.feed h
  where
    at : (o : Option Feed) → IfFed o (λ d. AreNamed d.texts) → NamedKept (on_feed_at o (λ d. reads f (hears bytes d)) s)
    at (Some d) texts =
        let e = hears bytes d in
        kept_less (with_feed e s) _ (heeds_less (event_heard f s.session.phase e) e s) (hears_named bytes d texts)
    at None texts = h
named_after f (item.wrote k bytes) s lossy u h = at s.feed u h
  where
    at : (o : Option Feed) → IfFed o IsUnasked → IfFed o (λ d. AreNamed d.texts) → NamedKept (on_feed_at o (puts f bytes) s)
    at (Some d) u texts =
        let all = narrowed bytes (texts_at f s d) in
        puts_named (finished all) all d s (put_named f s d bytes lossy u texts) (narrowed_named bytes (texts_at f s d) (texts_named f s d lossy u texts))
    at None u texts = h
named_after f (item.closed k broken) s lossy u h = at (is_on k s.feed)
  where
    at : (b : Bool) → NamedKept (if b then breaks s else forgets k s)
    at true = kept_less s (tells (event.Faulted (is_waiting s)) s) (tells_less (event.Faulted (is_waiting s)) s) h
    at false = h
named_after f (item.judged k a n given unread trail) s lossy u h = at (takes given)
  where
    t : State
    t = tells_if (event_of f a n given) (notes k a n given s)

    at : (b : Bool) → NamedKept (if b then takes_socket f k a n unread t else sends k (replies_of given) t)
    at true = (named a.ident, tt)
      where
        named : (b : Bool) → is_unnamed (if b then out.server_ident t.session.server_cookie n else out.reconnect_ok t.last) ≡ false
        named true = refl
        named false = refl
    at false = kept_less (notes k a n given s) t (tells_if_less (event_of f a n given) (notes k a n given s)) h
named_after f (item.asked true n) s lossy u h =
    let t = tells (event.AskedIdent (cookie_of f n)) (record s { top = n }) in
    composes_named f (out.ident t.session.client_cookie n) t refl
named_after f (item.asked false n) s lossy u h =
    let t = tells event.AskedReconnect (record s { top = n }) in
    composes_named f (out.reconnect t.session.client_cookie t.session.server_cookie n t.session.connect t.last) t refl
named_after f (item.numbered n) s lossy u h = writes_named f n (message_at (queues Next s).out.queue n) (queues Next s) h
named_after f (item.accepted n key) s lossy u h = at s.feed refl
  where
    at : (o : Option Feed) → s.feed ≡ o → NamedKept (on_feed_at o (λ d. accepts n key (next_said s.last d) d) s)
    at None e = h
    at (Some d) e = kept_less s _ (accepts_less n key (next_said s.last d) d s e) h
named_after f (item.acked n) s lossy u h = h
named_after f (item.obeyed full) s lossy u h = at s.feed h
  where
    at : (o : Option Feed) → IfFed o (λ d. AreNamed d.texts) → NamedKept (on_feed_at o (λ d t. tells (event.GotReset full) (with_feed (takes_answer d) t)) s)
    at (Some d) texts = kept_less (with_feed (takes_answer d) s) _ (tells_less (event.GotReset full) (with_feed (takes_answer d) s)) texts
    at None texts = h
named_after f (item.down planned step) s lossy u h = kept_less s (tells event.MarkedDown s) (tells_less event.MarkedDown s) h
