-- A feed whose handshake isn't over is one in Connecting.
use Rattle.std.proofs.Common.{◌≡◌, ◌≢◌, ℕ, ◌+◌, ◌⊎◌, inl, inr, Bool, true, false, ◌==◌, if◌then◌else◌, List, [], ◌∷◌, ◌++◌, length, Option, Some, None, refl, sym, ap, ◌∙◌, subst, arith}
use Rattle.std.proofs.lemmas.Bool.{eqb-true}
use Rattle.m2_feed.specs.m2_session.declared.ask.AskFacts.{AskFacts}
use Rattle.m2_feed.specs.m2_session.Asks as asks
use Rattle.m2_feed.specs.m2_message.Message.{Content}
use Rattle.m2_feed.specs.m2_policy.declared.path.Key.{Key}
use Rattle.m2_never_reset.specs.m2_queues.OutQueues.{message_at}
use Rattle.m2_never_reset.specs.m2_queues.QueueLaws.{Next}
use Rattle.m2_feed.specs.m2_session.declared.answer.Answer.{Answer}
use Rattle.m2_feed.specs.m2_session.declared.answer.Answer.TheVariants as answer
use Rattle.m2_feed.specs.m2_session.declared.event.Event.{Event}
use Rattle.m2_feed.specs.m2_session.declared.event.Event.TheVariants as event
use Rattle.m2_feed.specs.m2_session.declared.session.Phase.{Phase}
use Rattle.m2_feed.specs.m2_session.declared.session.Phase.TheVariants as phase
use Rattle.m2_feed.specs.m2_session.SessionLaws.{takes}
use Rattle.m2_feed.specs.m2_session.Phases as phases
use Rattle.m2_feed.specs.m2_session.Steps.{step_of}
use Rattle.m2_feed.specs.m2_journal.Feeds.{hears, hears_at, next_said, narrowed, finished, texts_at, unnamed, acknowledgements, keepalive_answers}
use Rattle.m2_feed.specs.m2_journal.Items as item
use Rattle.m2_feed.specs.m2_journal.Items.{JournalItem}
use Rattle.m2_feed.specs.m2_journal.Lawful.{Lawful, OnFeedAt, MayAsk, MayObey}
use Rattle.m2_feed.specs.m2_journal.Laws.{IfFed}
use Rattle.m2_feed.specs.m2_journal.OutFrames as out
use Rattle.m2_feed.specs.m2_journal.OutFrames.{OutFrame, is_unnamed, replies_of}
use Rattle.m2_feed.specs.m2_journal.Plan.{Planned, to_post, to_dial, to_go_down}
use Rattle.m2_feed.specs.m2_journal.Said.{Said, says, brings, aborts, garbles}
use Rattle.m2_feed.specs.m2_journal.SideFacts.{SideFacts, cookie_of}
use Rattle.m2_feed.specs.m2_journal.State.{PartText, Feed, State}
use Rattle.m2_feed.specs.m2_journal.Steps.{accepts, after, breaks, closes, composes, event_of, forgets, heeds, event_heard, is_on, is_waiting, kept_of, notes, posts, puts_on, queues, sends, takes_answer, takes_answer_if, takes_socket, tells, tells_if, with_feed, writes_message, where_true}
use Rattle.m2_never_reset.specs.PairLaws.{IsNoDown}
use Rattle.m2_bytes_fit.proofs.Less.{FeedLess, tells_less, tells_if_less, has_effects_less}
use Rattle.m2_feed.proofs.m2_lemmas.Booleans.{from_false_true}
use Rattle.m2_feed.proofs.m2_session.Events.{fault_closes}

abbrev pub HandSo : State → Feed → Type 0
HandSo s d = (d.hand ≡ None) ⊎ (s.session.phase ≡ phase.Connecting)

abbrev pub HandKept : State → Type 0
HandKept s = IfFed s.feed (HandSo s)

-- ---- a signed feed stays signed

signed_less : (s t : State) → FeedLess s.feed t.feed → IfFed s.feed (λ d. d.hand ≡ None) → HandKept t
signed_less s t l h = at s.feed t.feed l h
  where
    at : (o p : Option Feed) → FeedLess o p → IfFed o (λ d. d.hand ≡ None) → IfFed p (HandSo t)
    at o None l h = tt
    at None (Some e) l h = absurd l
    at (Some d) (Some e) l h = inl (l.hand ∙ h)

composes_keeps : (f : SideFacts) (w : OutFrame) (s : State) → HandKept s → HandKept (composes f w s)
composes_keeps f w s h = at s.feed h
  where
    at : (o : Option Feed) → IfFed o (HandSo s) → HandKept (composes f w (record s { feed = o }))
    at None g = tt
    at (Some d) g = g

-- ---- an event that closes

none_less : (o : Option Feed) → FeedLess None o → o ≡ None
none_less None l = refl
none_less (Some d) l = absurd l

closed_none : (s : State) → (closes s).feed ≡ None
closed_none s = at s.feed
  where
    at : (o : Option Feed) → (closes (record s { feed = o })).feed ≡ None
    at None = refl
    at (Some d) = refl

pub closing : (e : Event) (s : State) → (step_of s.session e).effects.close ≡ true → (tells e s).feed ≡ None
closing e s q =
    let o = (step_of s.session e).effects in
    let t = record s { session = (step_of s.session e).session } in
    let first : (where_true o.close closes t).feed ≡ None = subst (λ b. (where_true b closes t).feed ≡ None) (sym q) (closed_none t) in
    none_less (tells e s).feed (subst (λ p. FeedLess p (tells e s).feed) first (has_effects_less o (where_true o.close closes t)).feed)

pub none_kept : (s : State) → s.feed ≡ None → HandKept s
none_kept s e = subst (λ o. IfFed o (HandSo s)) (sym e) tt

-- ---- what a side is told of an answer that takes no socket

abbrev IsPendingOrNone : Option Event → Type 0
IsPendingOrNone None = Unit {0}
IsPendingOrNone (Some event.Pending) = Unit {0}
IsPendingOrNone (Some e) = ⊥

ident_told : (a : AskFacts) (n : Answer) (c : ℕ) → takes n ≡ false → IsPendingOrNone (asks.told_of_ident a n c)
ident_told a answer.Close c t = tt
ident_told a answer.Wait c t = tt
ident_told a (answer.Reset full) c t = tt
ident_told a answer.ResetPending c t = tt
ident_told a (answer.RetryGlobal number) c t = tt
ident_told a (answer.Retry number) c t = tt
ident_told a n c t = from_false_true (sym t)

reconnect_told : (a : AskFacts) (n : Answer) → takes n ≡ false → IsPendingOrNone (asks.told_of_reconnect a n)
reconnect_told a answer.Close t = tt
reconnect_told a answer.Wait t = tt
reconnect_told a (answer.Reset full) t = tt
reconnect_told a answer.ResetPending t = tt
reconnect_told a (answer.RetryGlobal number) t = tt
reconnect_told a (answer.Retry number) t = tt
reconnect_told a n t = from_false_true (sym t)

told_so : (a : AskFacts) (n : Answer) (c : ℕ) → takes n ≡ false → IsPendingOrNone (asks.event_of a n c)
told_so a n c t = at a.ident
  where
    at : (b : Bool) → IsPendingOrNone (if b then asks.told_of_ident a n c else asks.told_of_reconnect a n)
    at true = ident_told a n c t
    at false = reconnect_told a n t

pending_kept : (o : Option Event) (s : State) → IsPendingOrNone o → HandKept s → HandKept (tells_if o s)
pending_kept None s p h = h
pending_kept (Some event.Pending) s p h = none_kept (tells event.Pending s) (closing event.Pending s refl)
pending_kept (Some e) s p h = elim p [ ]

-- ---- each entry

posts_kept : (planned : Option Planned) (s : State) → HandKept s → HandKept (posts planned s)
posts_kept (Some (to_post m)) s h = h
posts_kept (Some to_dial) s h = h
posts_kept (Some to_go_down) s h = h
posts_kept None s h = h

hears_signed : (bytes : List ℕ) (d : Feed) → d.hand ≡ None → (hears bytes d).hand ≡ None
hears_signed bytes d e = ap (λ o. (hears_at o bytes d).hand) e ∙ e

takes_kept : (o : Option Event) (d : Feed) → (takes_answer_if o d).hand ≡ d.hand
takes_kept (Some e) d = refl
takes_kept None d = refl

reads_kept : (f : SideFacts) (bytes : List ℕ) (s : State) (d : Feed) → HandSo s d → HandKept (heeds (event_heard f s.session.phase (hears bytes d)) (hears bytes d) s)
reads_kept f bytes s d (inl none) =
    let e = event_heard f s.session.phase (hears bytes d) in
    signed_less (with_feed (takes_answer_if e (hears bytes d)) s) (heeds e (hears bytes d) s)
    (tells_if_less e (with_feed (takes_answer_if e (hears bytes d)) s)).feed (takes_kept e (hears bytes d) ∙ hears_signed bytes d none)
reads_kept f bytes s d (inr connecting) =
    subst (λ p. HandKept (heeds (event_heard f p (hears bytes d)) (hears bytes d) s)) (sym connecting) (inr connecting)

puts_kept : (bytes : List ℕ) (o : Option PartText) (texts : List PartText) (s : State) (d : Feed) → HandSo s d → HandKept (puts_on o texts d s)
puts_kept bytes None texts s d h = h
puts_kept bytes (Some t) texts s d h = at (is_unnamed t.frame) refl
  where
    at : (b : Bool) → is_unnamed t.frame ≡ b → HandKept (puts_on (Some t) texts d s)
    at true q = rw q h
    at false q = rw q h

writes_kept : (f : SideFacts) (n : ℕ) (o : Option Content) (s : State) → HandKept s → HandKept (writes_message f n o s)
writes_kept f n (Some m) s h = composes_keeps f (out.message n s.last m) s h
writes_kept f n None s h = h

accepts_kept : (n : ℕ) (key : Key) (o : Option Said) (d : Feed) (s : State) → s.feed ≡ Some d → HandSo s d → HandKept (accepts n key o d s)
accepts_kept n key (Some (brings m)) d s e h = h
accepts_kept n key (Some (says c)) d s e h = rw e h
accepts_kept n key (Some aborts) d s e h = rw e h
accepts_kept n key (Some garbles) d s e h = rw e h
accepts_kept n key None d s e h = rw e h

is_signed : (s : State) (d : Feed) → s.session.phase ≢ phase.Connecting → HandSo s d → d.hand ≡ None
is_signed s d n (inl none) = none
is_signed s d n (inr c) = absurd (n c)

pub signed_in : (s : State) (d : Feed) (p : Phase) → s.session.phase ≡ p → p ≢ phase.Connecting → HandSo s d → d.hand ≡ None
signed_in s d p e n h = is_signed s d (λ c. n (sym e ∙ c)) h

pub ready_apart : phase.Ready ≢ phase.Connecting
ready_apart e = cc

pub reconnect_apart : phase.ReconnectSent ≢ phase.Connecting
reconnect_apart e = cc

pub hand_keeps : (f : SideFacts) (i : JournalItem) (s : State) → IsNoDown i → Lawful f i s → HandKept s → HandKept (after f i s)
hand_keeps f (item.post place planned) s up l h = posts_kept planned (record s { steps = s.steps + 1 }) h
hand_keeps f (item.dial planned) s up l h = h
hand_keeps f (item.opened socket) s up l h = inr refl
hand_keeps f (item.read socket bytes) s up l h = at s.feed refl h
  where
    at : (o : Option Feed) → s.feed ≡ o → IfFed o (HandSo s) → HandKept (after f (item.read socket bytes) (record s { feed = o }))
    at None e g = tt
    at (Some d) e g = reads_kept f bytes (record s { feed = Some d }) d g
hand_keeps f (item.wrote socket bytes) s up l h = at s.feed h
  where
    at : (o : Option Feed) → IfFed o (HandSo s) → HandKept (after f (item.wrote socket bytes) (record s { feed = o }))
    at None g = tt
    at (Some d) g =
        let t = record s { feed = Some d } in
        puts_kept bytes (finished (narrowed bytes (texts_at f t d))) (narrowed bytes (texts_at f t d)) t d g
hand_keeps f (item.closed socket broken) s up l h = at (is_on socket s.feed)
  where
    at : (b : Bool) → HandKept (if b then breaks s else forgets socket s)
    at true = none_kept (breaks s) (closing (event.Faulted (is_waiting s)) s (fault_closes s.session (is_waiting s)))
    at false = h
hand_keeps f (item.judged socket ask number given unread trail) s up l h = at (takes given) refl
  where
    t : State
    t = tells_if (event_of f ask number given) (notes socket ask number given s)

    at : (b : Bool) → takes given ≡ b → HandKept (if b then takes_socket f socket ask number unread t else sends socket (replies_of given) t)
    at true e = inl refl
    at false e = pending_kept (event_of f ask number given) (notes socket ask number given s) (told_so (kept_of f ask) given (cookie_of f number) e) h
hand_keeps f (item.asked true number) s up l h = at s.feed refl l
  where
    at : (o : Option Feed) → s.feed ≡ o → OnFeedAt o (MayAsk s true number) → HandKept (after f (item.asked true number) s)
    at None e g = elim g [ ]
    at (Some d) e g =
        let t = record s { top = number } in
        let u = tells (event.AskedIdent (cookie_of f number)) t in
        composes_keeps f (out.ident u.session.client_cookie number) u (signed_less t u (tells_less (event.AskedIdent (cookie_of f number)) t).feed (subst (λ o. IfFed o (λ d. d.hand ≡ None)) (sym e) g.signed))
hand_keeps f (item.asked false number) s up l h = at s.feed refl l
  where
    at : (o : Option Feed) → s.feed ≡ o → OnFeedAt o (MayAsk s false number) → HandKept (after f (item.asked false number) s)
    at None e g = elim g [ ]
    at (Some d) e g =
        let t = record s { top = number } in
        let u = tells event.AskedReconnect t in
        composes_keeps f (out.reconnect u.session.client_cookie u.session.server_cookie number u.session.connect u.last) u (signed_less t u (tells_less event.AskedReconnect t).feed (subst (λ o. IfFed o (λ d. d.hand ≡ None)) (sym e) g.signed))
hand_keeps f (item.numbered number) s up l h = writes_kept f number (message_at (queues Next s).out.queue number) (queues Next s) h
hand_keeps f (item.accepted number key) s up l h = at s.feed refl h
  where
    at : (o : Option Feed) → s.feed ≡ o → IfFed o (HandSo s) → HandKept (after f (item.accepted number key) (record s { feed = o }))
    at None e g = tt
    at (Some d) e g = accepts_kept number key (next_said s.last d) d (record s { feed = Some d }) refl g
hand_keeps f (item.acked number) s up l h = h
hand_keeps f (item.obeyed full) s up l h = at s.feed l h
  where
    at : (o : Option Feed) → OnFeedAt o (MayObey s full) → IfFed o (HandSo s) → HandKept (after f (item.obeyed full) (record s { feed = o }))
    at None g k = elim g [ ]
    at (Some d) g k =
        let t = with_feed (takes_answer d) (record s { feed = Some d }) in
        signed_less t (tells (event.GotReset full) t) (tells_less (event.GotReset full) t).feed (signed_in s d phase.ReconnectSent g.phase reconnect_apart k)
hand_keeps f (item.down planned step) s up l h = elim up [ ]

-- ---- before both sides have signed nothing but what is begun may be put

pub begun_so : (f : SideFacts) (s : State) (d : Feed) → HandSo s d → (d.hand ≡ None) ⊎ (texts_at f s d ≡ d.texts)
begun_so f s d (inl none) = inl none
begun_so f s d (inr connecting) = inr (at (length d.texts == 0) refl)
  where
    no_length : {X : Type 0} (xs : List X) → (length xs == 0) ≡ true → xs ≡ []
    no_length [] e = refl
    no_length (x ∷ xs) e = let n = eqb-true (length (x ∷ xs)) 0 e in absurd (omega (arith, n))

    nothing : unnamed f s d ≡ []
    nothing = ap (λ p. if phases.is p phase.Ready then acknowledgements f s d ++ keepalive_answers f s d else []) connecting

    at : (b : Bool) → (length d.texts == 0) ≡ b → (if b then unnamed f s d else d.texts) ≡ d.texts
    at true e = nothing ∙ sym (no_length d.texts e)
    at false e = refl
