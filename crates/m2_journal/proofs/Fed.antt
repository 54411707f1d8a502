-- Wherever lawful entries have led there is a feed exactly where the session's phase has one, and the event of the next
-- lawful entry has a row in the table of steps.
use Rattle.std.proofs.Common.{◌≡◌, ℕ, ◌+◌, Bool, true, false, if◌then◌else◌, List, [], ◌∷◌, Option, Some, None, refl, sym, subst, ap, ◌∙◌}
use Rattle.std.specs.Option.{is_some}
use Rattle.std.specs.Prelude.{IsTrue, IfSome}
use Rattle.m2_session.specs.declared.ask.AskFacts.{AskFacts}
use Rattle.m2_session.specs.Asks.{reconnect_of, told_of_ident, told_of_reconnect}
use Rattle.m2_fabric.specs.declared.socket.SocketId.{SocketId}
use Rattle.m2_message.specs.Message.{Content}
use Rattle.m2_policy.specs.declared.path.Key.{Key}
use Rattle.m2_session.specs.declared.answer.Answer.{Answer}
use Rattle.m2_session.specs.declared.answer.Answer.TheVariants as answer
use Rattle.m2_session.specs.declared.event.Event.{Event}
use Rattle.m2_session.specs.declared.event.Event.TheVariants as event
use Rattle.m2_session.specs.declared.session.Phase.{Phase}
use Rattle.m2_session.specs.declared.session.Phase.TheVariants.{Ready}
use Rattle.m2_session.specs.declared.session.Session.{Session}
use Rattle.m2_session.specs.Ident.{ident_answer}
use Rattle.m2_session.specs.SessionLaws as session
use Rattle.m2_session.specs.SessionLaws.{brings_feed, count_of, has_feed, ident_event, reconnect_event}
use Rattle.m2_session.specs.Phases as phases
use Rattle.m2_session.specs.Reconnect.{Reconnect, reconnect_answer}
use Rattle.m2_session.specs.Steps.{is_lawful, step_of}
use Rattle.m2_session.proofs.Answers.{taken_is_ready_lem}
use Rattle.m2_session.proofs.Feeds.{one_feed}
use Rattle.m2_queues.specs.QueueLaws.{Requeue}
use Rattle.m2_journal.specs.Feeds.{hears, next_said}
use Rattle.m2_journal.specs.Items as items
use Rattle.m2_journal.specs.Items.{JournalItem}
use Rattle.m2_journal.specs.Laws.{EventIsLawful, EventsAreLawful, IsFed}
use Rattle.m2_journal.specs.Lawful.{Lawful}
use Rattle.m2_journal.specs.OutFrames as out
use Rattle.m2_journal.specs.OutFrames.{OutFrame, is_unnamed, replies_of}
use Rattle.m2_journal.specs.Plan.{Planned, to_post, to_dial, to_go_down}
use Rattle.m2_journal.specs.Replay.{AreLawful, after_items}
use Rattle.m2_journal.specs.Said.{Said, says, brings, aborts, garbles}
use Rattle.m2_journal.specs.SideFacts.{SideFacts, cookie_of}
use Rattle.m2_journal.specs.State.{PartText, Feed, State, start}
use Rattle.m2_journal.specs.Steps.{accepts, after, answers, breaks, closes, composes, discards, event_at, event_heard, event_of, event_on, forgets, has_effects, is_on, is_waiting, kept_of, notes, on_feed_at, posts, puts, puts_on, queues, reads, sends, sends_late, sets_back, takes_answer, takes_answer_if, takes_socket, tells, tells_if, tells_of_reset, where_true, with_feed, writes_message}
use Rattle.m2_journal.proofs.Cookies.{IsFit, Keeps, starts, told_keeps}
use Rattle.m2_journal.proofs.Eventful.{EventIsFine, IsHeard, each_is_fine, heard, same_event}
use Rattle.m2_journal.proofs.Sessions.{goes, tells-session, told-session}
use Rattle.m2_bytes.proofs.m2_lemmas.Booleans.{false_isnt_true}

-- ---- effects

where_true-feed : (b : Bool) (change : State → State) (s : State) → is_some (change s).feed ≡ is_some s.feed →
    is_some (where_true b change s).feed ≡ is_some s.feed
where_true-feed true change s e = e
where_true-feed false change s e = refl

closes-feed : (close : Bool) (s : State) →
    is_some (where_true close closes s).feed ≡ (if close then false else is_some s.feed)
closes-feed true s = at s.feed
  where
    at : (o : Option Feed) → is_some (closes (record s { feed = o })).feed ≡ false
    at (Some d) = refl
    at None = refl
closes-feed false s = refl

sets_back-feed : (s : State) → is_some (sets_back s).feed ≡ is_some s.feed
sets_back-feed s = at s.feed
  where
    at : (o : Option Feed) → is_some (sets_back (record s { feed = o })).feed ≡ is_some o
    at (Some d) = refl
    at None = refl

effects-feed : (close requeue back discard remote_reset : Bool) (s : State) →
    is_some (has_effects (record { close = close; requeue = requeue; set_back = back; discard = discard; remote_reset = remote_reset }) s).feed ≡ (if close then false else is_some s.feed)
effects-feed close requeue back discard remote_reset s =
    let closed = where_true close closes s in
    let queued = where_true requeue (queues Requeue) closed in
    let low = where_true back sets_back queued in
    let thrown = where_true discard discards low in
    where_true-feed remote_reset tells_of_reset thrown refl
    ∙ (where_true-feed discard discards low refl
    ∙ (where_true-feed back sets_back queued (sets_back-feed queued)
    ∙ (where_true-feed requeue (queues Requeue) closed refl
    ∙ closes-feed close s)))

-- ---- what is told

-- an event that brings no feed leaves one exactly where it doesn't close
left_by : (before after close brings : Bool) →
    count_of after ≡ (if close then 0 else count_of before) + count_of brings → brings ≡ false →
    (if close then false else before) ≡ after
left_by before after close true e none = absurd (false_isnt_true (sym none))
left_by before false true false e none = refl
left_by before true true false e none = cc
left_by true true false false e none = refl
left_by true false false false e none = cc
left_by false true false false e none = cc
left_by false false false false e none = refl

-- an event that is lawful and brings no feed
record IsQuiet (s : Session) (e : Event) : Type 0 where
  pub lawful : IsTrue (is_lawful s e)
  pub feed : brings_feed e ≡ false

-- a phase with a feed, as an equation between states
with_phase : (s t : Session) → s ≡ t → has_feed t ≡ has_feed s
with_phase s t e = ap has_feed (sym e)

tells-fed : (e : Event) (s : State) → IsQuiet s.session e → IsFed s → IsFed (tells e s)
tells-fed e s quiet fed =
    let step = step_of s.session e in
    let o = step.effects in
    let left = effects-feed o.close o.requeue o.set_back o.discard o.remote_reset (record s { session = step.session }) in
    let counted = one_feed.counted s.session e quiet.lawful in
    let goes_so = left_by (has_feed s.session) (has_feed step.session) o.close (brings_feed e) counted quiet.feed in
    left ∙ (ap (λ (b : Bool). if o.close then false else b) fed ∙ (goes_so ∙ with_phase _ _ (tells-session e s)))

tells_if-fed : (o : Option Event) (s : State) → IfSome o (IsQuiet s.session) → IsFed s → IsFed (tells_if o s)
tells_if-fed (Some e) s quiet fed = tells-fed e s quiet fed
tells_if-fed None s quiet fed = fed

-- ---- what composes and sends

composes-fed : (f : SideFacts) (w : OutFrame) (s : State) → IsFed s → IsFed (composes f w s)
composes-fed f w s fed = at s.feed fed
  where
    at : (o : Option Feed) → IsFed (record s { feed = o }) → IsFed (composes f w (record s { feed = o }))
    at (Some d) h = h
    at None h = h

sends_late-fed : (k : SocketId) (w : OutFrame) (s : State) → IsFed s → IsFed (sends_late k w s)
sends_late-fed k w s fed = at (is_unnamed w)
  where
    at : (b : Bool) → IsFed (if b then sends k (w ∷ []) s else s)
    at true = fed
    at false = fed

puts_on-fed : (o : Option PartText) (texts : List PartText) (d : Feed) (s : State) → true ≡ has_feed s.session →
    IsFed (puts_on o texts d s)
puts_on-fed (Some t) texts d s fed = sends_late-fed d.socket t.frame _ fed
puts_on-fed None texts d s fed = fed

writes_message-fed : (f : SideFacts) (n : ℕ) (o : Option Content) (s : State) → IsFed s → IsFed (writes_message f n o s)
writes_message-fed f n (Some m) s fed = composes-fed f (out.message n s.last m) s fed
writes_message-fed f n None s fed = fed

posts-fed : (o : Option Planned) (s : State) → IsFed s → IsFed (posts o s)
posts-fed (Some (to_post m)) s fed = fed
posts-fed (Some to_dial) s fed = fed
posts-fed (Some to_go_down) s fed = fed
posts-fed None s fed = fed

accepts-fed : (n : ℕ) (key : Key) (o : Option Said) (d : Feed) (s : State) → s.feed ≡ Some d → IsFed s →
    IsFed (accepts n key o d s)
accepts-fed n key (Some (brings m)) d s e fed = ap is_some (sym e) ∙ fed
accepts-fed n key (Some (says c)) d s e fed = fed
accepts-fed n key (Some aborts) d s e fed = fed
accepts-fed n key (Some garbles) d s e fed = fed
accepts-fed n key None d s e fed = fed

-- ---- what is judged

-- an answer that takes no socket tells of nothing, or that an ask is pending
ident_quiet : (s : Session) (a : Answer) (client server global : ℕ) → session.takes a ≡ false →
    IfSome (ident_event a client server global) (λ e. brings_feed e ≡ false)
ident_quiet s answer.Accept client server global e = absurd (false_isnt_true (sym e))
ident_quiet s answer.AcceptOver client server global e = absurd (false_isnt_true (sym e))
ident_quiet s (answer.AcceptReset full) client server global e = absurd (false_isnt_true (sym e))
ident_quiet s answer.AcceptAgain client server global e = absurd (false_isnt_true (sym e))
ident_quiet s answer.AcceptReplace client server global e = absurd (false_isnt_true (sym e))
ident_quiet s answer.AcceptRace client server global e = absurd (false_isnt_true (sym e))
ident_quiet s answer.Close client server global e = tt
ident_quiet s answer.Wait client server global e = tt
ident_quiet s (answer.Reset full) client server global e = tt
ident_quiet s answer.ResetPending client server global e = tt
ident_quiet s (answer.RetryGlobal number) client server global e = tt
ident_quiet s (answer.Retry number) client server global e = tt
ident_quiet s answer.Resume client server global e = absurd (false_isnt_true (sym e))

reconnect_quiet : (a : Answer) (ask : Reconnect) → session.takes a ≡ false →
    IfSome (reconnect_event a ask) (λ e. brings_feed e ≡ false)
reconnect_quiet answer.Accept ask e = tt
reconnect_quiet answer.AcceptOver ask e = tt
reconnect_quiet (answer.AcceptReset full) ask e = tt
reconnect_quiet answer.AcceptAgain ask e = tt
reconnect_quiet answer.AcceptReplace ask e = tt
reconnect_quiet answer.AcceptRace ask e = tt
reconnect_quiet answer.Close ask e = tt
reconnect_quiet answer.Wait ask e = tt
reconnect_quiet (answer.Reset full) ask e = tt
reconnect_quiet answer.ResetPending ask e = refl
reconnect_quiet (answer.RetryGlobal number) ask e = tt
reconnect_quiet (answer.Retry number) ask e = tt
reconnect_quiet answer.Resume ask e = absurd (false_isnt_true (sym e))

judged_quiet : (f : SideFacts) (s : Session) (a : AskFacts) (b : Bool) (given : Answer) (server : ℕ) →
    session.takes given ≡ false →
    IfSome (if b then told_of_ident (kept_of f a) given server else told_of_reconnect (kept_of f a) given) (λ e. brings_feed e ≡ false)
judged_quiet f s a true given server e = ident_quiet s given _ server a.global e
judged_quiet f s a false given server e = reconnect_quiet given _ e

both : (f : SideFacts) (s : Session) (o : Option Event) → EventIsFine f s o → IfSome o (λ e. brings_feed e ≡ false) →
    IfSome o (IsQuiet s)
both f s (Some e) fine none = record { lawful = fine.lawful; feed = none }
both f s None fine none = tt

-- an answer that takes the socket leaves the session Ready
ident_taken : (s : Session) (a : Answer) (client server global : ℕ) → session.takes a ≡ true →
    has_feed (session.told s (ident_event a client server global)) ≡ true
ident_taken s answer.Accept client server global e = refl
ident_taken s answer.AcceptOver client server global e = refl
ident_taken s (answer.AcceptReset full) client server global e = refl
ident_taken s answer.AcceptAgain client server global e = refl
ident_taken s answer.AcceptReplace client server global e = refl
ident_taken s answer.AcceptRace client server global e = refl
ident_taken s answer.Close client server global e = absurd (false_isnt_true e)
ident_taken s answer.Wait client server global e = absurd (false_isnt_true e)
ident_taken s (answer.Reset full) client server global e = absurd (false_isnt_true e)
ident_taken s answer.ResetPending client server global e = absurd (false_isnt_true e)
ident_taken s (answer.RetryGlobal number) client server global e = absurd (false_isnt_true e)
ident_taken s (answer.Retry number) client server global e = absurd (false_isnt_true e)
ident_taken s answer.Resume client server global e = refl

ready_has_feed : (p : Phase) → p ≡ Ready → phases.is_among p phases.with_feed ≡ true
ready_has_feed p e = rw e refl

judged_taken : (f : SideFacts) (s : Session) (a : AskFacts) (b : Bool) (given : Answer) (written server : ℕ) →
    session.takes given ≡ true →
    given ≡ (if b then ident_answer s a.client a.global else reconnect_answer s (reconnect_of a) written) →
    has_feed (session.told s (if b then told_of_ident (kept_of f a) given server else told_of_reconnect (kept_of f a) given)) ≡ true
judged_taken f s a true given written server takes e = ident_taken s given _ server a.global takes
judged_taken f s a false given written server takes e =
    let ask = reconnect_of a in
    let ready = taken_is_ready_lem.reconnect s ask written (subst (λ (z : Answer). session.takes z ≡ true) e takes) in
    let told_so = subst (λ (z : Answer). (session.told s (reconnect_event z ask)).phase ≡ Ready) (sym e) ready in
    ready_has_feed _ (subst (λ (z : Option Event). (session.told s z).phase ≡ Ready) (sym (same_event given ask _)) told_so)

takes_socket-fed : (f : SideFacts) (k : SocketId) (a : AskFacts) (n : ℕ) (unread : List ℕ) (s : State) →
    has_feed s.session ≡ true → IsFed (takes_socket f k a n unread s)
takes_socket-fed f k a n unread s h = sym h

answers-fed : (f : SideFacts) (k : SocketId) (a : AskFacts) (n : ℕ) (given : Answer) (unread : List ℕ) (s : State) →
    (session.takes given ≡ true → has_feed s.session ≡ true) → (session.takes given ≡ false → IsFed s) → IsFed (answers f k a n given unread s)
answers-fed f k a n given unread s ready fed = at (session.takes given) ready fed
  where
    at : (b : Bool) → (b ≡ true → has_feed s.session ≡ true) → (b ≡ false → IsFed s) →
        IsFed (if b then takes_socket f k a n unread s else sends k (replies_of given) s)
    at true ready fed = takes_socket-fed f k a n unread s (ready refl)
    at false ready fed = fed refl

-- ---- each entry

quiet_heard : (f : SideFacts) (s : Session) (o : Option Event) → IfSome o (IsHeard f s.phase s) → IfSome o (IsQuiet s)
quiet_heard f s (Some e) h = record { lawful = h.lawful; feed = h.feed }
quiet_heard f s None h = tt

dialled_fed : (s : State) → true ≡ has_feed (tells event.Dialled s).session
dialled_fed s = ap has_feed (sym (tells-session event.Dialled s))

after-fed : (f : SideFacts) (i : JournalItem) (s : State) → Lawful f i s → Keeps f s.session → IsFed s →
    EventIsFine f s.session (event_at f i s) → IsFed (after f i s)
after-fed f (items.post place planned) s law keeps fed fine = posts-fed planned (record s { steps = s.steps + 1 }) fed
after-fed f (items.dial planned) s law keeps fed fine = fed
after-fed f (items.opened k) s law keeps fed fine = dialled_fed s
after-fed f (items.read k bytes) s law keeps fed fine = at s.feed fed
  where
    at : (o : Option Feed) → is_some o ≡ has_feed s.session →
        IsFed (on_feed_at o (λ d. reads f (hears bytes d)) (record s { feed = o }))
    at (Some d) p =
        let e = hears bytes d in
        let o = event_heard f s.session.phase e in
        tells_if-fed o (with_feed (takes_answer_if o e) (record s { feed = Some d })) (quiet_heard f s.session o (heard f s.session e keeps)) p
    at None p = p
after-fed f (items.wrote k bytes) s law keeps fed fine = at s.feed fed
  where
    at : (o : Option Feed) → is_some o ≡ has_feed s.session →
        IsFed (on_feed_at o (puts f bytes) (record s { feed = o }))
    at (Some d) p = puts_on-fed _ _ d (record s { feed = Some d }) p
    at None p = p
after-fed f (items.closed k broken) s law keeps fed fine = at (is_on k s.feed) fine
  where
    at : (b : Bool) → EventIsFine f s.session (if b then Some (event.Faulted (is_waiting s)) else None) →
        IsFed (if b then breaks s else forgets k s)
    at true h = tells-fed (event.Faulted (is_waiting s)) s (record { lawful = h.lawful; feed = refl }) fed
    at false h = fed
after-fed f (items.judged k a n given unread trail) s law keeps fed fine =
    let o = event_of f a n given in
    let t = notes k a n given s in
    answers-fed f k a n given unread (tells_if o t)
    (λ takes. ap has_feed (told-session o t) ∙ judged_taken f s.session a a.ident given s.out.queue.written (cookie_of f n) takes law.by_the_tables)
    (λ stays. tells_if-fed o t (both f s.session o fine (judged_quiet f s.session a a.ident given (cookie_of f n) stays)) fed)
after-fed f (items.asked true n) s law keeps fed fine =
    composes-fed f _ _ (tells-fed (event.AskedIdent (cookie_of f n)) (record s { top = n }) (record { lawful = fine.lawful; feed = refl }) fed)
after-fed f (items.asked false n) s law keeps fed fine =
    composes-fed f _ _ (tells-fed event.AskedReconnect (record s { top = n }) (record { lawful = fine.lawful; feed = refl }) fed)
after-fed f (items.numbered n) s law keeps fed fine = writes_message-fed f n _ _ fed
after-fed f (items.accepted n key) s law keeps fed fine = at s.feed fed
  where
    at : (o : Option Feed) → is_some o ≡ has_feed s.session →
        IsFed (on_feed_at o (λ d. accepts n key (next_said s.last d) d) (record s { feed = o }))
    at (Some d) p = accepts-fed n key (next_said s.last d) d (record s { feed = Some d }) refl p
    at None p = p
after-fed f (items.acked n) s law keeps fed fine = fed
after-fed f (items.obeyed full) s law keeps fed fine = at s.feed fed fine
  where
    at : (o : Option Feed) → is_some o ≡ has_feed s.session →
        EventIsFine f s.session (event_on o (λ d. Some (event.GotReset full))) →
        IsFed (on_feed_at o (λ d t. tells (event.GotReset full) (with_feed (takes_answer d) t)) (record s { feed = o }))
    at (Some d) p h = tells-fed (event.GotReset full) (with_feed (takes_answer d) (record s { feed = Some d })) (record { lawful = h.lawful; feed = refl }) p
    at None p h = p
after-fed f (items.down planned step) s law keeps fed fine = tells-fed event.MarkedDown s (record { lawful = fine.lawful; feed = refl }) fed

-- ---- the invariant

pub record Stands (f : SideFacts) (s : State) : Type 0 where
  pub keeps : Keeps f s.session
  pub fed : IsFed s

fit_of : (f : SideFacts) (s : Session) (o : Option Event) → EventIsFine f s o → IfSome o (IsFit f s)
fit_of f s (Some e) h = h.fit
fit_of f s None h = tt

lawful_of : (f : SideFacts) (s : Session) (o : Option Event) → EventIsFine f s o →
    IfSome o (λ e. IsTrue (is_lawful s e))
lawful_of f s (Some e) h = h.lawful
lawful_of f s None h = tt

after-stands : (f : SideFacts) (i : JournalItem) (s : State) → Lawful f i s → Stands f s → Stands f (after f i s)
after-stands f i s law h =
    let fine = each_is_fine f i s law h.keeps h.fed in
    let told_so = told_keeps f s.session (event_at f i s) (fit_of f s.session (event_at f i s) fine) h.keeps in
    record { keeps = subst (Keeps f) (sym (goes f i s)) told_so; fed = after-fed f i s law h.keeps h.fed fine }

all-stand : (f : SideFacts) (is : List JournalItem) (s : State) → AreLawful f is s → Stands f s →
    Stands f (after_items f is s)
all-stand f [] s law h = h
all-stand f (i ∷ is) s law h = all-stand f is (after f i s) law.1 (after-stands f i s law.0 h)

pub stands : (f : SideFacts) (is : List JournalItem) → AreLawful f is (start f) → Stands f (after_items f is (start f))
stands f is law = all-stand f is (start f) law (record { keeps = starts f; fed = refl })

next_is_lawful : (f : SideFacts) (i : JournalItem) (s : State) → Lawful f i s → Stands f s → EventIsLawful f i s
next_is_lawful f i s law h = lawful_of f s.session (event_at f i s) (each_is_fine f i s law h.keeps h.fed)

pub are_lawful : EventsAreLawful
are_lawful = record {
  fed = λ f is law. (stands f is law).fed;
  lawful = λ f is i law next. next_is_lawful f i (after_items f is (start f)) next (stands f is law);
}
