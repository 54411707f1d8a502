-- The event of each lawful entry has a row in the table of steps.
use Rattle.std.proofs.Common.{◌≡◌, ◌≢◌, ℕ, Bool, true, false, if◌then◌else◌, Option, Some, None, refl, sym, subst}
use Rattle.std.specs.Option.{is_some}
use Rattle.std.specs.Prelude.{IsTrue, IfSome, slice_get}
use Rattle.m2_session.specs.declared.ask.AskFacts.{AskFacts}
use Rattle.m2_session.specs.declared.cookie.CookieParts.{CookieParts}
use Rattle.m2_session.specs.Asks.{reconnect_of, told_of_ident, told_of_reconnect}
use Rattle.m2_session.specs.Cookies as cookies
use Rattle.m2_session.proofs.Dialling as dialling
use Rattle.m2_session.proofs.Draws.{tell_apart}
use Rattle.m2_handshake.specs.m2_control.declared.control.Control.TheVariants as control
use Rattle.m2_handshake.specs.m2_control.declared.server_ident.ServerIdent.{ServerIdent}
use Rattle.m2_fabric.specs.declared.socket.SocketId.{SocketId}
use Rattle.m2_session.specs.declared.answer.Answer.{Answer}
use Rattle.m2_session.specs.declared.answer.Answer.TheVariants as answer
use Rattle.m2_session.specs.declared.event.Event.{Event}
use Rattle.m2_session.specs.declared.event.Event.TheVariants as event
use Rattle.m2_session.specs.declared.session.Phase.{Phase}
use Rattle.m2_session.specs.declared.session.Phase.TheVariants as phase
use Rattle.m2_session.specs.declared.session.Session.{Session}
use Rattle.m2_session.specs.Ident.{ident_answer}
use Rattle.m2_session.specs.SessionLaws.{brings_feed, ident_event, reconnect_event}
use Rattle.m2_session.specs.Phases.{is_among, with_feed}
use Rattle.m2_session.specs.Reconnect.{Reconnect, reconnect_answer}
use Rattle.m2_session.specs.Steps.{is_lawful, step_of}
use Rattle.m2_session.proofs.Answers.{answers_are_lawful_lem, resumed_only, every_phase}
use Rattle.m2_journal.specs.Feeds.{answer_said, hears}
use Rattle.m2_journal.specs.Items as items
use Rattle.m2_journal.specs.Items.{JournalItem}
use Rattle.m2_journal.specs.Laws.{IsFed}
use Rattle.m2_journal.specs.Lawful.{Lawful, OnFeedAt, MayObey}
use Rattle.m2_journal.specs.Said.{Said, says, brings, aborts, garbles}
use Rattle.m2_journal.specs.SideFacts.{SideFacts, cookie_of}
use Rattle.m2_journal.specs.State.{Feed, State}
use Rattle.m2_journal.specs.Steps.{answer_event, event_at, event_heard, event_on, is_agreed, is_on, is_waiting, kept_of}
use Rattle.m2_journal.proofs.Cookies.{HasNoClient, HasServer, IsFit, Keeps, is_sound}
use Rattle.m2_journal.proofs.Idents.{MayKeep, SaysKept, brings_cookie, read_keeps}
use Rattle.m2_journal.proofs.Written.{not_zero}
use Rattle.m2_bytes.proofs.m2_lemmas.Booleans.{false_isnt_true}

-- ---- words

-- an event that has a row where the session stands, and after which its cookies are as they are to be
pub record IsFine (f : SideFacts) (s : Session) (e : Event) : Type 0 where
  pub lawful : IsTrue (is_lawful s e)
  pub fit : IsFit f s e

abbrev pub EventIsFine : SideFacts → Session → Option Event → Type 0
EventIsFine f s o = IfSome o (IsFine f s)

pub on_feed : {P : Feed → Type 0} (o : Option Feed) → OnFeedAt o P → (d : Feed) × P d
on_feed (Some d) h = (d, h)
on_feed None h = absurd h

fed_there : (o : Option Feed) (P : Feed → Type 0) (b : Bool) → OnFeedAt o P → is_some o ≡ b → b ≡ true
fed_there (Some d) P b h e = sym e
fed_there None P b h e = absurd h

-- ---- cookies that are drawn

drawn_for_none : (lossy : Bool) (n : ℕ) → HasNoClient lossy (if lossy then 0 else n)
drawn_for_none true n = refl
drawn_for_none false n = tt

no_client : (f : SideFacts) (number : ℕ) → HasNoClient f.policy.lossy (cookie_of f number)
no_client f number = drawn_for_none f.policy.lossy _

drawn_in_ready : (lossy : Bool) (d : CookieParts) → HasServer phase.Ready lossy (cookies.cookie_of lossy d)
drawn_in_ready true d = tt
drawn_in_ready false d = tell_apart.some d

has_server : (f : SideFacts) (number : ℕ) → HasServer phase.Ready f.policy.lossy (cookie_of f number)
has_server f number = drawn_in_ready f.policy.lossy _

-- ---- what is heard

-- heard in this phase, so that no feed is brought
pub record IsHeard (f : SideFacts) (p : Phase) (s : Session) (e : Event) : Type 0 where
  pub lawful : IsTrue (is_among p (step_of s e).lawful_in)
  pub feed : brings_feed e ≡ false
  pub fit : IsFit f s e

brought : (f : SideFacts) (i : ServerIdent) (lossy : Bool) → f.policy.lossy ≡ lossy →
    (f.policy.lossy ≡ false → i.cookie ≢ 0) → HasServer phase.Ready lossy i.cookie
brought f i true e some = tt
brought f i false e some = some e

ident_heard : (f : SideFacts) (s : Session) (i : ServerIdent) (b : Bool) → is_agreed f i ≡ b →
    SaysKept (says (control.ServerIdent i)) →
    IfSome (if b then Some (event.GotServerIdent i.cookie i.global) else None) (IsHeard f phase.IdentSent s)
ident_heard f s i true e kept = record { lawful = refl; feed = refl; fit = brought f i f.policy.lossy refl (brings_cookie f i kept e) }
ident_heard f s i false e kept = tt

in_ident_sent : (f : SideFacts) (s : Session) (o : Option Said) → MayKeep o →
    IfSome (answer_event f phase.IdentSent o) (IsHeard f phase.IdentSent s)
in_ident_sent f s (Some (says (control.ServerIdent i))) kept = ident_heard f s i (is_agreed f i) refl kept
in_ident_sent f s (Some (says (control.Wait p))) kept = record { lawful = refl; feed = refl; fit = tt }
in_ident_sent f s (Some (says (control.Hello p))) kept = tt
in_ident_sent f s (Some (says (control.AuthRequest p))) kept = tt
in_ident_sent f s (Some (says (control.AuthBadMethod p))) kept = tt
in_ident_sent f s (Some (says (control.AuthDone p))) kept = tt
in_ident_sent f s (Some (says (control.AuthSignature p))) kept = tt
in_ident_sent f s (Some (says (control.ClientIdent p))) kept = tt
in_ident_sent f s (Some (says (control.IdentMissingFeatures p))) kept = tt
in_ident_sent f s (Some (says (control.SessionReconnect p))) kept = tt
in_ident_sent f s (Some (says (control.SessionReset p))) kept = tt
in_ident_sent f s (Some (says (control.SessionRetry p))) kept = tt
in_ident_sent f s (Some (says (control.SessionRetryGlobal p))) kept = tt
in_ident_sent f s (Some (says (control.SessionReconnectOk p))) kept = tt
in_ident_sent f s (Some (says (control.Keepalive p))) kept = tt
in_ident_sent f s (Some (says (control.KeepaliveAck p))) kept = tt
in_ident_sent f s (Some (says (control.Ack p))) kept = tt
in_ident_sent f s (Some (brings m)) kept = tt
in_ident_sent f s (Some aborts) kept = tt
in_ident_sent f s (Some garbles) kept = tt
in_ident_sent f s None kept = tt

in_reconnect_sent : (f : SideFacts) (s : Session) (o : Option Said) → s.server_cookie ≢ 0 →
    IfSome (answer_event f phase.ReconnectSent o) (IsHeard f phase.ReconnectSent s)
in_reconnect_sent f s (Some (says (control.SessionReconnectOk p))) some = record { lawful = refl; feed = refl; fit = some }
in_reconnect_sent f s (Some (says (control.SessionRetry p))) some = record { lawful = refl; feed = refl; fit = tt }
in_reconnect_sent f s (Some (says (control.SessionRetryGlobal p))) some = record { lawful = refl; feed = refl; fit = tt }
in_reconnect_sent f s (Some (says (control.Wait p))) some = record { lawful = refl; feed = refl; fit = tt }
in_reconnect_sent f s (Some (says (control.ServerIdent i))) some = tt
in_reconnect_sent f s (Some (says (control.Hello p))) some = tt
in_reconnect_sent f s (Some (says (control.AuthRequest p))) some = tt
in_reconnect_sent f s (Some (says (control.AuthBadMethod p))) some = tt
in_reconnect_sent f s (Some (says (control.AuthDone p))) some = tt
in_reconnect_sent f s (Some (says (control.AuthSignature p))) some = tt
in_reconnect_sent f s (Some (says (control.ClientIdent p))) some = tt
in_reconnect_sent f s (Some (says (control.IdentMissingFeatures p))) some = tt
in_reconnect_sent f s (Some (says (control.SessionReconnect p))) some = tt
in_reconnect_sent f s (Some (says (control.SessionReset p))) some = tt
in_reconnect_sent f s (Some (says (control.Keepalive p))) some = tt
in_reconnect_sent f s (Some (says (control.KeepaliveAck p))) some = tt
in_reconnect_sent f s (Some (says (control.Ack p))) some = tt
in_reconnect_sent f s (Some (brings m)) some = tt
in_reconnect_sent f s (Some aborts) some = tt
in_reconnect_sent f s (Some garbles) some = tt
in_reconnect_sent f s None some = tt

in_phase : (f : SideFacts) (s : Session) (p : Phase) (o : Option Said) → MayKeep o →
    HasServer p f.policy.lossy s.server_cookie → IfSome (answer_event f p o) (IsHeard f p s)
in_phase f s phase.IdentSent o kept h = in_ident_sent f s o kept
in_phase f s phase.ReconnectSent o kept h = in_reconnect_sent f s o h
in_phase f s phase.Absent o kept h = tt
in_phase f s phase.Connecting o kept h = tt
in_phase f s phase.Ready o kept h = tt
in_phase f s phase.Standby o kept h = tt
in_phase f s phase.Wait o kept h = tt

-- what a feed says as the answer to an ask
pub heard : (f : SideFacts) (s : Session) (d : Feed) → Keeps f s →
    IfSome (event_heard f s.phase d) (IsHeard f s.phase s)
heard f s d h = in_phase f s s.phase (answer_said d) (read_keeps (slice_get d.got d.taken)) h.server

heard_is_fine : (f : SideFacts) (s : Session) (o : Option Event) → IfSome o (IsHeard f s.phase s) → EventIsFine f s o
heard_is_fine f s (Some e) h = record { lawful = h.lawful; fit = h.fit }
heard_is_fine f s None h = tt

-- ---- what is judged

took_ident : (f : SideFacts) (s : Session) (full : Bool) (client server global : ℕ) →
    HasNoClient f.policy.lossy client → HasServer phase.Ready f.policy.lossy server →
    IsFine f s (event.TookIdent full client server global)
took_ident f s full client server global none some = record { lawful = every_phase s.phase; fit = (none, some) }

ident_judged : (f : SideFacts) (s : Session) (a : Answer) (client server global : ℕ) →
    HasNoClient f.policy.lossy client → HasServer phase.Ready f.policy.lossy server →
    EventIsFine f s (ident_event a client server global)
ident_judged f s answer.Accept client server global none some = took_ident f s false client server global none some
ident_judged f s answer.AcceptOver client server global none some = took_ident f s false client server global none some
ident_judged f s (answer.AcceptReset full) client server global none some = took_ident f s full client server global none some
ident_judged f s answer.AcceptAgain client server global none some = took_ident f s false client server global none some
ident_judged f s answer.AcceptReplace client server global none some = took_ident f s false client server global none some
ident_judged f s answer.AcceptRace client server global none some = took_ident f s false client server global none some
ident_judged f s answer.Close client server global none some = tt
ident_judged f s answer.Wait client server global none some = tt
ident_judged f s (answer.Reset full) client server global none some = tt
ident_judged f s answer.ResetPending client server global none some = tt
ident_judged f s (answer.RetryGlobal number) client server global none some = tt
ident_judged f s (answer.Retry number) client server global none some = tt
ident_judged f s answer.Resume client server global none some = took_ident f s false client server global none some

-- what a session is told of a reconnect doesn't hang on the client cookie
pub same_event : (a : Answer) (ask : Reconnect) (client : ℕ) →
    reconnect_event a (record ask { client = client }) ≡ reconnect_event a ask
same_event answer.Accept ask client = refl
same_event answer.AcceptOver ask client = refl
same_event (answer.AcceptReset full) ask client = refl
same_event answer.AcceptAgain ask client = refl
same_event answer.AcceptReplace ask client = refl
same_event answer.AcceptRace ask client = refl
same_event answer.Close ask client = refl
same_event answer.Wait ask client = refl
same_event (answer.Reset full) ask client = refl
same_event answer.ResetPending ask client = refl
same_event (answer.RetryGlobal number) ask client = refl
same_event (answer.Retry number) ask client = refl
same_event answer.Resume ask client = refl

reconnect_fine : (f : SideFacts) (s : Session) (a : Answer) (ask : Reconnect) →
    (a ≡ answer.Resume → s.server_cookie ≢ 0) →
    IfSome (reconnect_event a ask) (λ e. IsTrue (is_lawful s e)) → EventIsFine f s (reconnect_event a ask)
reconnect_fine f s answer.Accept ask some h = tt
reconnect_fine f s answer.AcceptOver ask some h = tt
reconnect_fine f s (answer.AcceptReset full) ask some h = tt
reconnect_fine f s answer.AcceptAgain ask some h = tt
reconnect_fine f s answer.AcceptReplace ask some h = tt
reconnect_fine f s answer.AcceptRace ask some h = tt
reconnect_fine f s answer.Close ask some h = tt
reconnect_fine f s answer.Wait ask some h = tt
reconnect_fine f s (answer.Reset full) ask some h = tt
reconnect_fine f s answer.ResetPending ask some h = record { lawful = h; fit = tt }
reconnect_fine f s (answer.RetryGlobal number) ask some h = tt
reconnect_fine f s (answer.Retry number) ask some h = tt
reconnect_fine f s answer.Resume ask some h = record { lawful = h; fit = some refl }

reconnect_judged : (f : SideFacts) (s : Session) (ask : Reconnect) (written client : ℕ) → Keeps f s → ask.client ≢ 0 →
    EventIsFine f s (reconnect_event (reconnect_answer s ask written) (record ask { client = client }))
reconnect_judged f s ask written client h some =
    let a = reconnect_answer s ask written in
    subst (EventIsFine f s) (sym (same_event a ask client))
    (reconnect_fine f s a ask (λ e. (resumed_only s ask written e).kept) (answers_are_lawful_lem.reconnect s ask written (is_sound f s ask h some)))

judged : (f : SideFacts) (s : Session) (a : AskFacts) (b : Bool) (given : Answer) (written number : ℕ) → Keeps f s →
    (b ≡ false → a.client ≢ 0) →
    given ≡ (if b then ident_answer s a.client a.global else reconnect_answer s (reconnect_of a) written) →
    EventIsFine f s (if b then told_of_ident (kept_of f a) given (cookie_of f number) else told_of_reconnect (kept_of f a) given)
judged f s a true given written number h some e = ident_judged f s given _ _ a.global (drawn_for_none f.policy.lossy a.client) (has_server f number)
judged f s a false given written number h some e =
    subst (λ (z : Answer). EventIsFine f s (told_of_reconnect (kept_of f a) z)) (sym e) (reconnect_judged f s (reconnect_of a) written _ h (some refl))

-- ---- each entry

faulted : (f : SideFacts) (s : Session) (waits b : Bool) → (b ≡ true → is_among s.phase with_feed ≡ true) →
    EventIsFine f s (if b then Some (event.Faulted waits) else None)
faulted f s waits true fed = record { lawful = fed refl; fit = tt }
faulted f s waits false fed = tt

is_fed_on : (k : SocketId) (o : Option Feed) (b : Bool) → is_some o ≡ b → is_on k o ≡ true → b ≡ true
is_fed_on k (Some d) b fed e = sym fed
is_fed_on k None b fed e = absurd (false_isnt_true e)

reset : (f : SideFacts) (s : Session) (full : Bool) → s.phase ≡ phase.ReconnectSent → IsFine f s (event.GotReset full)
reset f s true e = record { lawful = rw e refl; fit = tt }
reset f s false e = record { lawful = rw e refl; fit = tt }

pub each_is_fine : (f : SideFacts) (i : JournalItem) (s : State) → Lawful f i s → Keeps f s.session → IsFed s →
    EventIsFine f s.session (event_at f i s)
each_is_fine f (items.post place planned) s law keeps fed = tt
each_is_fine f (items.dial planned) s law keeps fed = tt
each_is_fine f (items.opened k) s law keeps fed = record { lawful = dialling.are_lawful s.session (is_waiting s) s.dials law.due; fit = tt }
each_is_fine f (items.read k bytes) s law keeps fed = at s.feed
  where
    at : (o : Option Feed) → EventIsFine f s.session (event_on o (λ d. event_heard f s.session.phase (hears bytes d)))
    at (Some d) = heard_is_fine f s.session _ (heard f s.session (hears bytes d) keeps)
    at None = tt
each_is_fine f (items.wrote k bytes) s law keeps fed = tt
each_is_fine f (items.closed k broken) s law keeps fed = faulted f s.session (is_waiting s) (is_on k s.feed) (is_fed_on k s.feed (is_among s.session.phase with_feed) fed)
each_is_fine f (items.judged k a number given unread trail) s law keeps fed =
    judged f s.session a a.ident given s.out.queue.written number keeps (λ e. (law.readable.reconnect e).0) law.by_the_tables
each_is_fine f (items.asked true number) s law keeps fed =
    let may = on_feed s.feed law in
    record { lawful = rw may.1.phase refl; fit = no_client f number }
each_is_fine f (items.asked false number) s law keeps fed =
    let may = on_feed s.feed law in
    record { lawful = rw may.1.phase refl; fit = not_zero s.session.server_cookie (sym may.1.of_kind) }
each_is_fine f (items.numbered number) s law keeps fed = tt
each_is_fine f (items.accepted number key) s law keeps fed = tt
each_is_fine f (items.acked number) s law keeps fed = tt
each_is_fine f (items.obeyed full) s law keeps fed = at s.feed law
  where
    at : (o : Option Feed) → OnFeedAt o (MayObey s full) →
        EventIsFine f s.session (event_on o (λ d. Some (event.GotReset full)))
    at (Some d) may = reset f s.session full may.phase
    at None may = tt
each_is_fine f (items.down planned step) s law keeps fed = record { lawful = every_phase s.session.phase; fit = tt }
