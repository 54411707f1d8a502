-- What a reader expects of the tables, in the subject's own words.
use Rattle.std.specs.Prelude.{◌≡◌, ◌≢◌, ℕ, ◌+◌, ◌≤◌, max, Bool, true, false, ◌||◌, if◌then◌else◌, ◌⊎◌, IsTrue, Option, Some, None, IfSome}
use Rattle.m2_session.specs.declared.session.Phase.TheVariants.{Absent, Ready, Standby, Wait}
use Rattle.m2_session.specs.declared.session.Session.{Session}
use Rattle.m2_session.specs.declared.answer.Answer.{Answer}
use Rattle.m2_session.specs.declared.answer.Answer.TheVariants.{Accept, AcceptOver, AcceptReset, AcceptAgain, AcceptReplace, AcceptRace, ResetPending, Resume}
use Rattle.m2_session.specs.declared.event.Event.{Event}
use Rattle.m2_session.specs.declared.event.Event.TheVariants.{Dialled, GotServerIdent, GotReset, GotRetry, TookIdent, TookReconnect, Pending, Faulted, MarkedDown}
use Rattle.m2_session.specs.declared.event.Effects.{Effects}
use Rattle.m2_session.specs.Table.{IsReadInOrder}
use Rattle.m2_session.specs.Phases.{is, is_among, with_feed}
use Rattle.m2_session.specs.Conditions.{is_kept, differs}
use Rattle.m2_session.specs.Ident.{IdentRow, ident_answer}
use Rattle.m2_session.specs.Reconnect.{Reconnect, ReconnectRow, reconnect_answer}
use Rattle.m2_session.specs.Steps.{FaultRow, step_of, is_lawful}

-- ---- reading the tables

pub record AreReadInOrder : Type 0 where
  pub ident : IsReadInOrder IdentRow Answer
  pub reconnect : IsReadInOrder ReconnectRow Answer
  pub fault : IsReadInOrder FaultRow (Session × Effects)

-- ---- from an answer to the session

-- The answer takes the socket on which the ask came.
abbrev pub takes : Answer → Bool
takes Accept = true
takes AcceptOver = true
takes (AcceptReset full) = true
takes AcceptAgain = true
takes AcceptReplace = true
takes AcceptRace = true
takes Resume = true
takes _ = false

-- What a session is told of its answer to an ident; `server` is the cookie that was drawn for SERVER_IDENT.
-- An answer that takes no socket changes nothing.
abbrev pub ident_event : Answer → ℕ → ℕ → ℕ → Option Event
ident_event (AcceptReset full) client server global = Some (TookIdent full client server global)
ident_event answer client server global = if takes answer then Some (TookIdent false client server global) else None

-- What it is told of its answer to a reconnect.
abbrev pub reconnect_event : Answer → Reconnect → Option Event
reconnect_event Resume ask = Some (TookReconnect ask.global ask.connect)
reconnect_event ResetPending ask = Some Pending
reconnect_event _ ask = None

abbrev pub told : Session → Option Event → Session
told s None = s
told s (Some e) = (step_of s e).session

abbrev pub after_ident : Session → ℕ → ℕ → ℕ → Session
after_ident s client server global = told s (ident_event (ident_answer s client global) client server global)

abbrev pub after_reconnect : Session → Reconnect → ℕ → Session
after_reconnect s ask written = told s (reconnect_event (reconnect_answer s ask written) ask)

-- An answer that takes the socket leaves the session Ready.
pub record TakenIsReady : Type 0 where
  pub ident : (s : Session) (client server global : ℕ) →
      IsTrue (takes (ident_answer s client global)) → (after_ident s client server global).phase ≡ Ready
  pub reconnect : (s : Session) (ask : Reconnect) (written : ℕ) →
      IsTrue (takes (reconnect_answer s ask written)) → (after_reconnect s ask written).phase ≡ Ready

-- A lossless session that is Ready has a server cookie; a lossy one keeps the client cookie 0, which no
-- reconnect carries.
abbrev pub IsSound : Session → Reconnect → Type 0
IsSound s ask = IsTrue (is s.phase Ready) → IsTrue (is_kept s.server_cookie || differs s.client_cookie ask.client)

-- What a session is told of an answer is lawful in its phase.
pub record AnswersAreLawful : Type 0 where
  pub ident : (s : Session) (client server global : ℕ) →
      IfSome (ident_event (ident_answer s client global) client server global) (λ e. IsTrue (is_lawful s e))
  pub reconnect : (s : Session) (ask : Reconnect) (written : ℕ) → IsSound s ask →
      IfSome (reconnect_event (reconnect_answer s ask written) ask) (λ e. IsTrue (is_lawful s e))

-- ---- the peer's global number

abbrev pub is_resumption : Event → Bool
is_resumption (TookReconnect global connect) = true
is_resumption _ = false

-- No answer lowers it. Of the events a resumption alone can: it sets the number of the reconnect, which is no lower
-- where that reconnect was judged.
pub record PeerGlobalNeverFalls : Type 0 where
  pub ident : (s : Session) (client server global : ℕ) → s.peer_global ≤ (after_ident s client server global).peer_global
  pub reconnect : (s : Session) (ask : Reconnect) (written : ℕ) → s.peer_global ≤ (after_reconnect s ask written).peer_global
  pub event : (s : Session) (e : Event) → is_resumption e ≡ false → s.peer_global ≤ (step_of s e).session.peer_global

-- ---- the feed

abbrev pub has_feed : Session → Bool
has_feed s = is_among s.phase with_feed

-- The event brings a feed: a socket was opened, or one on which the peer asked was taken.
abbrev pub brings_feed : Event → Bool
brings_feed Dialled = true
brings_feed (TookIdent full client server global) = true
brings_feed (TookReconnect global connect) = true
brings_feed _ = false

abbrev pub count_of : Bool → ℕ
count_of b = if b then 1 else 0

-- A feed that there was is left only by closing it, and one that there wasn't is only brought. So the feeds, counted,
-- are after each step just what its phase says: none or one.
pub record AtMostOneFeed : Type 0 where
  pub left : (s : Session) (e : Event) → IsTrue (is_lawful s e) → has_feed s ≡ true →
      has_feed (step_of s e).session ≡ false → (step_of s e).effects.close ≡ true
  pub entered : (s : Session) (e : Event) → IsTrue (is_lawful s e) → has_feed s ≡ false →
      has_feed (step_of s e).session ≡ true → brings_feed e ≡ true
  pub counted : (s : Session) (e : Event) → IsTrue (is_lawful s e) →
      count_of (has_feed (step_of s e).session) ≡ (if (step_of s e).effects.close then 0 else count_of (has_feed s)) + count_of (brings_feed e)

-- ---- the connect number

-- the connect number that the event has read from the peer, 0 where it has none
abbrev pub connect_read : Event → ℕ
connect_read (GotRetry number) = number
connect_read (TookReconnect global connect) = connect
connect_read _ = 0

-- It is at most one above the greater of what was kept and what was read.
abbrev pub ConnectRisesByOne : Type 0
ConnectRisesByOne = (s : Session) (e : Event) → (step_of s e).session.connect ≤ max s.connect (connect_read e) + 1

-- ---- resumption

-- A reconnect is resumed only where it names the session by both its cookies, of which the server's is none
-- of 0.
pub record IsOfSession (s : Session) (ask : Reconnect) : Type 0 where
  pub client : ask.client ≡ s.client_cookie
  pub server : ask.server ≡ s.server_cookie
  pub kept : s.server_cookie ≢ 0

abbrev pub ResumedOnlyWithItsCookies : Type 0
ResumedOnlyWithItsCookies = (s : Session) (ask : Reconnect) (written : ℕ) →
    reconnect_answer s ask written ≡ Resume → IsOfSession s ask

-- ---- ResetPending

-- No socket is left on which an answer could still come.
pub record PendingLeavesNothingPending : Type 0 where
  pub phase : (s : Session) → ((step_of s Pending).session.phase ≡ Standby) ⊎ ((step_of s Pending).session.phase ≡ Wait)
  pub no_feed : (s : Session) → is_among (step_of s Pending).session.phase with_feed ≡ false
  pub closed : (s : Session) → (step_of s Pending).effects.close ≡ true

-- ---- messages

pub data Loss : Type 0 where
  nothing_lost : Loss
  numbers_begin_again : Loss
  thrown_away : Loss

-- what effects do to the messages of a session
abbrev pub loss_of : Effects → Loss
loss_of e = if e.discard then thrown_away else if e.set_back then numbers_begin_again else nothing_lost

-- Messages are thrown away by a reset in full, by the fault of a lossy socket and by a mark-down; their
-- numbers begin again where a session is established or reset; every other event leaves both alone.
abbrev pub loss_by : Session → Event → Loss
loss_by s (GotReset full) = if full then thrown_away else numbers_begin_again
loss_by s (TookIdent full client server global) = if full then thrown_away else numbers_begin_again
loss_by s (GotServerIdent cookie global) = numbers_begin_again
loss_by s (Faulted waits) = if s.policy.lossy then thrown_away else nothing_lost
loss_by s MarkedDown = thrown_away
loss_by s _ = nothing_lost

abbrev pub LostOnlySo : Type 0
LostOnlySo = (s : Session) (e : Event) → loss_of (step_of s e).effects ≡ loss_by s e

-- ---- mark-down

-- A session that is marked down has no cookie and no feed.
pub record MarkDownForgets : Type 0 where
  pub phase : (s : Session) → (step_of s MarkedDown).session.phase ≡ Absent
  pub client : (s : Session) → (step_of s MarkedDown).session.client_cookie ≡ 0
  pub server : (s : Session) → (step_of s MarkedDown).session.server_cookie ≡ 0
  pub closed : (s : Session) → (step_of s MarkedDown).effects.close ≡ true
