-- Which cookies a session keeps, by its policy and its phase, and that events that fit leave it so.
use Rattle.std.proofs.Common.{◌≡◌, ◌≢◌, ℕ, Bool, true, false, ◌||◌, if◌then◌else◌, refl, sym, ne_eqb}
use Rattle.std.specs.Prelude.{IsTrue, IfSome, Option, Some, None}
use Rattle.m2_session.specs.declared.event.Effects.{Effects}
use Rattle.m2_session.specs.declared.event.Event.{Event}
use Rattle.m2_session.specs.declared.event.Event.TheVariants.{Dialled, AskedIdent, AskedReconnect, GotServerIdent, GotReconnectOk, GotReset, GotRetry, GotRetryGlobal, GotWait, TookIdent, TookReconnect, Pending, Faulted, MarkedDown}
use Rattle.m2_session.specs.declared.session.Phase.{Phase}
use Rattle.m2_session.specs.declared.session.Phase.TheVariants as phase
use Rattle.m2_session.specs.declared.session.Phase.TheVariants.{Absent, Connecting, IdentSent, ReconnectSent, Ready, Standby}
use Rattle.m2_session.specs.declared.session.Session.{Session}
use Rattle.m2_session.specs.Conditions.{differs, is_kept}
use Rattle.m2_session.specs.SessionLaws.{IsSound, told}
use Rattle.m2_session.specs.Phases.{is}
use Rattle.m2_session.specs.Reconnect.{Reconnect}
use Rattle.m2_session.specs.Steps.{step_of, fault_rows, closes}
use Rattle.m2_session.proofs.Rows.{each_answer}
use Rattle.m2_journal.specs.SideFacts.{SideFacts, absent}
use Rattle.m2_bytes.proofs.m2_lemmas.Booleans.{false_isnt_true}

-- a session that is reconnecting has a server cookie, and so has one in Ready that isn't lossy
abbrev pub HasServer : Phase → Bool → ℕ → Type 0
HasServer Ready false cookie = cookie ≢ 0
HasServer ReconnectSent lossy cookie = cookie ≢ 0
HasServer _ lossy cookie = Unit {0}

-- a lossy session has no client cookie
abbrev pub HasNoClient : Bool → ℕ → Type 0
HasNoClient true cookie = cookie ≡ 0
HasNoClient false cookie = Unit {0}

pub record Keeps (f : SideFacts) (s : Session) : Type 0 where
  pub mine : s.mine ≡ f.mine
  pub peer : s.peer ≡ f.peer
  pub policy : s.policy ≡ f.policy
  pub client : HasNoClient f.policy.lossy s.client_cookie
  pub server : HasServer s.phase f.policy.lossy s.server_cookie

-- the events that leave a session so
abbrev pub IsFit : SideFacts → Session → Event → Type 0
IsFit f s (AskedIdent cookie) = HasNoClient f.policy.lossy cookie
IsFit f s AskedReconnect = s.server_cookie ≢ 0
IsFit f s (GotServerIdent cookie global) = HasServer Ready f.policy.lossy cookie
IsFit f s GotReconnectOk = s.server_cookie ≢ 0
IsFit f s (TookIdent full client server global) = HasNoClient f.policy.lossy client × HasServer Ready f.policy.lossy server
IsFit f s (TookReconnect global connect) = s.server_cookie ≢ 0
IsFit f s _ = Unit {0}

-- ---- cookies

pub none_is_none : (lossy : Bool) → HasNoClient lossy 0
none_is_none true = refl
none_is_none false = tt

pub in_ready : (lossy : Bool) (cookie : ℕ) → cookie ≢ 0 → HasServer Ready lossy cookie
in_ready true cookie h = tt
in_ready false cookie h = h

chosen : (lossy kept : Bool) (a b : ℕ) → HasNoClient lossy a → HasNoClient lossy b →
    HasNoClient lossy (if kept then a else b)
chosen lossy true a b h g = h
chosen lossy false a b h g = g

standing : (b lossy : Bool) (cookie : ℕ) → HasServer (if b then Standby else phase.Wait) lossy cookie
standing true lossy cookie = tt
standing false lossy cookie = tt

-- ---- events

pub starts : (f : SideFacts) → Keeps f (absent f)
starts f = record { mine = refl; peer = refl; policy = refl; client = none_is_none f.policy.lossy; server = tt }

fault_keeps : (f : SideFacts) (s : Session) (waits lost : Bool) → Keeps f s →
    Keeps f (record (step_of s (Faulted waits)).session { lost_ready = lost })
fault_keeps f s waits lost h =
    each_answer (λ (o : Session × Effects). Keeps f (record o.0 { lost_ready = lost })) (fault_rows s waits) (record s { phase = phase.Wait }, closes) (
      record { mine = h.mine; peer = h.peer; policy = h.policy; client = none_is_none f.policy.lossy; server = tt },
      (
        record { mine = h.mine; peer = h.peer; policy = h.policy; client = h.client; server = tt },
        (record { mine = h.mine; peer = h.peer; policy = h.policy; client = h.client; server = tt }, tt),
      ),
    ) (record { mine = h.mine; peer = h.peer; policy = h.policy; client = h.client; server = tt })

step_keeps : (f : SideFacts) (s : Session) (e : Event) → IsFit f s e → Keeps f s → Keeps f (step_of s e).session
step_keeps f s Dialled fit h = record { mine = h.mine; peer = h.peer; policy = h.policy; client = h.client; server = tt }
step_keeps f s (AskedIdent cookie) fit h = record { mine = h.mine; peer = h.peer; policy = h.policy; client = chosen f.policy.lossy (is_kept s.client_cookie) s.client_cookie cookie h.client fit; server = tt }
step_keeps f s AskedReconnect fit h = record { mine = h.mine; peer = h.peer; policy = h.policy; client = h.client; server = fit }
step_keeps f s (GotServerIdent cookie global) fit h = record { mine = h.mine; peer = h.peer; policy = h.policy; client = h.client; server = fit }
step_keeps f s GotReconnectOk fit h = record { mine = h.mine; peer = h.peer; policy = h.policy; client = h.client; server = in_ready f.policy.lossy s.server_cookie fit }
step_keeps f s (GotReset true) fit h = record { mine = h.mine; peer = h.peer; policy = h.policy; client = none_is_none f.policy.lossy; server = tt }
step_keeps f s (GotReset false) fit h = record { mine = h.mine; peer = h.peer; policy = h.policy; client = h.client; server = tt }
step_keeps f s (GotRetry number) fit h = record { mine = h.mine; peer = h.peer; policy = h.policy; client = h.client; server = tt }
step_keeps f s (GotRetryGlobal number) fit h = record { mine = h.mine; peer = h.peer; policy = h.policy; client = h.client; server = tt }
step_keeps f s GotWait fit h = record { mine = h.mine; peer = h.peer; policy = h.policy; client = h.client; server = tt }
step_keeps f s (TookIdent full client server global) fit h = record { mine = h.mine; peer = h.peer; policy = h.policy; client = fit.0; server = fit.1 }
step_keeps f s (TookReconnect global connect) fit h = record { mine = h.mine; peer = h.peer; policy = h.policy; client = h.client; server = in_ready f.policy.lossy s.server_cookie fit }
step_keeps f s Pending fit h = record { mine = h.mine; peer = h.peer; policy = h.policy; client = h.client; server = standing (is s.phase Standby) f.policy.lossy s.server_cookie }
step_keeps f s (Faulted waits) fit h = fault_keeps f s waits _ h
step_keeps f s MarkedDown fit h = record { mine = h.mine; peer = h.peer; policy = h.policy; client = none_is_none f.policy.lossy; server = tt }

pub told_keeps : (f : SideFacts) (s : Session) (o : Option Event) → IfSome o (IsFit f s) → Keeps f s →
    Keeps f (told s o)
told_keeps f s (Some e) fit h = step_keeps f s e fit h
told_keeps f s None fit h = h

-- ---- a reconnect that names the session

kept_or_differs : (p : Phase) (lossy : Bool) (server client other : ℕ) → HasServer p lossy server →
    HasNoClient lossy client → other ≢ 0 →
    IsTrue (is p Ready) → IsTrue (is_kept server || differs client other)
kept_or_differs Ready true server client other h none some ready = rw none (there (is_kept server))
  where
    there : (b : Bool) → b || differs 0 other ≡ true
    there true = refl
    there false = rw (ne_eqb 0 other (λ e. some (sym e))) refl
kept_or_differs Ready false server client other h none some ready = rw (ne_eqb server 0 h) refl
kept_or_differs Absent lossy server client other h none some ready = absurd (false_isnt_true ready)
kept_or_differs Connecting lossy server client other h none some ready = absurd (false_isnt_true ready)
kept_or_differs IdentSent lossy server client other h none some ready = absurd (false_isnt_true ready)
kept_or_differs ReconnectSent lossy server client other h none some ready = absurd (false_isnt_true ready)
kept_or_differs Standby lossy server client other h none some ready = absurd (false_isnt_true ready)
kept_or_differs phase.Wait lossy server client other h none some ready = absurd (false_isnt_true ready)

-- an ask that can be read names no client cookie that a lossy session keeps
pub is_sound : (f : SideFacts) (s : Session) (ask : Reconnect) → Keeps f s → ask.client ≢ 0 → IsSound s ask
is_sound f s ask h some = kept_or_differs s.phase f.policy.lossy s.server_cookie s.client_cookie ask.client h.server h.client some
