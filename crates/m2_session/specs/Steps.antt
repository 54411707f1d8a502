-- The table of steps: for each event the phases in which it may come, the session after it, and the effects.
-- What isn't named stays. The steps follow Ceph's ProtocolV2; the table as it stands is this project's
-- profile (docs/PROTOCOL.md).
use Rattle.std.specs.Prelude.{◌+◌, ◌-◌, ◌<◌, ◌^◌, max, Bool, true, false, ◌&&◌, ◌||◌, not, if◌then◌else◌, List, [], ◌∷◌}
use Rattle.m2_policy.specs.declared.rules.ConnectRise.{ConnectRise}
use Rattle.m2_policy.specs.declared.rules.ConnectRise.TheVariants.{BehindReady, WhereKept}
use Rattle.m2_session.specs.declared.session.Phase.{Phase}
use Rattle.m2_session.specs.declared.session.Phase.TheVariants.{Absent, Connecting, IdentSent, ReconnectSent, Ready, Standby, Wait}
use Rattle.m2_session.specs.declared.session.Session.{Session}
use Rattle.m2_session.specs.declared.event.Event.{Event}
use Rattle.m2_session.specs.declared.event.Event.TheVariants.{Dialled, AskedIdent, AskedReconnect, GotServerIdent, GotReconnectOk, GotReset, GotRetry, GotRetryGlobal, GotWait, TookIdent, TookReconnect, Pending, Faulted, MarkedDown}
use Rattle.m2_session.specs.declared.event.Effects.{Effects}
use Rattle.m2_session.specs.Table.{Row, row, first_that_holds}
use Rattle.m2_session.specs.Phases.{is, is_among, with_feed, all_phases, all_but_absent, all_but_absent_and_ready}
use Rattle.m2_session.specs.Conditions.{is_kept}

-- ---- words of the table

pub record Step : Type 0 where
  pub lawful_in : List Phase
  pub session : Session
  pub effects : Effects

abbrev pub step_row : List Phase → Session → Effects → Step
step_row lawful_in session effects = record { lawful_in = lawful_in; session = session; effects = effects }

abbrev pub nothing : Effects
nothing = record { close = false; requeue = false; set_back = false; discard = false; remote_reset = false }

-- the feed is closed, and what it had written and not brought over is written again
abbrev pub closes : Effects
closes = record nothing { close = true; requeue = true }

-- numbers begin again
abbrev pub sets_back : Effects
sets_back = record nothing { set_back = true }

-- ---- a dial

-- its connect number is one more, by the rule of the node
abbrev pub rises_by : ConnectRise → Session → Bool
rises_by BehindReady s = s.lost_ready
rises_by WhereKept s = is_kept s.server_cookie

abbrev pub rises : Session → Bool
rises s = rises_by s.rules.connects s

-- ---- a broken feed

pub data FaultRow : Type 0 where
  forgets : FaultRow
  waits_for_the_client : FaultRow
  has_nothing_to_write : FaultRow

abbrev pub fault_rows : Session → Bool → List (Row FaultRow (Session × Effects))
fault_rows s waits =
    row forgets s.policy.lossy
    (record s { phase = Absent; client_cookie = 0; server_cookie = 0 }, record closes { discard = true }) ∷
    row waits_for_the_client s.policy.server
    (record s { phase = Standby }, closes) ∷
    row has_nothing_to_write (s.policy.standby && not waits)
    (record s { phase = Standby }, closes) ∷ []

abbrev pub fault : Session → Bool → Session × Effects
fault s waits = first_that_holds (fault_rows s waits) (record s { phase = Wait }, closes)

-- ---- the table: the event; where it is lawful, the session after it, the effects

abbrev pub step_of : Session → Event → Step
step_of s Dialled =
    step_row (Absent ∷ Standby ∷ Wait ∷ [])
    (record s { phase = Connecting; connect = (if rises s then s.connect + 1 else s.connect); lost_ready = false })
    nothing
step_of s (AskedIdent cookie) =
    step_row (Connecting ∷ [])
    (record s { phase = IdentSent; client_cookie = (if is_kept s.client_cookie then s.client_cookie else cookie) })
    nothing
step_of s AskedReconnect =
    step_row (Connecting ∷ [])
    (record s { phase = ReconnectSent })
    nothing
step_of s (GotServerIdent cookie global) =
    step_row (IdentSent ∷ [])
    (record s { phase = Ready; server_cookie = cookie; peer_global = max s.peer_global global; connect = 0 })
    sets_back
step_of s GotReconnectOk =
    step_row (ReconnectSent ∷ [])
    (record s { phase = Ready })
    nothing
step_of s (GotReset true) =
    step_row (ReconnectSent ∷ [])
    (record s { phase = Connecting; client_cookie = 0; server_cookie = 0; connect = 0 })
    (record sets_back { discard = true; remote_reset = true })
step_of s (GotReset false) =
    step_row (ReconnectSent ∷ [])
    (record s { phase = Connecting; server_cookie = 0; connect = 0 })
    sets_back
step_of s (GotRetry number) =
    step_row (ReconnectSent ∷ [])
    (record s { phase = Connecting; connect = number + 1 })
    nothing
step_of s (GotRetryGlobal number) =
    step_row (ReconnectSent ∷ [])
    (record s { phase = Connecting })
    nothing
step_of s GotWait =
    step_row (IdentSent ∷ ReconnectSent ∷ [])
    (record s { phase = Wait })
    closes
step_of s (TookIdent full client server global) =
    step_row all_phases
    (record s { phase = Ready; client_cookie = client; server_cookie = server; peer_global = max s.peer_global global; connect = 0; lost_ready = false })
    (record closes { set_back = true; discard = full; remote_reset = full })
step_of s (TookReconnect global connect) =
    step_row all_but_absent
    (record s { phase = Ready; peer_global = global; connect = connect; lost_ready = false })
    closes
step_of s Pending =
    step_row all_but_absent_and_ready
    (record s { phase = (if is s.phase Standby then Standby else Wait) })
    closes
step_of s (Faulted waits) =
    step_row with_feed
    (record (fault s waits).0 { lost_ready = is s.phase Ready || s.lost_ready })
    (fault s waits).1
step_of s MarkedDown =
    step_row all_phases
    (record s { phase = Absent; client_cookie = 0; server_cookie = 0; connect = 0; lost_ready = false })
    (record nothing { close = true; set_back = true; discard = true })

abbrev pub is_lawful : Session → Event → Bool
is_lawful s e = is_among s.phase (step_of s e).lawful_in

-- a number from the wire that the session's connect number is to follow
abbrev pub HasFollower : Event → Type 0
HasFollower (GotRetry number) = number < 2 ^ 64 - 1
HasFollower _ = Unit {0}
