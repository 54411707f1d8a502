-- The laws of single events.
use Rattle.std.proofs.Common.{◌≡◌, ℕ, ◌+◌, ◌≤◌, max, Bool, true, false, ◌&&◌, not, ◌⊎◌, if◌then◌else◌, inl, inr, refl, arith}
use Rattle.m2_session.specs.declared.session.Phase.TheVariants.{Standby, Wait}
use Rattle.m2_session.specs.declared.session.Session.{Session}
use Rattle.m2_session.specs.declared.event.Event.TheVariants.{Dialled, AskedIdent, AskedReconnect, GotServerIdent, GotReconnectOk, GotReset, GotRetry, GotRetryGlobal, GotWait, TookIdent, TookReconnect, Pending, Faulted, MarkedDown}
use Rattle.m2_session.specs.declared.event.Effects.{Effects}
use Rattle.m2_session.specs.Phases.{is, is_among, with_feed}
use Rattle.m2_session.specs.Steps.{closes, fault_rows, rises, step_of}
use Rattle.m2_session.specs.SessionLaws.{PendingLeavesNothingPending, LostOnlySo, loss_of, thrown_away, nothing_lost, MarkDownForgets, ConnectRisesByOne}
use Rattle.m2_session.proofs.Rows.{each_answer}

standby_or_wait : (b : Bool) → ((if b then Standby else Wait) ≡ Standby) ⊎ ((if b then Standby else Wait) ≡ Wait)
standby_or_wait true = inl refl
standby_or_wait false = inr refl

no_feed : (b : Bool) → is_among (if b then Standby else Wait) with_feed ≡ false
no_feed true = refl
no_feed false = refl

pub nothing_pending : PendingLeavesNothingPending
nothing_pending = record {
  phase = λ s. standby_or_wait (is s.phase Standby);
  no_feed = λ s. no_feed (is s.phase Standby);
  closed = λ s. refl;
}

fault_loses : (lossy server idle : Bool) (w x y z : Session) →
    let outcome : Session × Effects = if lossy then (w, record closes { discard = true }) else if server then (x, closes) else if idle then (y, closes) else (z, closes) in
    loss_of outcome.1 ≡ (if lossy then thrown_away else nothing_lost)
fault_loses true server idle w x y z = refl
fault_loses false true idle w x y z = refl
fault_loses false false true w x y z = refl
fault_loses false false false w x y z = refl

pub lost_only_so : LostOnlySo
lost_only_so s Dialled = refl
lost_only_so s (AskedIdent cookie) = refl
lost_only_so s AskedReconnect = refl
lost_only_so s (GotServerIdent cookie global) = refl
lost_only_so s GotReconnectOk = refl
lost_only_so s (GotReset true) = refl
lost_only_so s (GotReset false) = refl
lost_only_so s (GotRetry number) = refl
lost_only_so s (GotRetryGlobal number) = refl
lost_only_so s GotWait = refl
lost_only_so s (TookIdent true client server global) = refl
lost_only_so s (TookIdent false client server global) = refl
lost_only_so s (TookReconnect global connect) = refl
lost_only_so s Pending = refl
lost_only_so s (Faulted waits) = fault_loses s.policy.lossy s.policy.server (s.policy.standby && not waits) _ _ _ _
lost_only_so s MarkedDown = refl

pub forgets : MarkDownForgets
forgets = record { phase = λ s. refl; client = λ s. refl; server = λ s. refl; closed = λ s. refl }

-- a broken feed is closed, whichever row holds
pub fault_closes : (s : Session) (waits : Bool) → (step_of s (Faulted waits)).effects.close ≡ true
fault_closes s waits =
    each_answer (λ (p : Session × Effects). p.1.close ≡ true) (fault_rows s waits) (record s { phase = Wait }, closes) (refl, (refl, (refl, tt))) refl

-- ---- the connect number

dialled_rises : (lost : Bool) (n : ℕ) → (if lost then n + 1 else n) ≤ max n 0 + 1
dialled_rises true n = omega arith
dialled_rises false n = omega arith

fault_keeps_connect : (lossy server idle : Bool) (s w x y z : Session) → w.connect ≡ s.connect → x.connect ≡ s.connect → y.connect ≡ s.connect → z.connect ≡ s.connect →
    let outcome : Session × Effects = if lossy then (w, record closes { discard = true }) else if server then (x, closes) else if idle then (y, closes) else (z, closes) in
    outcome.0.connect ≤ max s.connect 0 + 1
fault_keeps_connect true server idle s w x y z a b c d = omega arith
fault_keeps_connect false true idle s w x y z a b c d = omega arith
fault_keeps_connect false false true s w x y z a b c d = omega arith
fault_keeps_connect false false false s w x y z a b c d = omega arith

pub rises_by_one : ConnectRisesByOne
rises_by_one s Dialled = dialled_rises (rises s) s.connect
rises_by_one s (AskedIdent cookie) = omega arith
rises_by_one s AskedReconnect = omega arith
rises_by_one s (GotServerIdent cookie global) = omega arith
rises_by_one s GotReconnectOk = omega arith
rises_by_one s (GotReset true) = omega arith
rises_by_one s (GotReset false) = omega arith
rises_by_one s (GotRetry number) = omega arith
rises_by_one s (GotRetryGlobal number) = omega arith
rises_by_one s GotWait = omega arith
rises_by_one s (TookIdent full client server global) = omega arith
rises_by_one s (TookReconnect global connect) = omega arith
rises_by_one s Pending = omega arith
rises_by_one s (Faulted waits) = fault_keeps_connect s.policy.lossy s.policy.server (s.policy.standby && not waits) s _ _ _ _ refl refl refl refl
rises_by_one s MarkedDown = omega arith
