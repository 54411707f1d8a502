-- A session has at most one feed.
use Rattle.std.proofs.Common.{◌≡◌, ℕ, ◌+◌, Bool, true, false, ◌&&◌, ◌||◌, not, if◌then◌else◌, ◌==◌, [], ◌∷◌, refl, ap, ◌∙◌}
use Rattle.std.specs.List.{list_any}
use Rattle.std.proofs.lemmas.Bool.{eqb-true}
use Rattle.std.specs.Prelude.{IsTrue}
use Rattle.m2_session.specs.declared.session.Phase.{Phase}
use Rattle.m2_session.specs.declared.session.Phase.TheVariants.{Absent, Connecting, IdentSent, ReconnectSent, Ready, Standby, Wait}
use Rattle.m2_session.specs.declared.session.Session.{Session}
use Rattle.m2_session.specs.declared.event.Event.{Event}
use Rattle.m2_session.specs.declared.event.Event.TheVariants.{Dialled, AskedIdent, AskedReconnect, GotServerIdent, GotReconnectOk, GotReset, GotRetry, GotRetryGlobal, GotWait, TookIdent, TookReconnect, Pending, Faulted, MarkedDown}
use Rattle.m2_session.specs.declared.event.Effects.{Effects}
use Rattle.m2_session.specs.Phases.{is, is_among, phase_number, with_feed}
use Rattle.m2_session.specs.Steps.{step_of, is_lawful, closes}
use Rattle.m2_session.specs.SessionLaws.{AtMostOneFeed, has_feed, brings_feed, count_of}

-- where an event is lawful only in these phases, all of which have a feed or none of which has
with_no_feed : (p : Phase) → IsTrue (is_among p (Absent ∷ Standby ∷ Wait ∷ [])) → is_among p with_feed ≡ false
with_no_feed Absent h = refl
with_no_feed Connecting h = cc
with_no_feed IdentSent h = cc
with_no_feed ReconnectSent h = cc
with_no_feed Ready h = cc
with_no_feed Standby h = refl
with_no_feed Wait h = refl

one_of_one : (b : Bool) → IsTrue (b || false) → b ≡ true
one_of_one true h = refl
one_of_one false h = cc

-- lawful in one phase alone, which has a feed
in_one : (p q : Phase) → is_among q with_feed ≡ true → IsTrue (is_among p (q ∷ [])) → is_among p with_feed ≡ true
in_one p q feed h =
    let same : phase_number p ≡ phase_number q = eqb-true (phase_number p) (phase_number q) (one_of_one (is p q) h) in
    ap (λ (n : ℕ). list_any (λ (x : Phase). n == phase_number x) with_feed) same ∙ feed

pending : (b : Bool) → count_of (is_among (if b then Standby else Wait) with_feed) ≡ 0
pending true = refl
pending false = refl

fault : (lossy server idle : Bool) (s : Session) →
    let outcome : Session × Effects = if lossy then (record s { phase = Absent; client_cookie = 0; server_cookie = 0 }, record closes { discard = true }) else if server then (record s { phase = Standby }, closes) else if idle then (record s { phase = Standby }, closes) else (record s { phase = Wait }, closes) in
    count_of (is_among outcome.0.phase with_feed) ≡ (if outcome.1.close then 0 else count_of (has_feed s)) + 0
fault true server idle s = refl
fault false true idle s = refl
fault false false true s = refl
fault false false false s = refl

counted : (s : Session) (e : Event) → IsTrue (is_lawful s e) →
    count_of (has_feed (step_of s e).session) ≡ (if (step_of s e).effects.close then 0 else count_of (has_feed s)) + count_of (brings_feed e)
counted s Dialled h = rw (with_no_feed s.phase h) refl
counted s (AskedIdent cookie) h = rw (in_one s.phase Connecting refl h) refl
counted s AskedReconnect h = rw (in_one s.phase Connecting refl h) refl
counted s (GotServerIdent cookie global) h = rw (in_one s.phase IdentSent refl h) refl
counted s GotReconnectOk h = rw (in_one s.phase ReconnectSent refl h) refl
counted s (GotReset true) h = rw (in_one s.phase ReconnectSent refl h) refl
counted s (GotReset false) h = rw (in_one s.phase ReconnectSent refl h) refl
counted s (GotRetry number) h = rw (in_one s.phase ReconnectSent refl h) refl
counted s (GotRetryGlobal number) h = rw (in_one s.phase ReconnectSent refl h) refl
counted s GotWait h = refl
counted s (TookIdent full client server global) h = refl
counted s (TookReconnect global connect) h = refl
counted s Pending h = pending (is s.phase Standby)
counted s (Faulted waits) h = fault s.policy.lossy s.policy.server (s.policy.standby && not waits) s
counted s MarkedDown h = refl

left_by : (before after close brings : Bool) → count_of after ≡ (if close then 0 else count_of before) + count_of brings → before ≡ true → after ≡ false → close ≡ true
left_by before after true brings e was is = refl
left_by true false false true e was is = cc
left_by true false false false e was is = cc
left_by true true close brings e was is = cc
left_by false after close brings e was is = cc

entered_by : (before after close brings : Bool) → count_of after ≡ (if close then 0 else count_of before) + count_of brings → before ≡ false → after ≡ true → brings ≡ true
entered_by before after close true e was is = refl
entered_by false true true false e was is = cc
entered_by false true false false e was is = cc
entered_by false false close false e was is = cc
entered_by true after close false e was is = cc

pub one_feed : AtMostOneFeed
one_feed = record {
  left = λ s e h was is. left_by (has_feed s) (has_feed (step_of s e).session) (step_of s e).effects.close (brings_feed e) (counted s e h) was is;
  entered = λ s e h was is. entered_by (has_feed s) (has_feed (step_of s e).session) (step_of s e).effects.close (brings_feed e) (counted s e h) was is;
  counted = counted;
}
