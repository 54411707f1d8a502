-- The laws of answers.
use Rattle.std.proofs.Common.{◌≡◌, ◌≢◌, ℕ, ◌≤◌, Bool, true, false, not, ◌||◌, ◌==◌, refl, sym, arith}
use Rattle.std.specs.Prelude.{IsTrue, IfSome}
use Rattle.std.proofs.lemmas.Bool.{eqb-true, eq-eqb, ltb-false}
use Rattle.m2_session.specs.declared.session.Phase.{Phase}
use Rattle.m2_session.specs.declared.session.Phase.TheVariants.{Absent, Connecting, IdentSent, ReconnectSent, Ready, Standby}
use Rattle.m2_session.specs.declared.session.Phase.TheVariants as phase
use Rattle.m2_session.specs.declared.session.Session.{Session}
use Rattle.m2_session.specs.declared.answer.Answer.TheVariants.{Wait, Resume}
use Rattle.m2_session.specs.declared.event.Event.{Event}
use Rattle.m2_session.specs.declared.event.Event.TheVariants.{Dialled, AskedIdent, AskedReconnect, GotServerIdent, GotReconnectOk, GotReset, GotRetry, GotRetryGlobal, GotWait, TookIdent, TookReconnect, Pending, Faulted, MarkedDown}
use Rattle.m2_session.specs.declared.event.Effects.{Effects}
use Rattle.m2_session.specs.Phases.{is, is_among, all_phases, all_but_absent, all_but_absent_and_ready}
use Rattle.m2_session.specs.Conditions.{differs, is_above, is_kept}
use Rattle.m2_session.specs.Ident.{ident_rows}
use Rattle.m2_session.specs.Reconnect.{reconnect_rows}
use Rattle.m2_session.specs.Steps.{step_of, is_lawful, fault_rows, closes}
use Rattle.m2_session.specs.SessionLaws.{takes, told, is_resumption, ident_event, reconnect_event, TakenIsReady, AnswersAreLawful, PeerGlobalNeverFalls, ResumedOnlyWithItsCookies}
use Rattle.m2_session.proofs.Rows.{each_answer, each_in_order, none_holds}
use Rattle.m2_bytes.proofs.m2_lemmas.Booleans.{negated_is_true}

-- ---- the socket is taken

pub taken_is_ready_lem : TakenIsReady
taken_is_ready_lem = record {
  ident = λ s client server global.
      each_answer (λ a. IsTrue (takes a) → (told s (ident_event a client server global)).phase ≡ Ready) (ident_rows s client global) Wait
      (λ _. refl, (λ h. cc, (λ _. refl, (λ _. refl, (λ _. refl, (λ _. refl, (λ _. refl, tt)))))))
      (λ h. cc);
  reconnect = λ s ask written.
      each_answer (λ a. IsTrue (takes a) → (told s (reconnect_event a ask)).phase ≡ Ready) (reconnect_rows s ask written) Resume
      (λ h. cc, (λ h. cc, (λ h. cc, (λ h. cc, (λ h. cc, (λ h. cc, (λ h. cc, (λ h. cc, tt))))))))
      (λ _. refl);
}

-- ---- numbers and cookies

same_number : (a b : ℕ) → differs a b ≡ false → b ≡ a
same_number a b h = sym (eqb-true a b (negated_is_true (a == b) h))

both_ways : (b : Bool) → not (not b) ≡ false → b ≡ true → ⊥
both_ways true h e = cc
both_ways false h e = cc

kept_cookie : (cookie : ℕ) → not (is_kept cookie) ≡ false → cookie ≢ 0
kept_cookie cookie h zero = both_ways (cookie == 0) h (eq-eqb cookie 0 zero)

pub not_above : (a b : ℕ) → is_above a b ≡ false → a ≤ b
not_above a b h = ltb-false b a h

pub resumed_only : ResumedOnlyWithItsCookies
resumed_only s ask written resumed =
    let none = none_holds Resume (reconnect_rows s ask written) Resume
    (λ h. cc, (λ h. cc, (λ h. cc, (λ h. cc, (λ h. cc, (λ h. cc, (λ h. cc, (λ h. cc, tt)))))))) resumed in
    record {
      client = same_number s.client_cookie ask.client none.1.0;
      server = same_number s.server_cookie ask.server none.1.1.1.0;
      kept = kept_cookie s.server_cookie none.1.1.0;
    }

-- ---- the peer's global number

fault_keeps_number : (s : Session) (waits : Bool) → s.peer_global ≤ (step_of s (Faulted waits)).session.peer_global
fault_keeps_number s waits =
    each_answer (λ (o : Session × Effects). s.peer_global ≤ o.0.peer_global) (fault_rows s waits) (record s { phase = phase.Wait }, closes)
    (omega arith, (omega arith, (omega arith, tt))) (omega arith)

event_keeps_number : (s : Session) (e : Event) → is_resumption e ≡ false → s.peer_global ≤ (step_of s e).session.peer_global
event_keeps_number s Dialled h = omega arith
event_keeps_number s (AskedIdent cookie) h = omega arith
event_keeps_number s AskedReconnect h = omega arith
event_keeps_number s (GotServerIdent cookie global) h = omega arith
event_keeps_number s GotReconnectOk h = omega arith
event_keeps_number s (GotReset true) h = omega arith
event_keeps_number s (GotReset false) h = omega arith
event_keeps_number s (GotRetry number) h = omega arith
event_keeps_number s (GotRetryGlobal number) h = omega arith
event_keeps_number s GotWait h = omega arith
event_keeps_number s (TookIdent full client server global) h = omega arith
event_keeps_number s (TookReconnect global connect) h = cc
event_keeps_number s Pending h = omega arith
event_keeps_number s (Faulted waits) h = fault_keeps_number s waits
event_keeps_number s MarkedDown h = omega arith

pub never_falls : PeerGlobalNeverFalls
never_falls = record {
  ident = λ s client server global.
      each_answer (λ a. s.peer_global ≤ (told s (ident_event a client server global)).peer_global) (ident_rows s client global) Wait
      (omega arith, (omega arith, (omega arith, (omega arith, (omega arith, (omega arith, (omega arith, tt)))))))
      (omega arith);
  reconnect = λ s ask written.
      each_in_order (λ a. s.peer_global ≤ (told s (reconnect_event a ask)).peer_global) (reconnect_rows s ask written) Resume (
        λ h. omega arith,
        λ h. (
          λ h. omega arith,
          λ h. (
            λ h. omega arith,
            λ h. (
              λ h. omega arith,
              λ h.
                  (λ h. omega arith, λ fresh. (λ h. omega arith, λ h. (λ h. omega arith, λ h. (λ h. omega arith, λ h. not_above s.peer_global ask.global fresh)))),
            ),
          ),
        ),
      );
  event = event_keeps_number;
}

-- ---- lawful events

pub every_phase : (p : Phase) → IsTrue (is_among p all_phases)
every_phase Absent = refl
every_phase Connecting = refl
every_phase IdentSent = refl
every_phase ReconnectSent = refl
every_phase Ready = refl
every_phase Standby = refl
every_phase phase.Wait = refl

present : (p : Phase) → is p Absent ≡ false → IsTrue (is_among p all_but_absent)
present Absent h = cc
present Connecting h = refl
present IdentSent h = refl
present ReconnectSent h = refl
present Ready h = refl
present Standby h = refl
present phase.Wait h = refl

neither : (kept other : Bool) → not kept ≡ true → other ≡ false → IsTrue (kept || other) → ⊥
neither true other h g both = cc
neither false true h g both = cc
neither false false h g both = cc

pending : (p : Phase) (kept other : Bool) → is p Absent ≡ false → (IsTrue (is p Ready) → IsTrue (kept || other)) → not kept ≡ true → other ≡ false → IsTrue (is_among p all_but_absent_and_ready)
pending Absent kept other h sound none same = cc
pending Connecting kept other h sound none same = refl
pending IdentSent kept other h sound none same = refl
pending ReconnectSent kept other h sound none same = refl
pending Ready kept other h sound none same = absurd (neither kept other none same (sound refl))
pending Standby kept other h sound none same = refl
pending phase.Wait kept other h sound none same = refl

pub answers_are_lawful_lem : AnswersAreLawful
answers_are_lawful_lem = record {
  ident = λ s client server global.
      let all = every_phase s.phase in
      each_answer (λ a. IfSome (ident_event a client server global) (λ e. IsTrue (is_lawful s e))) (ident_rows s client global) Wait
      (all, (tt, (all, (all, (all, (all, (all, tt))))))) tt;
  reconnect = λ s ask written sound.
      each_in_order (λ a. IfSome (reconnect_event a ask) (λ e. IsTrue (is_lawful s e))) (reconnect_rows s ask written) Resume (
        λ h. tt,
        λ here. (
          λ h. tt,
          λ same. (
            λ none. pending s.phase (is_kept s.server_cookie) (differs s.client_cookie ask.client) here sound none same,
            λ h.
                (λ h. tt, λ h. (λ h. tt, λ h. (λ h. tt, λ h. (λ h. tt, λ h. (λ h. tt, λ h. present s.phase here))))),
          ),
        ),
      );
}
