-- What a frame says to a side is what it says in the replay.
use Rattle.std.proofs.Common.{◌≡◌, ℕ, ◌==◌, Bool, true, false, length, Option, Some, None, Result, Ok, Err, refl, sym, ap, subst, ◌∙◌}
use Rattle.std.specs.Prelude.{IsTrue, if◌then◌else◌}
use Rattle.std.specs.Result.{is_ok}
use Rattle.std.proofs.lemmas.Bool.{true≢false}
use Rattle.m2_addr.specs.declared.addr.Addr.{Addr}
use Rattle.m2_addr.specs.declared.fault.AddrFault.{AddrFault}
use Rattle.m2_addr.specs.Vector.{main_of}
use Rattle.m2_control.specs.declared.control.Control.{Control}
use Rattle.m2_control.specs.declared.control.Control.TheVariants as control
use Rattle.m2_control.specs.declared.fault.ControlFault.{ControlFault}
use Rattle.m2_control.specs.declared.server_ident.ServerIdent.{ServerIdent}
use Rattle.m2_control.specs.Ack.{ack_at}
use Rattle.m2_control.specs.IdentMissingFeatures.{ident_missing_features_at}
use Rattle.m2_control.specs.Keepalive.{keepalive_at}
use Rattle.m2_control.specs.KeepaliveAck.{keepalive_ack_at}
use Rattle.m2_control.specs.ServerFacts.{facts_of}
use Rattle.m2_control.specs.ServerIdent.{server_ident_at}
use Rattle.m2_control.specs.SessionReconnectOk.{session_reconnect_ok_at}
use Rattle.m2_control.specs.SessionReset.{session_reset_at}
use Rattle.m2_control.specs.SessionRetry.{session_retry_at}
use Rattle.m2_control.specs.SessionRetryGlobal.{session_retry_global_at}
use Rattle.m2_frame.specs.Frame.{Parts}
use Rattle.m2_handshake.specs.declared.fault.HalfFault.{HalfFault}
use Rattle.m2_handshake.specs.Ident.{server_check}
use Rattle.m2_journal.specs.Feeds.{told_by}
use Rattle.m2_journal.specs.Lawful.{is_refused}
use Rattle.m2_journal.specs.Said.{Said, says, brings, garbles, said_by, said_of_payload}
use Rattle.m2_journal.specs.SideFacts.{SideFacts}
use Rattle.m2_journal.specs.Steps.{agrees, answer_event}
use Rattle.m2_message.specs.declared.header_text.TheConstants.{HEADER_BYTES}
use Rattle.m2_message.specs.MessageFrame.{message_in}
use Rattle.m2_session.specs.declared.event.Event.{Event}
use Rattle.m2_session.specs.declared.event.Event.TheVariants as event
use Rattle.m2_session.specs.declared.session.Phase.{Phase}
use Rattle.m2_session.specs.declared.session.Phase.TheVariants.{Absent, Connecting, IdentSent, ReconnectSent, Ready, Standby, Wait}
use Rattle.m2_session.specs.declared.session.Session.{Session}
use Rattle.m2_session.specs.Phases.{is, is_among}
use Rattle.m2_session.specs.Steps.{is_lawful, step_of}
use Rattle.m2_frame.specs.declared.tag.Tag.{Tag}
use Rattle.m2_frame.specs.declared.tag.Tag.TheVariants as tag
use Rattle.m2_frame.specs.Tags.{tag_in}
use Rattle.m2_feed.proofs.Payloads.{Says, read_says, whole_says}
use Rattle.m2_feed.specs.declared.answer_fault.AnswerFault.{AnswerFault}
use Rattle.m2_feed.specs.declared.answer_fault.AnswerFault.TheVariants as fault
use Rattle.m2_feed.specs.declared.heard.Heard.{Heard}
use Rattle.m2_feed.specs.declared.heard.Heard.TheVariants as heard
use Rattle.m2_feed.specs.Heard.{answers_ident, answers_reconnect, checked, event_of, of_control, of_frame, of_ident, of_payload, of_tag}
use Rattle.m2_feed.specs.AnswerLaws.{FramesAreHeard, IsHeard}

-- ---- one answer, and none

none_isnt_some : (v : Event) → None ≡ Some v → ⊥
none_isnt_some v e = cc

refused_isnt_reset : (e : AnswerFault) (full : Bool) → heard.Refused e ≡ heard.Reset full → ⊥
refused_isnt_reset e full q = cc

reset_isnt_refused : (e : AnswerFault) (full : Bool) → heard.Reset full ≡ heard.Refused e → ⊥
reset_isnt_refused e full q = cc

refused_isnt_ok : (e : AnswerFault) (seen : ℕ) → heard.Refused e ≡ heard.ReconnectOk seen → ⊥
refused_isnt_ok e seen q = cc

reset_isnt_ok : (full : Bool) (seen : ℕ) → heard.Reset full ≡ heard.ReconnectOk seen → ⊥
reset_isnt_ok full seen q = cc

abbrev mark_of : Heard → Bool
mark_of (heard.Reset full) = full
mark_of _ = false

abbrev seen_of : Heard → ℕ
seen_of (heard.ReconnectOk seen) = seen
seen_of _ = 0

abbrev event_or : Event → Option Event → Event
event_or e (Some v) = v
event_or e None = e

same_event : (v w : Event) → Some v ≡ Some w → v ≡ w
same_event v w q = ap (event_or v) q

lawful_at : (p : Phase) (v : Event) (s : Session) → IsTrue (is_among p (step_of s v).lawful_in) → s.phase ≡ p → IsTrue (is_lawful s v)
lawful_at p v s h r = subst (λ z. IsTrue (is_among z (step_of s v).lawful_in)) (sym r) h

-- the session is told of it
module _ (f : SideFacts) (p : Phase) (x : Said) (h : Heard) (v : Event) where
  taken : event_of h ≡ Some v → answer_event f p (Some x) ≡ Some v → ((s : Session) → IsTrue (is_among p (step_of s v).lawful_in)) →
      ((seen : ℕ) → h ≡ heard.ReconnectOk seen → told_by x ≡ Some seen) → IsHeard f p x h
  taken is e may told = record {
    answer = e ∙ sym is;
    lawful = λ s w q r. subst (λ z. IsTrue (is_lawful s z)) (same_event v w (sym is ∙ q)) (lawful_at p v s (may s) r);
    told = told;
    reset = λ full q. absurd (none_isnt_some v (sym (ap event_of q) ∙ is));
    refused = λ last g q r. absurd (none_isnt_some v (sym (ap event_of q) ∙ is));
  }

-- the feed is at fault
no_answer : (f : SideFacts) (p : Phase) (x : Said) (e : AnswerFault) → answer_event f p (Some x) ≡ None →
    ((last : ℕ) → is p Ready ≡ false → is_refused p last (Some x) ≡ true) → IsHeard f p x (heard.Refused e)
no_answer f p x e none refuses = record {
  answer = none;
  lawful = λ s v q r. absurd (none_isnt_some v q);
  told = λ seen q. absurd (refused_isnt_ok e seen q);
  reset = λ full q. absurd (refused_isnt_reset e full q);
  refused = λ last g q r. refuses last r;
}

-- the other answers are no resumption
wait_isnt_ok : (seen : ℕ) → heard.Wait ≡ heard.ReconnectOk seen → ⊥
wait_isnt_ok seen q = cc

retry_isnt_ok : (n seen : ℕ) → heard.Retry n ≡ heard.ReconnectOk seen → ⊥
retry_isnt_ok n seen q = cc

retry_global_isnt_ok : (n seen : ℕ) → heard.RetryGlobal n ≡ heard.ReconnectOk seen → ⊥
retry_global_isnt_ok n seen q = cc

-- ---- payloads

-- each payload of a tag says the same in both, and where none is read both refuse
module _ {P : Type 0} (f : SideFacts) (p : Phase) (k : P → Control) where
  of_read : ((q : P) → IsHeard f p (says (k q)) (of_control f.peer f.policy (k q))) →
      ((e : AnswerFault) → IsHeard f p garbles (heard.Refused e)) →
      (r : Result Control ControlFault) → Says k r → IsHeard f p (said_of_payload r) (of_payload f.peer f.policy r)
  of_read same bad (Ok c) h = subst (λ z. IsHeard f p (says z) (of_control f.peer f.policy z)) (sym h.1) (same h.0)
  of_read same bad (Err e) h = bad (fault.Control e)

  -- the tag is none of an answer
  of_other : (e : AnswerFault) → ((q : P) → IsHeard f p (says (k q)) (heard.Refused e)) → IsHeard f p garbles (heard.Refused e) →
      (r : Result Control ControlFault) → Says k r → IsHeard f p (said_of_payload r) (heard.Refused e)
  of_other e same bad (Ok c) h = subst (λ z. IsHeard f p (says z) (heard.Refused e)) (sym h.1) (same h.0)
  of_other e same bad (Err g) h = bad

-- an ident is accepted exactly where it is agreed
ident_event : (f : SideFacts) (i : ServerIdent) (m : Result Addr AddrFault) →
    (if agrees f i m then Some (event.GotServerIdent i.cookie i.global) else None) ≡ event_of (of_ident f.peer f.policy i m)
ident_event f i (Ok main) = at (server_check (facts_of i main) f.peer f.policy)
  where
    at : (r : Result (Unit {0}) HalfFault) → (if is_ok r then Some (event.GotServerIdent i.cookie i.global) else None) ≡ event_of (checked i r)
    at (Ok u) = refl
    at (Err e) = refl
ident_event f i (Err e) = refl

-- and what an ident says is neither a reset nor a resumption
abbrev IsOfIdent : Heard → Type 0
IsOfIdent (heard.ServerIdent cookie global) = Unit {0}
IsOfIdent (heard.Refused e) = Unit {0}
IsOfIdent _ = ⊥

of_an_ident : (f : SideFacts) (i : ServerIdent) (m : Result Addr AddrFault) → IsOfIdent (of_ident f.peer f.policy i m)
of_an_ident f i (Ok main) = at (server_check (facts_of i main) f.peer f.policy)
  where
    at : (r : Result (Unit {0}) HalfFault) → IsOfIdent (checked i r)
    at (Ok u) = tt
    at (Err e) = tt
of_an_ident f i (Err e) = tt

ident_lawful : (h : Heard) → IsOfIdent h → (s : Session) (v : Event) → event_of h ≡ Some v → s.phase ≡ IdentSent → IsTrue (is_lawful s v)
ident_lawful (heard.ServerIdent cookie global) k s v q r =
    subst (λ z. IsTrue (is_lawful s z)) (same_event (event.GotServerIdent cookie global) v q) (lawful_at IdentSent (event.GotServerIdent cookie global) s refl r)
ident_lawful (heard.Refused e) k s v q r = absurd (none_isnt_some v q)
ident_lawful _ k s v q r = absurd k

ident_says : (f : SideFacts) (i : ServerIdent) → IsHeard f IdentSent (says (control.ServerIdent i)) (of_control f.peer f.policy (control.ServerIdent i))
ident_says f i =
    let k = of_an_ident f i (main_of i.addrs) in
    record {
      answer = ident_event f i (main_of i.addrs);
      lawful = ident_lawful (of_ident f.peer f.policy i (main_of i.addrs)) k;
      told = λ seen q. absurd (subst IsOfIdent q k);
      reset = λ full q. absurd (subst IsOfIdent q k);
      refused = λ last g q r. refl;
    }

-- ---- a side that has sent an ident

module _ (f : SideFacts) where
  ident_garbled : (e : AnswerFault) → IsHeard f IdentSent garbles (heard.Refused e)
  ident_garbled e = no_answer f IdentSent garbles e refl (λ last r. refl)

  ident_message : (e : AnswerFault) (x : Parts) (b : Bool) → IsHeard f IdentSent (if b then brings (message_in x) else garbles) (heard.Refused e)
  ident_message e x true = no_answer f IdentSent (brings (message_in x)) e refl (λ last r. refl)
  ident_message e x false = ident_garbled e

  by_ident : (t : Tag) (x : Parts) → IsHeard f IdentSent (said_by (Some t) x) (of_frame f.peer f.policy (answers_ident t) t x)
  by_ident tag.ServerIdent x = of_read f IdentSent control.ServerIdent (ident_says f) ident_garbled _ (read_says control.ServerIdent (server_ident_at x.first))
  by_ident tag.IdentMissingFeatures x =
      of_read f IdentSent control.IdentMissingFeatures (λ q. no_answer f IdentSent _ _ refl (λ last r. refl)) ident_garbled _
      (read_says control.IdentMissingFeatures (ident_missing_features_at x.first))
  by_ident tag.Wait x =
      of_read f IdentSent control.Wait (λ q. taken f IdentSent _ _ event.GotWait refl refl (λ s. refl) (λ seen e. absurd (wait_isnt_ok seen e))) ident_garbled _ (whole_says control.Wait (record {}) x.first)
  by_ident tag.SessionReset x =
      of_other f IdentSent control.SessionReset _ (λ q. no_answer f IdentSent _ _ refl (λ last r. refl)) (ident_garbled _) _ (read_says control.SessionReset (session_reset_at x.first))
  by_ident tag.SessionRetry x =
      of_other f IdentSent control.SessionRetry _ (λ q. no_answer f IdentSent _ _ refl (λ last r. refl)) (ident_garbled _) _ (read_says control.SessionRetry (session_retry_at x.first))
  by_ident tag.SessionRetryGlobal x =
      of_other f IdentSent control.SessionRetryGlobal _ (λ q. no_answer f IdentSent _ _ refl (λ last r. refl)) (ident_garbled _) _
      (read_says control.SessionRetryGlobal (session_retry_global_at x.first))
  by_ident tag.SessionReconnectOk x =
      of_other f IdentSent control.SessionReconnectOk _ (λ q. no_answer f IdentSent _ _ refl (λ last r. refl)) (ident_garbled _) _
      (read_says control.SessionReconnectOk (session_reconnect_ok_at x.first))
  by_ident tag.Keepalive x =
      of_other f IdentSent control.Keepalive _ (λ q. no_answer f IdentSent _ _ refl (λ last r. refl)) (ident_garbled _) _ (read_says control.Keepalive (keepalive_at x.first))
  by_ident tag.KeepaliveAck x =
      of_other f IdentSent control.KeepaliveAck _ (λ q. no_answer f IdentSent _ _ refl (λ last r. refl)) (ident_garbled _) _ (read_says control.KeepaliveAck (keepalive_ack_at x.first))
  by_ident tag.Ack x =
      of_other f IdentSent control.Ack _ (λ q. no_answer f IdentSent _ _ refl (λ last r. refl)) (ident_garbled _) _ (read_says control.Ack (ack_at x.first))
  by_ident tag.Message x = ident_message _ x (length x.first == HEADER_BYTES)
  by_ident _ x = ident_garbled _

  -- ---- a side that has sent a reconnect

  reconnect_garbled : (e : AnswerFault) → IsHeard f ReconnectSent garbles (heard.Refused e)
  reconnect_garbled e = no_answer f ReconnectSent garbles e refl (λ last r. refl)

  reconnect_message : (e : AnswerFault) (x : Parts) (b : Bool) → IsHeard f ReconnectSent (if b then brings (message_in x) else garbles) (heard.Refused e)
  reconnect_message e x true = no_answer f ReconnectSent (brings (message_in x)) e refl (λ last r. refl)
  reconnect_message e x false = reconnect_garbled e

  by_reconnect : (t : Tag) (x : Parts) → IsHeard f ReconnectSent (said_by (Some t) x) (of_frame f.peer f.policy (answers_reconnect t) t x)
  by_reconnect tag.SessionReset x =
      of_read f ReconnectSent control.SessionReset
      (λ q. record {
        answer = refl;
        lawful = λ s v e r. absurd (none_isnt_some v e);
        told = λ seen e. absurd (reset_isnt_ok q.full seen e);
        reset = λ full e. (refl, ap mark_of e);
        refused = λ last g e r. absurd (reset_isnt_refused g q.full e);
      })
      reconnect_garbled _ (read_says control.SessionReset (session_reset_at x.first))
  by_reconnect tag.SessionRetry x =
      of_read f ReconnectSent control.SessionRetry (λ q. taken f ReconnectSent _ _ (event.GotRetry q.connect) refl refl (λ s. refl) (λ seen e. absurd (retry_isnt_ok q.connect seen e))) reconnect_garbled _
      (read_says control.SessionRetry (session_retry_at x.first))
  by_reconnect tag.SessionRetryGlobal x =
      of_read f ReconnectSent control.SessionRetryGlobal (λ q. taken f ReconnectSent _ _ (event.GotRetryGlobal q.global) refl refl (λ s. refl) (λ seen e. absurd (retry_global_isnt_ok q.global seen e))) reconnect_garbled _
      (read_says control.SessionRetryGlobal (session_retry_global_at x.first))
  by_reconnect tag.SessionReconnectOk x =
      of_read f ReconnectSent control.SessionReconnectOk (λ q. taken f ReconnectSent _ _ event.GotReconnectOk refl refl (λ s. refl) (λ seen e. ap (λ z. Some (seen_of z)) e)) reconnect_garbled _
      (read_says control.SessionReconnectOk (session_reconnect_ok_at x.first))
  by_reconnect tag.Wait x =
      of_read f ReconnectSent control.Wait (λ q. taken f ReconnectSent _ _ event.GotWait refl refl (λ s. refl) (λ seen e. absurd (wait_isnt_ok seen e))) reconnect_garbled _ (whole_says control.Wait (record {}) x.first)
  by_reconnect tag.ServerIdent x =
      of_other f ReconnectSent control.ServerIdent _ (λ q. no_answer f ReconnectSent _ _ refl (λ last r. refl)) (reconnect_garbled _) _
      (read_says control.ServerIdent (server_ident_at x.first))
  by_reconnect tag.IdentMissingFeatures x =
      of_other f ReconnectSent control.IdentMissingFeatures _ (λ q. no_answer f ReconnectSent _ _ refl (λ last r. refl)) (reconnect_garbled _) _
      (read_says control.IdentMissingFeatures (ident_missing_features_at x.first))
  by_reconnect tag.Keepalive x =
      of_other f ReconnectSent control.Keepalive _ (λ q. no_answer f ReconnectSent _ _ refl (λ last r. refl)) (reconnect_garbled _) _ (read_says control.Keepalive (keepalive_at x.first))
  by_reconnect tag.KeepaliveAck x =
      of_other f ReconnectSent control.KeepaliveAck _ (λ q. no_answer f ReconnectSent _ _ refl (λ last r. refl)) (reconnect_garbled _) _
      (read_says control.KeepaliveAck (keepalive_ack_at x.first))
  by_reconnect tag.Ack x =
      of_other f ReconnectSent control.Ack _ (λ q. no_answer f ReconnectSent _ _ refl (λ last r. refl)) (reconnect_garbled _) _ (read_says control.Ack (ack_at x.first))
  by_reconnect tag.Message x = reconnect_message _ x (length x.first == HEADER_BYTES)
  by_reconnect _ x = reconnect_garbled _

  -- ---- in each phase

  by_phase : (p : Phase) (t : Option Tag) (x : Parts) → IsHeard f p (said_by t x) (of_tag f.peer f.policy p t x)
  by_phase IdentSent (Some t) x = by_ident t x
  by_phase ReconnectSent (Some t) x = by_reconnect t x
  by_phase Absent (Some t) x = no_answer f Absent _ _ refl (λ last r. refl)
  by_phase Connecting (Some t) x = no_answer f Connecting _ _ refl (λ last r. refl)
  by_phase Standby (Some t) x = no_answer f Standby _ _ refl (λ last r. refl)
  by_phase Wait (Some t) x = no_answer f Wait _ _ refl (λ last r. refl)
  by_phase Ready (Some t) x = no_answer f Ready _ _ refl (λ last r. absurd (true≢false r))
  by_phase Ready None x = no_answer f Ready _ _ refl (λ last r. absurd (true≢false r))
  by_phase IdentSent None x = ident_garbled _
  by_phase ReconnectSent None x = reconnect_garbled _
  by_phase Absent None x = no_answer f Absent _ _ refl (λ last r. refl)
  by_phase Connecting None x = no_answer f Connecting _ _ refl (λ last r. refl)
  by_phase Standby None x = no_answer f Standby _ _ refl (λ last r. refl)
  by_phase Wait None x = no_answer f Wait _ _ refl (λ last r. refl)

pub are_heard : FramesAreHeard
are_heard f p x = by_phase f p (tag_in x.tag) x
