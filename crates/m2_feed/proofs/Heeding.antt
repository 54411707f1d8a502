-- Each answer is what the replay says of the same text.
use Rattle.std.proofs.Common.{◌≡◌, ◌≢◌, ℕ, ◌+◌, ◌<◌, ◌≤◌, Bool, true, false, List, length, Option, Some, None, Result, Ok, Err, refl, sym, ap, subst, ◌∙◌, arith, inl, inr}
use Rattle.std.specs.Prelude.{◌⊎◌, ◌==◌, nat_lt, nat_le, if◌then◌else◌}
use Rattle.std.proofs.lemmas.Bool.{true≢false, ltb-true, ltb-false, leb-false, lt-leb}
use Rattle.m2_addr.specs.Reading.{◌>>=◌, made}
use Rattle.m2_control.specs.declared.control.Control.{Control}
use Rattle.m2_control.specs.declared.control.Control.TheVariants as control
use Rattle.m2_control.specs.declared.fault.ControlFault.{ControlFault}
use Rattle.m2_control.specs.declared.fault.ControlFault.TheVariants.{Extra, NotNegotiated}
use Rattle.m2_control.specs.Control.{payload_of, tag_of}
use Rattle.m2_control.specs.Control as payload
use Rattle.m2_control.specs.Ack.{ack_at}
use Rattle.m2_control.specs.AuthBadMethod.{auth_bad_method_at}
use Rattle.m2_control.specs.AuthDone.{auth_done_at}
use Rattle.m2_control.specs.AuthRequest.{auth_request_at}
use Rattle.m2_control.specs.AuthSignature.{auth_signature_at}
use Rattle.m2_control.specs.ClientIdent.{client_ident_at}
use Rattle.m2_control.specs.Hello.{hello_at}
use Rattle.m2_control.specs.IdentMissingFeatures.{ident_missing_features_at}
use Rattle.m2_control.specs.Keepalive.{keepalive_at}
use Rattle.m2_control.specs.KeepaliveAck.{keepalive_ack_at}
use Rattle.m2_control.specs.ServerIdent.{server_ident_at}
use Rattle.m2_control.specs.SessionReconnect.{session_reconnect_at}
use Rattle.m2_control.specs.SessionReconnectOk.{session_reconnect_ok_at}
use Rattle.m2_control.specs.SessionReset.{session_reset_at}
use Rattle.m2_control.specs.SessionRetry.{session_retry_at}
use Rattle.m2_control.specs.SessionRetryGlobal.{session_retry_global_at}
use Rattle.m2_frame.specs.Frame.{Parts}
use Rattle.m2_frame.specs.Reading.{whole, dropped}
use Rattle.m2_journal.specs.Feeds.{is_passed, told_by}
use Rattle.m2_journal.specs.Lawful.{is_refused}
use Rattle.m2_journal.specs.Said.{Said, says, brings, aborts, garbles, said, said_by, said_of_control, said_of_message, said_of_payload, is_read_at_feed}
use Rattle.m2_message.specs.Message.{Content}
use Rattle.m2_message.specs.declared.fault.MessageFault.TheVariants.{BadHeader}
use Rattle.m2_message.specs.declared.header_text.TheConstants.{HEADER_BYTES}
use Rattle.m2_message.specs.HeaderText.{header_in}
use Rattle.m2_message.specs.MessageFrame.{message_in}
use Rattle.m2_session.specs.declared.session.Phase.{Phase}
use Rattle.m2_session.specs.declared.session.Phase.TheVariants.{Absent, Connecting, IdentSent, ReconnectSent, Ready, Standby, Wait}
use Rattle.m2_session.specs.Phases as phase
use Rattle.m2_frame.specs.declared.tag.Tag.{Tag}
use Rattle.m2_frame.specs.declared.tag.Tag.TheVariants as tag
use Rattle.m2_frame.specs.Tags.{tag_in}
use Rattle.m2_feed.specs.declared.wire_fault.WireFault.TheVariants as fault
use Rattle.m2_feed.specs.declared.frame_heard.FrameHeard.{FrameHeard}
use Rattle.m2_feed.specs.declared.frame_heard.FrameHeard.TheVariants.{Nothing, Acknowledges, Brings, Fault}
use Rattle.m2_feed.specs.declared.hearer.Hearer.{Hearer}
use Rattle.m2_feed.specs.FrameHeard.{heard_aborted, heard_ack, heard_as_answer, heard_control, heard_if, heard_in_ready, heard_message, heard_numbers, heard_of_tag, heard_payload, may_come}
use Rattle.m2_feed.specs.FrameLaws.{IsAsReplayed, IsHeardAsReplayed, IsRefused}
use Rattle.m2_bytes.proofs.m2_lemmas.Options.{none_isnt_some}
use Rattle.m2_feed.proofs.AnswerSizes.{IsNoPayload, message-says}

-- ---- words

same_some : (m n : ℕ) → Some m ≡ Some n → m ≡ n
same_some m n e = cc

pub is_ready : (p : Phase) → phase.is p Ready ≡ true → p ≡ Ready
is_ready Ready e = refl
is_ready Absent e = cc
is_ready Connecting e = cc
is_ready IdentSent e = cc
is_ready ReconnectSent e = cc
is_ready Standby e = cc
is_ready Wait e = cc

-- ---- texts that may not come

-- what is never read is refused in each phase
garbled : (h : Hearer) → IsRefused h garbles
garbled h = record { stops = λ _. refl; refused = at h.phase }
  where
    at : (p : Phase) → is_refused p h.last (Some garbles) ≡ true
    at Absent = refl
    at Connecting = refl
    at IdentSent = refl
    at ReconnectSent = refl
    at Ready = refl
    at Standby = refl
    at Wait = refl

-- in Ready a payload of another tag isn't passed over
not_passed : (c : Control) (last : ℕ) → may_come (tag_of c) Ready ≡ false → is_passed last (says c) ≡ false
not_passed (control.Ack p) last e = cc
not_passed (control.Keepalive p) last e = cc
not_passed (control.KeepaliveAck p) last e = cc
not_passed c last e = refl

-- after a reconnect a payload that isn't a reset is refused
not_reset : (c : Control) (last : ℕ) → may_come (tag_of c) ReconnectSent ≡ false → is_refused ReconnectSent last (Some (says c)) ≡ true
not_reset (control.SessionReset p) last e = cc
not_reset c last e = refl

unlawful : (p : Phase) (c : Control) (last : ℕ) → may_come (tag_of c) p ≡ false →
    (phase.is p Ready ≡ true → is_passed last (says c) ≡ false) × (is_refused p last (Some (says c)) ≡ true)
unlawful Ready c last e = (λ _. not_passed c last e, refl)
unlawful ReconnectSent c last e = (λ r. cc, not_reset c last e)
unlawful Absent c last e = (λ r. cc, refl)
unlawful Connecting c last e = (λ r. cc, refl)
unlawful IdentSent c last e = (λ r. cc, refl)
unlawful Standby c last e = (λ r. cc, refl)
unlawful Wait c last e = (λ r. cc, refl)

-- outside Ready no message may come, whether it can be read or not
pub no_message : (p : Phase) (last : ℕ) (x : Said) → phase.is p Ready ≡ false → IsNoPayload x → is_refused p last (Some x) ≡ true
no_message Ready last x q h = absurd (true≢false q)
no_message p last (says c) q h = absurd h
no_message ReconnectSent last (brings m) q h = refl
no_message ReconnectSent last aborts q h = refl
no_message ReconnectSent last garbles q h = refl
no_message p last x q h = refl

early : (h : Hearer) (x : Said) → phase.is h.phase Ready ≡ false → IsNoPayload x → IsRefused h x
early h x q n = record { stops = λ r. absurd (true≢false (sym r ∙ q)); refused = no_message h.phase h.last x q n }

-- ---- numbers

-- an acknowledgement, where what the text says besides is as the replay says of one that was counted
ack : (h : Hearer) (number : ℕ) (besides : FrameHeard) (x : Said) → told_by x ≡ Some number → phase.is h.phase Ready ≡ true →
    (((n : ℕ) → told_by x ≡ Some n → n ≤ h.acknowledged) → IsAsReplayed besides h x) → IsAsReplayed (heard_ack h number besides) h x
ack h number besides x told ready rest = at (nat_lt h.written number) refl (nat_lt h.acknowledged number) refl
  where
    at : (a : Bool) → nat_lt h.written number ≡ a → (b : Bool) → nat_lt h.acknowledged number ≡ b →
        IsAsReplayed (if a then Fault (fault.BadAck h.written number) else if b then Acknowledges number else besides) h x
    at true e b e' = inr (record { number = number; told = told; beyond = ltb-true h.written number e })
    at false e true e' = record { ready = ready; told = told; above = ltb-true h.acknowledged number e'; written = ltb-false h.written number e }
    at false e false e' = rest (λ n t. let s = same_some number n (sym told ∙ t) in omega (arith, s, ltb-false h.acknowledged number e'))

-- a message whose header is read
message : (h : Hearer) (m : Content) → phase.is h.phase Ready ≡ true → IsAsReplayed (heard_numbers h m.header.seq m.header.ack_seq) h (brings m)
message h m ready = gap (nat_lt (h.last + 1) m.header.seq) refl
  where
    number : m.header.seq ≤ h.last + 1 → (b : Bool) → nat_le m.header.seq h.last ≡ b → ((n : ℕ) → told_by (brings m) ≡ Some n → n ≤ h.acknowledged) →
        IsAsReplayed (if b then Nothing else Brings m.header.seq) h (brings m)
    number le true o counted = (record { ready = ready; passed = o; counted = counted }, refl)
    number le false o counted = record {
      ready = ready;
      message = m;
      said = refl;
      number = refl;
      next = omega (arith, le, leb-false m.header.seq h.last o);
    }

    gap : (b : Bool) → nat_lt (h.last + 1) m.header.seq ≡ b →
        IsAsReplayed (if b then Fault (fault.Gap h.last m.header.seq) else heard_ack h m.header.ack_seq (if nat_le m.header.seq h.last then Nothing else Brings m.header.seq)) h (brings m)
    gap true e = inl (record {
      stops = λ _. lt-leb m.header.seq h.last (let far = ltb-true (h.last + 1) m.header.seq e in omega (arith, far));
      refused = ap (λ (p : Phase). is_refused p h.last (Some (brings m))) (is_ready h.phase ready) ∙ e;
    })
    gap false e = ack h m.header.ack_seq (if nat_le m.header.seq h.last then Nothing else Brings m.header.seq) (brings m) refl ready
        (number (ltb-false (h.last + 1) m.header.seq e) (nat_le m.header.seq h.last) refl)

message_text : (h : Hearer) (f : Parts) → phase.is h.phase Ready ≡ true → IsAsReplayed (heard_message h f.first) h (said_of_message f)
message_text h f ready = at (length f.first == HEADER_BYTES)
  where
    at : (b : Bool) → IsAsReplayed (if b then heard_numbers h (header_in f.first).seq (header_in f.first).ack_seq else Fault (fault.Message BadHeader)) h (if b then brings (message_in f) else garbles)
    at true = message h (message_in f) ready
    at false = inl (garbled h)

-- ---- payloads

-- a payload that is read has the tag that it was read under
made_is : (X : Type 0) (F : X → Control) (t : Tag) → ((p : X) → tag_of (F p) ≡ t) → (read : List ℕ → Result (X × List ℕ) ControlFault) (bytes : List ℕ) (c : Control) →
    payload.whole (made F read bytes) ≡ Ok c → tag_of c ≡ t
made_is X F t is read bytes c = at (read bytes)
  where
    end : (p : X) (b : Bool) → (if b then Ok (F p) else Err Extra) ≡ Ok c → tag_of c ≡ t
    end p true e = let same : c ≡ F p = cc in ap tag_of same ∙ is p
    end p false e = let never : ⊥ = cc in absurd never

    at : (r : Result (X × List ℕ) ControlFault) → payload.whole (r >>= λ x. Ok (F x.0, x.1)) ≡ Ok c → tag_of c ≡ t
    at (Ok x) e = end x.0 (length x.1 == 0) e
    at (Err f) e = let never : ⊥ = cc in absurd never

no_payload : (f : ControlFault) (c : Control) → Err f ≡ Ok c → ⊥
no_payload f c e = cc

wait_is : (bytes : List ℕ) (c : Control) → payload_of tag.Wait bytes ≡ Ok c → tag_of c ≡ tag.Wait
wait_is bytes c = at (length bytes == 0)
  where
    at : (b : Bool) → (if b then Ok (control.Wait (record {})) else Err Extra) ≡ Ok c → tag_of c ≡ tag.Wait
    at true e = let same : c ≡ control.Wait (record {}) = cc in ap tag_of same
    at false e = absurd (no_payload Extra c e)

tag_read : (t : Tag) (bytes : List ℕ) (c : Control) → payload_of t bytes ≡ Ok c → tag_of c ≡ t
tag_read tag.Hello bytes c e = made_is _ control.Hello tag.Hello (λ p. refl) hello_at bytes c e
tag_read tag.AuthRequest bytes c e = made_is _ control.AuthRequest tag.AuthRequest (λ p. refl) auth_request_at bytes c e
tag_read tag.AuthBadMethod bytes c e = made_is _ control.AuthBadMethod tag.AuthBadMethod (λ p. refl) auth_bad_method_at bytes c e
tag_read tag.AuthDone bytes c e = made_is _ control.AuthDone tag.AuthDone (λ p. refl) auth_done_at bytes c e
tag_read tag.AuthSignature bytes c e = made_is _ control.AuthSignature tag.AuthSignature (λ p. refl) auth_signature_at bytes c e
tag_read tag.ClientIdent bytes c e = made_is _ control.ClientIdent tag.ClientIdent (λ p. refl) client_ident_at bytes c e
tag_read tag.ServerIdent bytes c e = made_is _ control.ServerIdent tag.ServerIdent (λ p. refl) server_ident_at bytes c e
tag_read tag.IdentMissingFeatures bytes c e = made_is _ control.IdentMissingFeatures tag.IdentMissingFeatures (λ p. refl) ident_missing_features_at bytes c e
tag_read tag.SessionReconnect bytes c e = made_is _ control.SessionReconnect tag.SessionReconnect (λ p. refl) session_reconnect_at bytes c e
tag_read tag.SessionReset bytes c e = made_is _ control.SessionReset tag.SessionReset (λ p. refl) session_reset_at bytes c e
tag_read tag.SessionRetry bytes c e = made_is _ control.SessionRetry tag.SessionRetry (λ p. refl) session_retry_at bytes c e
tag_read tag.SessionRetryGlobal bytes c e = made_is _ control.SessionRetryGlobal tag.SessionRetryGlobal (λ p. refl) session_retry_global_at bytes c e
tag_read tag.SessionReconnectOk bytes c e = made_is _ control.SessionReconnectOk tag.SessionReconnectOk (λ p. refl) session_reconnect_ok_at bytes c e
tag_read tag.Wait bytes c e = wait_is bytes c e
tag_read tag.Keepalive bytes c e = made_is _ control.Keepalive tag.Keepalive (λ p. refl) keepalive_at bytes c e
tag_read tag.KeepaliveAck bytes c e = made_is _ control.KeepaliveAck tag.KeepaliveAck (λ p. refl) keepalive_ack_at bytes c e
tag_read tag.Ack bytes c e = made_is _ control.Ack tag.Ack (λ p. refl) ack_at bytes c e
tag_read t bytes c e = absurd (no_payload NotNegotiated c e)

-- in Ready
ready_control : (h : Hearer) (c : Control) → phase.is h.phase Ready ≡ true → IsAsReplayed (heard_in_ready h c) h (says c)
ready_control h (control.Ack p) r = ack h p.seen Nothing (says (control.Ack p)) refl r (λ counted. (record { ready = r; passed = refl; counted = counted }, refl))
ready_control h (control.Keepalive p) r = (record { ready = r; passed = refl; counted = λ n e. absurd (none_isnt_some n e) }, refl)
ready_control h (control.KeepaliveAck p) r = (record { ready = r; passed = refl; counted = λ n e. absurd (none_isnt_some n e) }, refl)
ready_control h c r = inl (record { stops = λ _. refl; refused = ap (λ (p : Phase). is_refused p h.last (Some (says c))) (is_ready h.phase r) })

-- an answer that may come, outside Ready
reset_phase : (p : Phase) → may_come tag.SessionReset p ≡ true → p ≡ ReconnectSent
reset_phase ReconnectSent e = refl
reset_phase Absent e = cc
reset_phase Connecting e = cc
reset_phase IdentSent e = cc
reset_phase Ready e = cc
reset_phase Standby e = cc
reset_phase Wait e = cc

abbrev is_reset : Control → Bool
is_reset (control.SessionReset p) = true
is_reset _ = false

refused_answer : (p : Phase) (c : Control) (last : ℕ) → phase.is p Ready ≡ false → is_reset c ≡ false → is_refused p last (Some (says c)) ≡ true
refused_answer Ready c last q n = absurd (true≢false q)
refused_answer ReconnectSent (control.SessionReset r) last q n = cc
refused_answer ReconnectSent c last q n = refl
refused_answer Absent c last q n = refl
refused_answer Connecting c last q n = refl
refused_answer IdentSent c last q n = refl
refused_answer Standby c last q n = refl
refused_answer Wait c last q n = refl

late_answer : (h : Hearer) (c : Control) → phase.is h.phase Ready ≡ false → is_reset c ≡ false → IsRefused h (says c)
late_answer h c q n = record { stops = λ r. absurd (true≢false (sym r ∙ q)); refused = refused_answer h.phase c h.last q n }

answer_control : (h : Hearer) (c : Control) → phase.is h.phase Ready ≡ false → may_come (tag_of c) h.phase ≡ true → IsAsReplayed (heard_as_answer h c) h (says c)
answer_control h (control.SessionReset p) q e = record { phase = reset_phase h.phase e; reset = p; said = refl; mark = refl }
answer_control h c q e = inl (late_answer h c q refl)

control_text : (h : Hearer) (c : Control) → may_come (tag_of c) h.phase ≡ true → IsAsReplayed (heard_control h c) h (says c)
control_text h c e = at (phase.is h.phase Ready) refl
  where
    at : (b : Bool) → phase.is h.phase Ready ≡ b → IsAsReplayed (if b then heard_in_ready h c else heard_as_answer h c) h (says c)
    at true q = ready_control h c q
    at false q = answer_control h c q e

-- each tag that may come is read at a feed, but that of a message, which isn't a payload
read_there : (t : Tag) (p : Phase) → may_come t p ≡ true → t ≢ tag.Message → is_read_at_feed t ≡ true
read_there tag.Message p e n = absurd (n refl)
read_there t p e n = cc

payload_said : (h : Hearer) (t : Tag) (r : Result Control ControlFault) → may_come t h.phase ≡ true → ((c : Control) → r ≡ Ok c → tag_of c ≡ t) →
    IsAsReplayed (heard_payload h r) h (said_of_payload r)
payload_said h t (Ok c) e tags = control_text h c (subst (λ (u : Tag). may_come u h.phase ≡ true) (sym (tags c refl)) e)
payload_said h t (Err f) e tags = inl (garbled h)

payload_text : (h : Hearer) (t : Tag) (f : Parts) → may_come t h.phase ≡ true → t ≢ tag.Message →
    IsAsReplayed (heard_payload h (payload_of t f.first)) h (said_of_control t f)
payload_text h t f e n =
    subst (λ (b : Bool). IsAsReplayed (heard_payload h (payload_of t f.first)) h (if b then said_of_payload (payload_of t f.first) else garbles)) (sym (read_there t h.phase e n))
    (payload_said h t (payload_of t f.first) e (λ c q. tag_read t f.first c q))

-- ---- each text

message_phase : (p : Phase) → may_come tag.Message p ≡ true → phase.is p Ready ≡ true
message_phase Ready e = refl
message_phase Absent e = cc
message_phase Connecting e = cc
message_phase IdentSent e = cc
message_phase ReconnectSent e = cc
message_phase Standby e = cc
message_phase Wait e = cc

no_message_phase : (p : Phase) → may_come tag.Message p ≡ false → phase.is p Ready ≡ false
no_message_phase Ready e = cc
no_message_phase Absent e = refl
no_message_phase Connecting e = refl
no_message_phase IdentSent e = refl
no_message_phase ReconnectSent e = refl
no_message_phase Standby e = refl
no_message_phase Wait e = refl

lawful_text : (h : Hearer) (t : Tag) (f : Parts) → may_come t h.phase ≡ true → IsAsReplayed (heard_of_tag h t f.first) h (said_by (Some t) f)
lawful_text h tag.Message f e = message_text h f (message_phase h.phase e)
lawful_text h t f e = payload_text h t f e (λ q. cc)

unlawful_said : (h : Hearer) (t : Tag) (r : Result Control ControlFault) (b : Bool) → may_come t h.phase ≡ false → ((c : Control) → r ≡ Ok c → tag_of c ≡ t) →
    IsRefused h (if b then said_of_payload r else garbles)
unlawful_said h t (Ok c) true e tags =
    let u = unlawful h.phase c h.last (subst (λ (u : Tag). may_come u h.phase ≡ false) (sym (tags c refl)) e) in
    record { stops = u.0; refused = u.1 }
unlawful_said h t (Err f) true e tags = garbled h
unlawful_said h t r false e tags = garbled h

unlawful_text : (h : Hearer) (t : Tag) (f : Parts) → may_come t h.phase ≡ false → IsRefused h (said_by (Some t) f)
unlawful_text h tag.Message f e = early h (said_of_message f) (no_message_phase h.phase e) (message-says f)
unlawful_text h t f e = unlawful_said h t (payload_of t f.first) (is_read_at_feed t) e (λ c q. tag_read t f.first c q)

frame_text : (h : Hearer) (o : Option Tag) (f : Parts) → IsAsReplayed (heard_if h o f) h (said_by o f)
frame_text h (Some t) f = at (may_come t h.phase) refl
  where
    at : (b : Bool) → may_come t h.phase ≡ b → IsAsReplayed (if b then heard_of_tag h t f.first else Fault (fault.Unexpected f.tag)) h (said_by (Some t) f)
    at true e = lawful_text h t f e
    at false e = inl (unlawful_text h t f e)
frame_text h None f = inl (garbled h)

aborted_text : (h : Hearer) (tag : ℕ) → IsAsReplayed (heard_aborted h tag) h aborts
aborted_text h tag = at (phase.is h.phase Ready) refl
  where
    at : (b : Bool) → phase.is h.phase Ready ≡ b → IsAsReplayed (if b then Nothing else Fault (fault.Unexpected tag)) h aborts
    at true q = (record { ready = q; passed = refl; counted = λ n e. absurd (none_isnt_some n e) }, refl)
    at false q = inl (early h aborts q tt)

pub heeds : IsHeardAsReplayed
heeds h (whole f) = frame_text h (tag_in f.tag) f
heeds h (dropped tag) = aborted_text h tag
