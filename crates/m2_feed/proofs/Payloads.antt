-- What the payload of an answer is: one of its tag, with numbers that keep their bounds.
use Rattle.std.proofs.Common.{◌≡◌, ◌≢◌, ℕ, ◌==◌, Bool, true, false, List, length, Some, Result, Ok, Err, refl, sym, ap, subst, ◌∙◌}
use Rattle.std.specs.Prelude.{if◌then◌else◌}
use Rattle.std.proofs.lemmas.Bool.{true≢false}
use Rattle.m2_addr.specs.declared.addr.Addr.{Addr}
use Rattle.m2_addr.specs.declared.fault.AddrFault.{AddrFault}
use Rattle.m2_addr.specs.Grammar.{IsBytes}
use Rattle.m2_addr.specs.Reading.{◌>>=◌}
use Rattle.m2_control.proofs.Payloads.{payload_found}
use Rattle.m2_control.specs.declared.control.Control.{Control}
use Rattle.m2_control.specs.declared.control.Control.TheVariants as control
use Rattle.m2_control.specs.declared.fault.ControlFault.{ControlFault}
use Rattle.m2_control.specs.declared.fault.ControlFault.TheVariants.{Extra}
use Rattle.m2_control.specs.declared.server_ident.ServerIdent.{ServerIdent}
use Rattle.m2_control.specs.Ack.{ack_at}
use Rattle.m2_control.specs.Control.{Spells, payload_of, tag_of, takes_memory, whole}
use Rattle.m2_control.specs.IdentMissingFeatures.{ident_missing_features_at}
use Rattle.m2_control.specs.Keepalive.{keepalive_at}
use Rattle.m2_control.specs.KeepaliveAck.{keepalive_ack_at}
use Rattle.m2_control.specs.SessionReconnectOk.{session_reconnect_ok_at}
use Rattle.m2_control.specs.SessionReset.{session_reset_at}
use Rattle.m2_control.specs.SessionRetry.{session_retry_at}
use Rattle.m2_control.specs.SessionRetryGlobal.{session_retry_global_at}
use Rattle.m2_frame.specs.Frame.{Parts}
use Rattle.m2_handshake.specs.declared.fault.HalfFault.{HalfFault}
use Rattle.m2_policy.specs.declared.policy.Policy.{Policy}
use Rattle.m2_session.specs.declared.session.Phase.{Phase}
use Rattle.m2_frame.specs.declared.tag.Tag.{Tag}
use Rattle.m2_frame.specs.declared.tag.Tag.TheVariants as tag
use Rattle.m2_frame.specs.Tags.{tag_in}
use Rattle.m2_feed.specs.declared.heard.Heard.{Heard}
use Rattle.m2_feed.specs.Heard.{IsBounded, answers, checked, heard_in, of_control, of_frame, of_ident, of_payload, of_tag}

-- ---- a payload that was read is one of its tag

abbrev pub Says : {P : Type 0} → (P → Control) → Result Control ControlFault → Type 0
Says {P} k (Ok c) = (p : P) × (c ≡ k p)
Says {P} k (Err e) = Unit {0}

pub whole_says : {P : Type 0} (k : P → Control) (p : P) (rest : List ℕ) → Says k (whole (Ok (k p, rest)))
whole_says {P} k p rest = at (length rest == 0)
  where
    at : (b : Bool) → Says k (if b then Ok (k p) else Err Extra)
    at true = (p, refl)
    at false = tt

pub read_says : {P : Type 0} (k : P → Control) (r : Result (P × List ℕ) ControlFault) → Says k (whole (r >>= λ x. Ok (k x.0, x.1)))
read_says {P} k (Ok x) = whole_says k x.0 x.1
read_says {P} k (Err e) = tt

says_tag : {P : Type 0} (k : P → Control) (t : Tag) → ((p : P) → tag_of (k p) ≡ t) → (r : Result Control ControlFault) → Says k r → (c : Control) → r ≡ Ok c → tag_of c ≡ t
says_tag {P} k t same r h c e = let is : Says k (Ok c) = subst (λ z. Says k z) e h in ap tag_of is.1 ∙ same is.0

err_isnt_ok : (e : ControlFault) (c : Control) → Err e ≡ Ok c → ⊥
err_isnt_ok e c q = cc

payload_tag : (t : Tag) (bytes : List ℕ) (c : Control) → takes_memory t ≡ false → payload_of t bytes ≡ Ok c → tag_of c ≡ t
payload_tag tag.IdentMissingFeatures bytes c m e =
    says_tag control.IdentMissingFeatures tag.IdentMissingFeatures (λ p. refl) (payload_of tag.IdentMissingFeatures bytes)
    (read_says control.IdentMissingFeatures (ident_missing_features_at bytes)) c e
payload_tag tag.SessionReset bytes c m e =
    says_tag control.SessionReset tag.SessionReset (λ p. refl) (payload_of tag.SessionReset bytes) (read_says control.SessionReset (session_reset_at bytes)) c e
payload_tag tag.SessionRetry bytes c m e =
    says_tag control.SessionRetry tag.SessionRetry (λ p. refl) (payload_of tag.SessionRetry bytes) (read_says control.SessionRetry (session_retry_at bytes)) c e
payload_tag tag.SessionRetryGlobal bytes c m e =
    says_tag control.SessionRetryGlobal tag.SessionRetryGlobal (λ p. refl) (payload_of tag.SessionRetryGlobal bytes)
    (read_says control.SessionRetryGlobal (session_retry_global_at bytes)) c e
payload_tag tag.SessionReconnectOk bytes c m e =
    says_tag control.SessionReconnectOk tag.SessionReconnectOk (λ p. refl) (payload_of tag.SessionReconnectOk bytes)
    (read_says control.SessionReconnectOk (session_reconnect_ok_at bytes)) c e
payload_tag tag.Wait bytes c m e =
    says_tag control.Wait tag.Wait (λ p. refl) (payload_of tag.Wait bytes) (whole_says control.Wait (record {}) bytes) c e
payload_tag tag.Keepalive bytes c m e =
    says_tag control.Keepalive tag.Keepalive (λ p. refl) (payload_of tag.Keepalive bytes) (read_says control.Keepalive (keepalive_at bytes)) c e
payload_tag tag.KeepaliveAck bytes c m e =
    says_tag control.KeepaliveAck tag.KeepaliveAck (λ p. refl) (payload_of tag.KeepaliveAck bytes) (read_says control.KeepaliveAck (keepalive_ack_at bytes)) c e
payload_tag tag.Ack bytes c m e =
    says_tag control.Ack tag.Ack (λ p. refl) (payload_of tag.Ack bytes) (read_says control.Ack (ack_at bytes)) c e
payload_tag tag.Hello bytes c m e = absurd (true≢false m)
payload_tag tag.AuthRequest bytes c m e = absurd (true≢false m)
payload_tag tag.AuthBadMethod bytes c m e = absurd (true≢false m)
payload_tag tag.AuthDone bytes c m e = absurd (true≢false m)
payload_tag tag.AuthSignature bytes c m e = absurd (true≢false m)
payload_tag tag.ClientIdent bytes c m e = absurd (true≢false m)
payload_tag tag.ServerIdent bytes c m e = absurd (true≢false m)
payload_tag tag.SessionReconnect bytes c m e = absurd (true≢false m)
payload_tag tag.AuthReplyMore bytes c m e = absurd (err_isnt_ok _ c e)
payload_tag tag.AuthRequestMore bytes c m e = absurd (err_isnt_ok _ c e)
payload_tag tag.Message bytes c m e = absurd (err_isnt_ok _ c e)
payload_tag tag.CompressionRequest bytes c m e = absurd (err_isnt_ok _ c e)
payload_tag tag.CompressionDone bytes c m e = absurd (err_isnt_ok _ c e)

-- an ident takes memory
pub no_ident : (t : Tag) (bytes : List ℕ) (c : Control) → takes_memory t ≡ false → payload_of t bytes ≡ Ok c → (i : ServerIdent) → c ≢ control.ServerIdent i
no_ident t bytes c m e i is =
    true≢false (ap takes_memory (sym (ap tag_of is) ∙ payload_tag t bytes c m e) ∙ m)

-- ---- the numbers that it tells

ident_bounded : (peer : Addr) (policy : Policy) (i : ServerIdent) (m : Result Addr AddrFault) → IsBounded (of_ident peer policy i m)
ident_bounded peer policy i (Ok main) = at _
  where
    at : (r : Result (Unit {0}) HalfFault) → IsBounded (checked i r)
    at (Ok u) = tt
    at (Err e) = tt
ident_bounded peer policy i (Err e) = tt

control_bounded : (peer : Addr) (policy : Policy) (c : Control) (bytes : List ℕ) → Spells c bytes → IsBounded (of_control peer policy c)
control_bounded peer policy (control.ServerIdent i) bytes s = ident_bounded peer policy i _
control_bounded peer policy (control.SessionReconnectOk p) bytes s = s.1
control_bounded peer policy (control.SessionRetry p) bytes s = s.1
control_bounded peer policy (control.SessionRetryGlobal p) bytes s = s.1
control_bounded peer policy _ bytes s = tt

nowhere : Addr
nowhere = record { kind = 0; nonce = 0; ip = 0; port = 0 }

any_policy : Policy
any_policy = record { lossy = false; server = false; standby = false; resetcheck = false }

pub bounded : (t : Tag) (bytes : List ℕ) (c : Control) (h : Heard) → IsBytes bytes → payload_of t bytes ≡ Ok c →
    ((peer : Addr) (policy : Policy) → h ≡ of_control peer policy c) → IsBounded h
bounded t bytes c h are e is = subst IsBounded (sym (is nowhere any_policy)) (control_bounded nowhere any_policy c bytes (payload_found t bytes c are e).0)

-- ---- a frame with the tag of an answer says what its payload does

pub heard_as : (peer : Addr) (policy : Policy) (p : Phase) (t : Tag) (x : Parts) (h : Heard) → tag_in x.tag ≡ Some t → answers p t ≡ true →
    h ≡ of_payload peer policy (payload_of t x.first) → h ≡ heard_in peer policy p x
heard_as peer policy p t x h e a is =
    is ∙ sym (ap (λ o. of_tag peer policy p o x) e ∙ ap (λ b. of_frame peer policy b t x) a)
