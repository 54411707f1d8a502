-- Control payloads: one relation between a payload and its texts, behind one name, and how a payload is read.
use Rattle.std.specs.Prelude.{◌≡◌, ℕ, ◌≤◌, ◌==◌, Bool, true, false, if◌then◌else◌, List, length, Result, Ok, Err}
use Rattle.m2_addr.specs.Reading.{◌>>=◌, made}
use Rattle.m2_addr.specs.Addr.{IsWellFormed}
use Rattle.m2_control.specs.declared.control.Control.{Control}
use Rattle.m2_control.specs.declared.control.Control.TheVariants as control
use Rattle.m2_frame.specs.declared.tag.Tag.{Tag}
use Rattle.m2_frame.specs.declared.tag.Tag.TheVariants as tag
use Rattle.m2_control.specs.declared.fields.TheConstants.{MOST_LISTED, MOST_BYTES, SIGNATURE_BYTES}
use Rattle.m2_control.specs.declared.fault.ControlFault.{ControlFault}
use Rattle.m2_control.specs.declared.fault.ControlFault.TheVariants.{Extra, NotNegotiated}
use Rattle.m2_control.specs.Hello.{bare_hello, IsHello, hello_at, hello_text}
use Rattle.m2_control.specs.AuthRequest.{bare_auth_request, IsAuthRequest, auth_request_at, auth_request_text}
use Rattle.m2_control.specs.AuthBadMethod.{bare_auth_bad_method, IsAuthBadMethod, auth_bad_method_at, auth_bad_method_text}
use Rattle.m2_control.specs.AuthDone.{bare_auth_done, IsAuthDone, auth_done_at, auth_done_text}
use Rattle.m2_control.specs.AuthSignature.{bare_auth_signature, IsAuthSignature, auth_signature_at, auth_signature_text}
use Rattle.m2_control.specs.ClientIdent.{bare_client_ident, IsClientIdent, client_ident_at, client_ident_text}
use Rattle.m2_control.specs.ServerIdent.{bare_server_ident, IsServerIdent, server_ident_at, server_ident_text}
use Rattle.m2_control.specs.IdentMissingFeatures.{bare_ident_missing_features, IsIdentMissingFeatures, ident_missing_features_at, ident_missing_features_text}
use Rattle.m2_control.specs.SessionReconnect.{bare_session_reconnect, IsSessionReconnect, session_reconnect_at, session_reconnect_text}
use Rattle.m2_control.specs.SessionReset.{bare_session_reset, IsSessionReset, session_reset_at, session_reset_text}
use Rattle.m2_control.specs.SessionRetry.{bare_session_retry, IsSessionRetry, session_retry_at, session_retry_text}
use Rattle.m2_control.specs.SessionRetryGlobal.{bare_session_retry_global, IsSessionRetryGlobal, session_retry_global_at, session_retry_global_text}
use Rattle.m2_control.specs.SessionReconnectOk.{bare_session_reconnect_ok, IsSessionReconnectOk, session_reconnect_ok_at, session_reconnect_ok_text}
use Rattle.m2_control.specs.Wait.{IsWait, wait_text}
use Rattle.m2_control.specs.Keepalive.{bare_keepalive, IsKeepalive, keepalive_at, keepalive_text}
use Rattle.m2_control.specs.KeepaliveAck.{bare_keepalive_ack, IsKeepaliveAck, keepalive_ack_at, keepalive_ack_text}
use Rattle.m2_control.specs.Ack.{bare_ack, IsAck, ack_at, ack_text}

abbrev pub tag_of : Control → Tag
tag_of (control.Hello p) = tag.Hello
tag_of (control.AuthRequest p) = tag.AuthRequest
tag_of (control.AuthBadMethod p) = tag.AuthBadMethod
tag_of (control.AuthDone p) = tag.AuthDone
tag_of (control.AuthSignature p) = tag.AuthSignature
tag_of (control.ClientIdent p) = tag.ClientIdent
tag_of (control.ServerIdent p) = tag.ServerIdent
tag_of (control.IdentMissingFeatures p) = tag.IdentMissingFeatures
tag_of (control.SessionReconnect p) = tag.SessionReconnect
tag_of (control.SessionReset p) = tag.SessionReset
tag_of (control.SessionRetry p) = tag.SessionRetry
tag_of (control.SessionRetryGlobal p) = tag.SessionRetryGlobal
tag_of (control.SessionReconnectOk p) = tag.SessionReconnectOk
tag_of (control.Wait p) = tag.Wait
tag_of (control.Keepalive p) = tag.Keepalive
tag_of (control.KeepaliveAck p) = tag.KeepaliveAck
tag_of (control.Ack p) = tag.Ack

-- a payload without where its parts lie in memory
abbrev pub bare : Control → Control
bare (control.Hello p) = control.Hello (bare_hello p)
bare (control.AuthRequest p) = control.AuthRequest (bare_auth_request p)
bare (control.AuthBadMethod p) = control.AuthBadMethod (bare_auth_bad_method p)
bare (control.AuthDone p) = control.AuthDone (bare_auth_done p)
bare (control.AuthSignature p) = control.AuthSignature (bare_auth_signature p)
bare (control.ClientIdent p) = control.ClientIdent (bare_client_ident p)
bare (control.ServerIdent p) = control.ServerIdent (bare_server_ident p)
bare (control.IdentMissingFeatures p) = control.IdentMissingFeatures (bare_ident_missing_features p)
bare (control.SessionReconnect p) = control.SessionReconnect (bare_session_reconnect p)
bare (control.SessionReset p) = control.SessionReset (bare_session_reset p)
bare (control.SessionRetry p) = control.SessionRetry (bare_session_retry p)
bare (control.SessionRetryGlobal p) = control.SessionRetryGlobal (bare_session_retry_global p)
bare (control.SessionReconnectOk p) = control.SessionReconnectOk (bare_session_reconnect_ok p)
bare (control.Wait p) = control.Wait p
bare (control.Keepalive p) = control.Keepalive (bare_keepalive p)
bare (control.KeepaliveAck p) = control.KeepaliveAck (bare_keepalive_ack p)
bare (control.Ack p) = control.Ack (bare_ack p)

-- the text is one of this payload, which keeps the bounds of its fields
abbrev pub Spells : Control → List ℕ → Type 0
Spells (control.Hello p) = IsHello p
Spells (control.AuthRequest p) = IsAuthRequest p
Spells (control.AuthBadMethod p) = IsAuthBadMethod p
Spells (control.AuthDone p) = IsAuthDone p
Spells (control.AuthSignature p) = IsAuthSignature p
Spells (control.ClientIdent p) = IsClientIdent p
Spells (control.ServerIdent p) = IsServerIdent p
Spells (control.IdentMissingFeatures p) = IsIdentMissingFeatures p
Spells (control.SessionReconnect p) = IsSessionReconnect p
Spells (control.SessionReset p) = IsSessionReset p
Spells (control.SessionRetry p) = IsSessionRetry p
Spells (control.SessionRetryGlobal p) = IsSessionRetryGlobal p
Spells (control.SessionReconnectOk p) = IsSessionReconnectOk p
Spells (control.Wait p) = IsWait p
Spells (control.Keepalive p) = IsKeepalive p
Spells (control.KeepaliveAck p) = IsKeepaliveAck p
Spells (control.Ack p) = IsAck p

-- the fields of a payload at the front; four tags aren't negotiated, and a message is no control payload
abbrev pub fields_at : Tag → List ℕ → Result (Control × List ℕ) ControlFault
fields_at tag.Hello = made control.Hello hello_at
fields_at tag.AuthRequest = made control.AuthRequest auth_request_at
fields_at tag.AuthBadMethod = made control.AuthBadMethod auth_bad_method_at
fields_at tag.AuthDone = made control.AuthDone auth_done_at
fields_at tag.AuthSignature = made control.AuthSignature auth_signature_at
fields_at tag.ClientIdent = made control.ClientIdent client_ident_at
fields_at tag.ServerIdent = made control.ServerIdent server_ident_at
fields_at tag.IdentMissingFeatures = made control.IdentMissingFeatures ident_missing_features_at
fields_at tag.SessionReconnect = made control.SessionReconnect session_reconnect_at
fields_at tag.SessionReset = made control.SessionReset session_reset_at
fields_at tag.SessionRetry = made control.SessionRetry session_retry_at
fields_at tag.SessionRetryGlobal = made control.SessionRetryGlobal session_retry_global_at
fields_at tag.SessionReconnectOk = made control.SessionReconnectOk session_reconnect_ok_at
fields_at tag.Wait = λ bytes. Ok (control.Wait (record {}), bytes)
fields_at tag.Keepalive = made control.Keepalive keepalive_at
fields_at tag.KeepaliveAck = made control.KeepaliveAck keepalive_ack_at
fields_at tag.Ack = made control.Ack ack_at
fields_at _ = λ bytes. Err NotNegotiated

-- the payloads in which a list, a byte string, a vector or an address of any kind stands; the others take no memory
abbrev pub takes_memory : Tag → Bool
takes_memory tag.Hello = true
takes_memory tag.AuthRequest = true
takes_memory tag.AuthBadMethod = true
takes_memory tag.AuthDone = true
takes_memory tag.AuthSignature = true
takes_memory tag.ClientIdent = true
takes_memory tag.ServerIdent = true
takes_memory tag.SessionReconnect = true
takes_memory _ = false

-- the whole payload
abbrev pub whole : Result (Control × List ℕ) ControlFault → Result Control ControlFault
whole read = read >>= λ x. if length x.1 == 0 then Ok x.0 else Err Extra

abbrev pub payload_of : Tag → List ℕ → Result Control ControlFault
payload_of t bytes = whole (fields_at t bytes)

-- what is written of a payload
abbrev pub text_of : Control → List ℕ
text_of (control.Hello p) = hello_text p
text_of (control.AuthRequest p) = auth_request_text p
text_of (control.AuthBadMethod p) = auth_bad_method_text p
text_of (control.AuthDone p) = auth_done_text p
text_of (control.AuthSignature p) = auth_signature_text p
text_of (control.ClientIdent p) = client_ident_text p
text_of (control.ServerIdent p) = server_ident_text p
text_of (control.IdentMissingFeatures p) = ident_missing_features_text p
text_of (control.SessionReconnect p) = session_reconnect_text p
text_of (control.SessionReset p) = session_reset_text p
text_of (control.SessionRetry p) = session_retry_text p
text_of (control.SessionRetryGlobal p) = session_retry_global_text p
text_of (control.SessionReconnectOk p) = session_reconnect_ok_text p
text_of (control.Wait p) = wait_text p
text_of (control.Keepalive p) = keepalive_text p
text_of (control.KeepaliveAck p) = keepalive_ack_text p
text_of (control.Ack p) = ack_text p

-- what can be written: lists and byte strings keep their bounds, a signature has SIGNATURE_BYTES, an address is well-formed
abbrev pub IsWritable : Control → Type 0
IsWritable (control.Hello p) = IsWellFormed p.seen
IsWritable (control.AuthRequest p) = (length p.modes.items ≤ MOST_LISTED) × (length p.payload.bytes ≤ MOST_BYTES)
IsWritable (control.AuthBadMethod p) = (length p.methods.items ≤ MOST_LISTED) × (length p.modes.items ≤ MOST_LISTED)
IsWritable (control.AuthDone p) = length p.payload.bytes ≤ MOST_BYTES
IsWritable (control.AuthSignature p) = length p.signature.bytes ≡ SIGNATURE_BYTES
IsWritable _ = Unit {0}
