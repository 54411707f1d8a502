-- What is told of each payload: its fields by name, in their order on the wire; of a message those of its header that
-- tell where it stands, and the sizes of its parts.
use Rattle.std.specs.Prelude.{ℕ, true, List, [], ◌∷◌, ◌++◌, map, codes}
use Rattle.m2_addr.specs.declared.fault.AddrFault.{AddrFault}
use Rattle.m2_addr.specs.declared.fault.AddrFault.TheVariants as address
use Rattle.m2_control.specs.declared.control.Control.{Control}
use Rattle.m2_control.specs.declared.control.Control.TheVariants as control
use Rattle.m2_control.specs.declared.fault.ControlFault.{ControlFault}
use Rattle.m2_control.specs.declared.fault.ControlFault.TheVariants as fault
use Rattle.m2_control.specs.declared.hello.Hello.{Hello}
use Rattle.m2_control.specs.declared.auth_request.AuthRequest.{AuthRequest}
use Rattle.m2_control.specs.declared.auth_bad_method.AuthBadMethod.{AuthBadMethod}
use Rattle.m2_control.specs.declared.auth_done.AuthDone.{AuthDone}
use Rattle.m2_control.specs.declared.auth_signature.AuthSignature.{AuthSignature}
use Rattle.m2_control.specs.declared.client_ident.ClientIdent.{ClientIdent}
use Rattle.m2_control.specs.declared.server_ident.ServerIdent.{ServerIdent}
use Rattle.m2_control.specs.declared.ident_missing_features.IdentMissingFeatures.{IdentMissingFeatures}
use Rattle.m2_control.specs.declared.session_reconnect.SessionReconnect.{SessionReconnect}
use Rattle.m2_control.specs.declared.session_reset.SessionReset.{SessionReset}
use Rattle.m2_control.specs.declared.session_retry.SessionRetry.{SessionRetry}
use Rattle.m2_control.specs.declared.session_retry_global.SessionRetryGlobal.{SessionRetryGlobal}
use Rattle.m2_control.specs.declared.session_reconnect_ok.SessionReconnectOk.{SessionReconnectOk}
use Rattle.m2_control.specs.declared.wait.Wait.{Wait}
use Rattle.m2_control.specs.declared.keepalive.Keepalive.{Keepalive}
use Rattle.m2_control.specs.declared.keepalive_ack.KeepaliveAck.{KeepaliveAck}
use Rattle.m2_control.specs.declared.ack.Ack.{Ack}
use Rattle.m2_message.specs.declared.header.Header.{Header}
use Rattle.m2_frame_facts.specs.declared.facts.Facts.{Facts}
use Rattle.m2_frame_facts.specs.declared.facts.Facts.TheVariants as facts
use Rattle.m2_frame_facts.specs.declared.facts.MessageFacts.{MessageFacts}
use Rattle.m2_frame_facts.specs.MessageType.{name_of_type}
use Rattle.m2_frame_facts.specs.Value.{Said, number, signed, flag, bits, bytes, numbers, place, places, word, ipv4, place_of, Told}

abbrev pub field : List ℕ → Said → Told
field name said = record { name = name; said = said }

abbrev pub header_fields : Header → List Told
header_fields h = field (codes "type") (number h.kind) ∷ field (codes "name") (word (name_of_type h.kind)) ∷ field (codes "seq") (number h.seq) ∷ field (codes "tid") (number h.tid) ∷ field (codes "priority") (number h.priority) ∷ field (codes "ack") (number h.ack_seq) ∷ []

-- how many bytes a message's parts have
abbrev pub size_fields : MessageFacts → List Told
size_fields p = field (codes "front") (number p.front) ∷ field (codes "middle") (number p.middle) ∷ field (codes "data") (number p.data_bytes) ∷ []

abbrev pub message_fields : MessageFacts → List Told
message_fields p = header_fields p.header ++ size_fields p

abbrev pub hello_fields : Hello → List Told
hello_fields p = field (codes "entity") (number p.entity) ∷ field (codes "seen") (place (place_of p.seen)) ∷ []

abbrev pub auth_request_fields : AuthRequest → List Told
auth_request_fields p = field (codes "method") (number p.method) ∷ field (codes "modes") (numbers p.modes.items) ∷ field (codes "payload") (bytes p.payload.bytes) ∷ []

abbrev pub auth_bad_method_fields : AuthBadMethod → List Told
auth_bad_method_fields p = field (codes "method") (number p.method) ∷ field (codes "result") (signed p.outcome) ∷ field (codes "methods") (numbers p.methods.items) ∷ field (codes "modes") (numbers p.modes.items) ∷ []

abbrev pub auth_done_fields : AuthDone → List Told
auth_done_fields p = field (codes "global_id") (number p.global_id) ∷ field (codes "mode") (number p.mode) ∷ field (codes "payload") (bytes p.payload.bytes) ∷ []

abbrev pub auth_signature_fields : AuthSignature → List Told
auth_signature_fields p = field (codes "signature") (bytes p.signature.bytes) ∷ []

abbrev pub client_ident_fields : ClientIdent → List Told
client_ident_fields p = field (codes "addrs") (places (map place_of p.addrs)) ∷ field (codes "target") (place (ipv4 p.target)) ∷ field (codes "gid") (signed p.gid) ∷ field (codes "global") (number p.global) ∷ field (codes "supported") (bits p.supported) ∷ field (codes "required") (bits p.required) ∷ field (codes "flags") (bits p.flags) ∷ field (codes "cookie") (bits p.cookie) ∷ []

abbrev pub server_ident_fields : ServerIdent → List Told
server_ident_fields p = field (codes "addrs") (places (map place_of p.addrs)) ∷ field (codes "gid") (signed p.gid) ∷ field (codes "global") (number p.global) ∷ field (codes "supported") (bits p.supported) ∷ field (codes "required") (bits p.required) ∷ field (codes "flags") (bits p.flags) ∷ field (codes "cookie") (bits p.cookie) ∷ []

abbrev pub ident_missing_features_fields : IdentMissingFeatures → List Told
ident_missing_features_fields p = field (codes "features") (bits p.bits) ∷ []

abbrev pub session_reconnect_fields : SessionReconnect → List Told
session_reconnect_fields p = field (codes "addrs") (places (map place_of p.addrs)) ∷ field (codes "client_cookie") (bits p.client) ∷ field (codes "server_cookie") (bits p.server) ∷ field (codes "global") (number p.global) ∷ field (codes "connect") (number p.connect) ∷ field (codes "seen") (number p.seen) ∷ []

abbrev pub session_reset_fields : SessionReset → List Told
session_reset_fields p = field (codes "full") (flag p.full) ∷ []

abbrev pub session_retry_fields : SessionRetry → List Told
session_retry_fields p = field (codes "connect") (number p.connect) ∷ []

abbrev pub session_retry_global_fields : SessionRetryGlobal → List Told
session_retry_global_fields p = field (codes "global") (number p.global) ∷ []

abbrev pub session_reconnect_ok_fields : SessionReconnectOk → List Told
session_reconnect_ok_fields p = field (codes "seen") (number p.seen) ∷ []

abbrev pub wait_fields : Wait → List Told
wait_fields p = []

abbrev pub keepalive_fields : Keepalive → List Told
keepalive_fields p = field (codes "seconds") (number p.seconds) ∷ field (codes "nanoseconds") (number p.nanos) ∷ []

abbrev pub keepalive_ack_fields : KeepaliveAck → List Told
keepalive_ack_fields p = field (codes "seconds") (number p.seconds) ∷ field (codes "nanoseconds") (number p.nanos) ∷ []

abbrev pub ack_fields : Ack → List Told
ack_fields p = field (codes "seen") (number p.seen) ∷ []

abbrev pub control_fields : Control → List Told
control_fields (control.Hello p) = hello_fields p
control_fields (control.AuthRequest p) = auth_request_fields p
control_fields (control.AuthBadMethod p) = auth_bad_method_fields p
control_fields (control.AuthDone p) = auth_done_fields p
control_fields (control.AuthSignature p) = auth_signature_fields p
control_fields (control.ClientIdent p) = client_ident_fields p
control_fields (control.ServerIdent p) = server_ident_fields p
control_fields (control.IdentMissingFeatures p) = ident_missing_features_fields p
control_fields (control.SessionReconnect p) = session_reconnect_fields p
control_fields (control.SessionReset p) = session_reset_fields p
control_fields (control.SessionRetry p) = session_retry_fields p
control_fields (control.SessionRetryGlobal p) = session_retry_global_fields p
control_fields (control.SessionReconnectOk p) = session_reconnect_ok_fields p
control_fields (control.Wait p) = wait_fields p
control_fields (control.Keepalive p) = keepalive_fields p
control_fields (control.KeepaliveAck p) = keepalive_ack_fields p
control_fields (control.Ack p) = ack_fields p

-- the words for faults
abbrev pub address_word : AddrFault → List ℕ
address_word address.Short = codes "address-short"
address_word address.BadMarker = codes "address-bad-marker"
address_word address.BadLength = codes "address-bad-length"
address_word address.NotIpv4 = codes "address-not-ipv4"
address_word address.NoMsgr2 = codes "address-no-msgr2"
address_word address.TooMany = codes "address-too-many"
address_word address.NoMemory = codes "address-no-memory"

abbrev pub fault_field : List ℕ → Told
fault_field why = field (codes "fault") (word why)

abbrev pub fault_at_fields : (why : List ℕ) → (n : ℕ) → List Told
fault_at_fields why n = fault_field why ∷ field (codes "field") (number n) ∷ []

abbrev pub bad_value_fields : ℕ → List Told
bad_value_fields n = fault_at_fields (codes "bad-value") n

abbrev pub aborted_fields : List Told
aborted_fields = field (codes "aborted") (flag true) ∷ []

abbrev pub fault_fields : ControlFault → List Told
fault_fields fault.Short = fault_field (codes "short") ∷ []
fault_fields fault.Extra = fault_field (codes "extra") ∷ []
fault_fields (fault.BadValue n) = bad_value_fields n
fault_fields fault.NotNegotiated = fault_field (codes "not-negotiated") ∷ []
fault_fields (fault.Address why) = fault_field (address_word why) ∷ []
fault_fields fault.NoMemory = fault_field (codes "no-memory") ∷ []

abbrev pub fields_of : Facts → List Told
fields_of (facts.Message m) = message_fields m
fields_of facts.NoHeader = fault_field (codes "bad-header") ∷ []
fields_of (facts.Control c) = control_fields c
fields_of (facts.NoPayload e) = fault_fields e
fields_of facts.Aborted = aborted_fields
