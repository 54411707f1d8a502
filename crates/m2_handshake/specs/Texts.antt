-- What a half writes until it is authed: HELLO and the four frames of an authentication without a method, in
-- crc mode. Formats: Ceph's msgr2 documentation; the values are this project's profile.
use Rattle.std.specs.Prelude.{◌≡◌, ℕ, List, [], ◌∷◌, ◌++◌, replicate, Result, Ok, Err}
use Rattle.m2_addr.specs.declared.addr.Addr.{Addr}
use Rattle.m2_addr.specs.declared.addr.AnyAddr.TheVariants.{V4}
use Rattle.m2_bytes.specs.declared.memory.NoMemory.{NoMemory}
use Rattle.m2_bytes.specs.Blob.{Contents}
use Rattle.m2_control.specs.declared.control.Control.{Control}
use Rattle.m2_control.specs.declared.fields.TheConstants.{SIGNATURE_BYTES}
use Rattle.m2_control.specs.declared.control.Control.TheVariants as control
use Rattle.m2_frame.specs.Tags.{tag_number}
use Rattle.m2_control.specs.Control as payload
use Rattle.m2_control.specs.Fields.{blob, listed}
use Rattle.m2_frame.specs.Frame.{Parts}
use Rattle.m2_policy.specs.declared.rules.AuthPayload.{AuthPayload}
use Rattle.m2_policy.specs.declared.rules.AuthPayload.TheVariants.{Empty, Authorizer}
use Rattle.m2_handshake.specs.declared.texts.TheConstants.{NONE, CRC, NOT_SUPPORTED}
use Rattle.m2_frame.specs.Text as frame

-- a frame of one segment, the payload
abbrev pub control_parts : Control → Parts
control_parts c = record { tag = tag_number (payload.tag_of c); first = payload.text_of c; second = []; third = []; fourth = [] }

abbrev pub frame_text : Control → List ℕ
frame_text c = frame.text_of (control_parts c)

-- this side's entity, and the other side's address as it is known
abbrev pub hello : ℕ → Addr → Control
hello entity seen = control.Hello (record { entity = entity; seen = V4 seen })

-- an authorizer of the method that asks for none: its version 1, the entity type 8 in four bytes, the length of an id
-- of no bytes in four, and global id 0 in eight
abbrev pub authorizer : List ℕ
authorizer = 1 ∷ 8 ∷ 0 ∷ 0 ∷ 0 ∷ 0 ∷ 0 ∷ 0 ∷ 0 ∷ 0 ∷ 0 ∷ 0 ∷ 0 ∷ 0 ∷ 0 ∷ 0 ∷ 0 ∷ []

abbrev pub auth_bytes : AuthPayload → List ℕ
auth_bytes Empty = []
auth_bytes Authorizer = authorizer

abbrev pub request : AuthPayload → Control
request auth = control.AuthRequest (record { method = NONE; modes = listed (CRC ∷ []); payload = blob (auth_bytes auth) })

abbrev pub done : Control
done = control.AuthDone (record { global_id = 0; mode = CRC; payload = blob [] })

-- 32 zero bytes
abbrev pub signature : Control
signature = control.AuthSignature (record { signature = blob (replicate SIGNATURE_BYTES 0) })

-- the method that was asked for, and what is accepted
abbrev pub bad_method : ℕ → Control
bad_method method = control.AuthBadMethod (record { method = method; outcome = NOT_SUPPORTED; methods = listed (NONE ∷ []); modes = listed (CRC ∷ []) })

-- Ok: the text is added at the end. Err: the bytes are as before.
abbrev pub Adds : Result (Unit {0}) NoMemory → Contents → Contents → List ℕ → Type 0
Adds (Ok _) old new more = new.bytes ≡ old.bytes ++ more
Adds (Err _) old new more = new.bytes ≡ old.bytes

-- a reply that accepts no session: a refusal of features, or one of the judgement of a reconnect
abbrev pub IsReply : Control → Type 0
IsReply (control.IdentMissingFeatures p) = Unit {0}
IsReply (control.SessionReset p) = Unit {0}
IsReply (control.SessionRetry p) = Unit {0}
IsReply (control.SessionRetryGlobal p) = Unit {0}
IsReply (control.Wait p) = Unit {0}
IsReply _ = ⊥
