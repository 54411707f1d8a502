-- The table of the handshake: what each frame brings at the frame that is waited for. The order of frames is
-- that of Ceph's msgr2 documentation, with no authentication; the answers to another method and the faults are
-- this project's profile; what an opener's AUTH_REQUEST carries is a rule of the node.
use Rattle.std.specs.Prelude.{◌==◌, ◌&&◌, ℕ, Bool, if◌then◌else◌, List, ◌++◌, length, Result, Ok, Err}
use Rattle.std.specs.List.{list_all, list_any}
use Rattle.m2_control.specs.declared.auth_request.AuthRequest.{AuthRequest}
use Rattle.m2_control.specs.declared.control.Control.{Control}
use Rattle.m2_control.specs.declared.fields.TheConstants.{SIGNATURE_BYTES}
use Rattle.m2_control.specs.declared.control.Control.TheVariants as control
use Rattle.m2_frame.specs.declared.tag.Tag.{Tag}
use Rattle.m2_frame.specs.declared.tag.Tag.TheVariants as tag
use Rattle.m2_control.specs.Control.{tag_of}
use Rattle.m2_frame.specs.Tags.{tag_number}
use Rattle.m2_frame.specs.Frame.{Parts}
use Rattle.m2_policy.specs.declared.rules.AuthPayload.{AuthPayload}
use Rattle.m2_handshake.specs.declared.fault.HalfFault.{HalfFault}
use Rattle.m2_handshake.specs.declared.fault.HalfFault.TheVariants.{Unexpected, BadAuth, BadSignature}
use Rattle.m2_handshake.specs.declared.stage.Awaited.{Awaited}
use Rattle.m2_handshake.specs.declared.stage.Awaited.TheVariants.{Hello, Request, Done, Signature}
use Rattle.m2_handshake.specs.declared.stage.HalfSide.{HalfSide}
use Rattle.m2_handshake.specs.declared.stage.HalfSide.TheVariants.{Opener, Acceptor}
use Rattle.m2_handshake.specs.declared.texts.TheConstants.{NONE, CRC}
use Rattle.m2_handshake.specs.Reading.{payload_in}
use Rattle.m2_handshake.specs.Texts.{frame_text, request, done, signature, bad_method}

-- ---- words of the table

-- the tag that is waited for
abbrev pub awaited_tag : Awaited → Tag
awaited_tag Hello = tag.Hello
awaited_tag Request = tag.AuthRequest
awaited_tag Done = tag.AuthDone
awaited_tag Signature = tag.AuthSignature

-- the method is none, and crc is among the modes
abbrev pub is_served : AuthRequest → Bool
is_served r = (r.method == NONE) && list_any (λ m. m == CRC) r.modes.items

-- 32 zero bytes
abbrev pub is_unsigned : List ℕ → Bool
is_unsigned bytes = (length bytes == SIGNATURE_BYTES) && list_all (λ b. b == 0) bytes

-- what a frame brings: the half writes this text, or none, and waits for that frame; both sides have signed; a fault
pub data Reaction : Type 0 where
  says : Awaited → List ℕ → Reaction
  listens : Awaited → Reaction
  signed : Reaction
  refuses : HalfFault → Reaction

-- ---- the table: what AUTH_REQUEST carries; the side; what it waits for; what is read; what is written, and what is
-- waited for then

abbrev pub after : AuthPayload → HalfSide → Awaited → Control → Reaction
after auth Opener Hello (control.Hello _) = says Done (frame_text (request auth))
after _ Acceptor Hello (control.Hello _) = listens Request
after _ _ Request (control.AuthRequest r) =
    if is_served r then says Signature (frame_text done ++ frame_text signature)
    else says Request (frame_text (bad_method r.method))
after _ _ Done (control.AuthDone d) = if d.mode == CRC then says Signature (frame_text signature) else refuses BadAuth
after _ _ Signature (control.AuthSignature s) = if is_unsigned s.signature.bytes then signed else refuses BadSignature
after _ _ _ c = refuses (Unexpected (tag_number (tag_of c)))

-- another tag than the one that is waited for; AUTH_BAD_METHOD is the acceptor's refusal
abbrev pub unawaited : Awaited → ℕ → HalfFault
unawaited Done t = if t == tag_number tag.AuthBadMethod then BadAuth else Unexpected t
unawaited _ t = Unexpected t

-- ---- a whole frame: its tag is looked at, then its payload is read

abbrev pub after_payload : AuthPayload → HalfSide → Awaited → Result Control HalfFault → Reaction
after_payload auth side awaited (Ok c) = after auth side awaited c
after_payload auth side awaited (Err f) = refuses f

abbrev pub after_frame : AuthPayload → HalfSide → Awaited → Parts → Reaction
after_frame auth side awaited f =
    if f.tag == tag_number (awaited_tag awaited) then after_payload auth side awaited (payload_in (awaited_tag awaited) f.first)
    else refuses (unawaited awaited f.tag)
