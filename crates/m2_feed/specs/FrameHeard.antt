-- What a whole frame at the front of a feed says to a side, for each phase and each frame. Which tags may come is Ceph's
-- ProtocolV2 with this project's profile (docs/PROTOCOL.md); the causes and their order are this project's own.
use Rattle.std.specs.Prelude.{ℕ, ◌+◌, ◌==◌, Bool, true, false, nat_lt, nat_le, if◌then◌else◌, length, List, Result, Ok, Err, Option, Some, None}
use Rattle.m2_addr.specs.declared.addr.Addr.{Addr}
use Rattle.m2_addr.specs.declared.fault.AddrFault.{AddrFault}
use Rattle.m2_addr.specs.Vector.{main_of}
use Rattle.m2_control.specs.declared.control.Control.{Control}
use Rattle.m2_control.specs.declared.control.Control.TheVariants as control
use Rattle.m2_control.specs.declared.fault.ControlFault.{ControlFault}
use Rattle.m2_control.specs.declared.server_ident.ServerIdent.{ServerIdent}
use Rattle.m2_control.specs.Control.{payload_of, tag_of}
use Rattle.m2_control.specs.ServerFacts.{facts_of}
use Rattle.m2_frame.specs.Frame.{Parts}
use Rattle.m2_frame.specs.Reading.{Item, whole, dropped}
use Rattle.m2_handshake.specs.declared.fault.HalfFault.{HalfFault}
use Rattle.m2_handshake.specs.Ident.{server_check}
use Rattle.m2_message.specs.declared.fault.MessageFault.TheVariants.{BadHeader}
use Rattle.m2_message.specs.declared.header_text.TheConstants.{HEADER_BYTES}
use Rattle.m2_message.specs.HeaderText.{header_in}
use Rattle.m2_session.specs.declared.session.Phase.{Phase}
use Rattle.m2_session.specs.declared.session.Phase.TheVariants.{IdentSent, ReconnectSent, Ready}
use Rattle.m2_session.specs.Phases as phase
use Rattle.m2_frame.specs.declared.tag.Tag.{Tag}
use Rattle.m2_frame.specs.declared.tag.Tag.TheVariants as tag
use Rattle.m2_frame.specs.Tags.{tag_in, tag_number}
use Rattle.m2_feed.specs.declared.wire_fault.WireFault.{WireFault}
use Rattle.m2_feed.specs.declared.wire_fault.WireFault.TheVariants as fault
use Rattle.m2_feed.specs.declared.frame_heard.FrameHeard.{FrameHeard}
use Rattle.m2_feed.specs.declared.frame_heard.FrameHeard.TheVariants.{Nothing, Stamp, Acknowledges, Brings, Resets, Fault}
use Rattle.m2_feed.specs.declared.hearer.Hearer.{Hearer}

-- ---- which tags may come in a phase

abbrev pub may_come : Tag → Phase → Bool
may_come tag.ServerIdent IdentSent = true
may_come tag.IdentMissingFeatures IdentSent = true
may_come tag.Wait IdentSent = true
may_come tag.SessionReset ReconnectSent = true
may_come tag.SessionRetry ReconnectSent = true
may_come tag.SessionRetryGlobal ReconnectSent = true
may_come tag.SessionReconnectOk ReconnectSent = true
may_come tag.Wait ReconnectSent = true
may_come tag.Message Ready = true
may_come tag.Keepalive Ready = true
may_come tag.KeepaliveAck Ready = true
may_come tag.Ack Ready = true
may_come _ _ = false

-- ---- numbers

-- an acknowledgement up to a number, of a frame that says this besides
abbrev pub heard_ack : Hearer → (number : ℕ) → FrameHeard → FrameHeard
heard_ack h number besides =
    if nat_lt h.written number then Fault (fault.BadAck h.written number)
    else if nat_lt h.acknowledged number then Acknowledges number
    else besides

-- a message by the two numbers of its header: its own is looked at before what it acknowledges, which is counted before it
-- is accepted
abbrev pub heard_numbers : Hearer → (seq ack_seq : ℕ) → FrameHeard
heard_numbers h seq ack_seq =
    if nat_lt (h.last + 1) seq then Fault (fault.Gap h.last seq)
    else heard_ack h ack_seq (if nat_le seq h.last then Nothing else Brings seq)

abbrev pub heard_message : Hearer → (first : List ℕ) → FrameHeard
heard_message h first =
    if length first == HEADER_BYTES then heard_numbers h (header_in first).seq (header_in first).ack_seq
    else Fault (fault.Message BadHeader)

-- ---- answers to an ask, of which those that are lawful and agreed were taken when they were read

abbrev pub checked_cause : Result (Unit {0}) HalfFault → WireFault
checked_cause (Err e) = fault.Half e
checked_cause (Ok _) = fault.Unexpected (tag_number tag.ServerIdent)

-- an ident whose main address this is
abbrev pub ident_cause : Hearer → ServerIdent → Result Addr AddrFault → WireFault
ident_cause h i (Ok main) = checked_cause (server_check (facts_of i main) h.peer h.policy)
ident_cause h i (Err _) = fault.Unexpected (tag_number tag.ServerIdent)

abbrev pub answer_cause : Hearer → Control → WireFault
answer_cause h (control.ServerIdent i) = ident_cause h i (main_of i.addrs)
answer_cause h (control.IdentMissingFeatures p) = fault.MissingFeatures p.bits
answer_cause h (control.Wait p) = fault.Waited
answer_cause h c = fault.Unexpected (tag_number (tag_of c))

-- ---- control frames that may come

abbrev pub heard_in_ready : Hearer → Control → FrameHeard
heard_in_ready h (control.Ack p) = heard_ack h p.seen Nothing
heard_in_ready h (control.Keepalive k) = Stamp k
heard_in_ready h (control.KeepaliveAck k) = Nothing
heard_in_ready h c = Fault (fault.Unexpected (tag_number (tag_of c)))

-- a reset has an entry of its own, so that it isn't taken when it is read
abbrev pub heard_as_answer : Hearer → Control → FrameHeard
heard_as_answer h (control.SessionReset p) = Resets p.full
heard_as_answer h c = Fault (answer_cause h c)

abbrev pub heard_control : Hearer → Control → FrameHeard
heard_control h c = if phase.is h.phase Ready then heard_in_ready h c else heard_as_answer h c

abbrev pub heard_payload : Hearer → Result Control ControlFault → FrameHeard
heard_payload h (Ok c) = heard_control h c
heard_payload h (Err e) = Fault (fault.Control e)

-- ---- each text

-- a frame of a tag that may come
abbrev pub heard_of_tag : Hearer → Tag → (first : List ℕ) → FrameHeard
heard_of_tag h tag.Message first = heard_message h first
heard_of_tag h t first = heard_payload h (payload_of t first)

abbrev pub heard_if : Hearer → Option Tag → Parts → FrameHeard
heard_if h (Some t) f = if may_come t h.phase then heard_of_tag h t f.first else Fault (fault.Unexpected f.tag)
heard_if h None f = Fault (fault.Unexpected f.tag)

abbrev pub heard_frame : Hearer → Parts → FrameHeard
heard_frame h f = heard_if h (tag_in f.tag) f

-- a message that the peer gave up is passed over in Ready
abbrev pub heard_aborted : Hearer → (tag : ℕ) → FrameHeard
heard_aborted h tag = if phase.is h.phase Ready then Nothing else Fault (fault.Unexpected tag)

abbrev pub heard_of : Hearer → Item → FrameHeard
heard_of h (whole f) = heard_frame h f
heard_of h (dropped tag) = heard_aborted h tag
