-- What a frame says to a side that has asked: which frames answer which ask, and what each answer says. The answers are
-- those of Ceph's ProtocolV2; which faults there are, and which comes first, is this project's profile.
use Rattle.std.specs.Prelude.{◌≤◌, Bool, true, false, Option, Some, None, Result, Ok, Err}
use Rattle.m2_addr.specs.declared.addr.Addr.{Addr}
use Rattle.m2_addr.specs.declared.fault.AddrFault.{AddrFault}
use Rattle.m2_addr.specs.Vector.{main_of}
use Rattle.m2_control.specs.declared.control.Control.{Control}
use Rattle.m2_control.specs.declared.control.Control.TheVariants as control
use Rattle.m2_control.specs.declared.fault.ControlFault.{ControlFault}
use Rattle.m2_control.specs.declared.fault.ControlFault.TheVariants.{Address}
use Rattle.m2_control.specs.declared.fields.TheConstants.{GREATEST_NUMBER}
use Rattle.m2_control.specs.declared.server_ident.ServerIdent.{ServerIdent}
use Rattle.m2_control.specs.Control.{payload_of, tag_of}
use Rattle.m2_control.specs.ServerFacts.{facts_of}
use Rattle.m2_frame.specs.Frame.{Parts}
use Rattle.m2_handshake.specs.declared.fault.HalfFault.{HalfFault}
use Rattle.m2_handshake.specs.Ident.{server_check}
use Rattle.m2_policy.specs.declared.policy.Policy.{Policy}
use Rattle.m2_session.specs.declared.event.Event.{Event}
use Rattle.m2_session.specs.declared.event.Event.TheVariants as event
use Rattle.m2_session.specs.declared.session.Phase.{Phase}
use Rattle.m2_session.specs.declared.session.Phase.TheVariants.{IdentSent, ReconnectSent}
use Rattle.m2_frame.specs.declared.tag.Tag.{Tag}
use Rattle.m2_frame.specs.declared.tag.Tag.TheVariants as tag
use Rattle.m2_frame.specs.Tags.{tag_in, tag_number}
use Rattle.m2_feed.specs.declared.answer_fault.AnswerFault.TheVariants as fault
use Rattle.m2_feed.specs.declared.heard.Heard.{Heard}
use Rattle.m2_feed.specs.declared.heard.Heard.TheVariants as heard

-- ---- which frames answer

abbrev pub answers_ident : Tag → Bool
answers_ident tag.ServerIdent = true
answers_ident tag.IdentMissingFeatures = true
answers_ident tag.Wait = true
answers_ident _ = false

abbrev pub answers_reconnect : Tag → Bool
answers_reconnect tag.SessionReset = true
answers_reconnect tag.SessionRetry = true
answers_reconnect tag.SessionRetryGlobal = true
answers_reconnect tag.SessionReconnectOk = true
answers_reconnect tag.Wait = true
answers_reconnect _ = false

-- by the ask that was sent; where none was, nothing answers
abbrev pub answers : Phase → Tag → Bool
answers IdentSent t = answers_ident t
answers ReconnectSent t = answers_reconnect t
answers _ t = false

-- ---- what they say

abbrev pub checked : ServerIdent → Result (Unit {0}) HalfFault → Heard
checked i (Ok _) = heard.ServerIdent i.cookie i.global
checked i (Err e) = heard.Refused (fault.Half e)

-- an ident with this main address, of a peer that was dialled
abbrev pub of_ident : (peer : Addr) → Policy → ServerIdent → Result Addr AddrFault → Heard
of_ident peer policy i (Ok main) = checked i (server_check (facts_of i main) peer policy)
of_ident peer policy i (Err e) = heard.Refused (fault.Control (Address e))

abbrev pub of_control : (peer : Addr) → Policy → Control → Heard
of_control peer policy (control.ServerIdent i) = of_ident peer policy i (main_of i.addrs)
of_control peer policy (control.SessionReconnectOk p) = heard.ReconnectOk p.seen
of_control peer policy (control.SessionRetry p) = heard.Retry p.connect
of_control peer policy (control.SessionRetryGlobal p) = heard.RetryGlobal p.global
of_control peer policy (control.Wait p) = heard.Wait
of_control peer policy (control.SessionReset p) = heard.Reset p.full
of_control peer policy (control.IdentMissingFeatures p) = heard.Refused (fault.MissingFeatures p.bits)
of_control peer policy c = heard.Refused (fault.Unexpected (tag_number (tag_of c)))

abbrev pub of_payload : (peer : Addr) → Policy → Result Control ControlFault → Heard
of_payload peer policy (Ok c) = of_control peer policy c
of_payload peer policy (Err e) = heard.Refused (fault.Control e)

-- the payload is read where the tag is one of an answer
abbrev pub of_frame : (peer : Addr) → Policy → (answer : Bool) → Tag → Parts → Heard
of_frame peer policy true t x = of_payload peer policy (payload_of t x.first)
of_frame peer policy false t x = heard.Refused (fault.Unexpected x.tag)

abbrev pub of_tag : (peer : Addr) → Policy → Phase → Option Tag → Parts → Heard
of_tag peer policy phase (Some t) x = of_frame peer policy (answers phase t) t x
of_tag peer policy phase None x = heard.Refused (fault.Unexpected x.tag)

abbrev pub heard_in : (peer : Addr) → Policy → Phase → Parts → Heard
heard_in peer policy phase x = of_tag peer policy phase (tag_in x.tag) x

-- ---- what follows

-- what the session is told where it is read
abbrev pub event_of : Heard → Option Event
event_of (heard.ServerIdent cookie global) = Some (event.GotServerIdent cookie global)
event_of (heard.ReconnectOk seen) = Some event.GotReconnectOk
event_of (heard.Retry number) = Some (event.GotRetry number)
event_of (heard.RetryGlobal number) = Some (event.GotRetryGlobal number)
event_of heard.Wait = Some event.GotWait
event_of (heard.Reset full) = None
event_of (heard.Refused e) = None

-- the numbers that are told are such as can be drawn
abbrev pub IsBounded : Heard → Type 0
IsBounded (heard.ReconnectOk seen) = seen ≤ GREATEST_NUMBER
IsBounded (heard.Retry number) = number ≤ GREATEST_NUMBER
IsBounded (heard.RetryGlobal number) = number ≤ GREATEST_NUMBER
IsBounded _ = Unit {0}
