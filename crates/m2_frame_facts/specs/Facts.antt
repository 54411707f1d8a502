-- What an item of a stream says, by the definitions of messages (m2_message) and of control payloads (m2_control).
use Rattle.std.specs.Prelude.{ℕ, ◌==◌, List, length, if◌then◌else◌, Option, Some, None, Result, Ok, Err}
use Rattle.m2_frame.specs.declared.tag.Tag.{Tag}
use Rattle.m2_frame.specs.Frame.{Parts, message_tag}
use Rattle.m2_frame.specs.Reading.{Item, whole, dropped}
use Rattle.m2_frame.specs.Tags.{tag_in}
use Rattle.m2_control.specs.declared.control.Control.{Control}
use Rattle.m2_control.specs.declared.fault.ControlFault.{ControlFault}
use Rattle.m2_control.specs.declared.fault.ControlFault.TheVariants.{NotNegotiated}
use Rattle.m2_control.specs.Control.{bare, payload_of}
use Rattle.m2_message.specs.declared.header_text.TheConstants.{HEADER_BYTES}
use Rattle.m2_message.specs.HeaderText.{header_in}
use Rattle.m2_frame_facts.specs.declared.facts.Facts.{Facts}
use Rattle.m2_frame_facts.specs.declared.facts.Facts.TheVariants as facts

-- facts without where their parts lie in memory
abbrev pub bare_facts : Facts → Facts
bare_facts (facts.Message m) = facts.Message m
bare_facts facts.NoHeader = facts.NoHeader
bare_facts (facts.Control c) = facts.Control (bare c)
bare_facts (facts.NoPayload e) = facts.NoPayload e
bare_facts facts.Aborted = facts.Aborted

-- of a MESSAGE: its header, and how many bytes its front, middle and data have; or its first segment is no header
abbrev pub message_facts : Parts → Facts
message_facts f =
    if length f.first == HEADER_BYTES
    then facts.Message (record { header = header_in f.first; front = length f.second; middle = length f.third; data_bytes = length f.fourth })
    else facts.NoHeader

-- of another frame: its payload, or the first fault in it
abbrev pub read_facts : Result Control ControlFault → Facts
read_facts (Ok c) = facts.Control c
read_facts (Err e) = facts.NoPayload e

abbrev pub control_facts : Option Tag → List ℕ → Facts
control_facts (Some t) payload = read_facts (payload_of t payload)
control_facts None payload = facts.NoPayload NotNegotiated

abbrev pub frame_facts : Parts → Facts
frame_facts f = if f.tag == message_tag then message_facts f else control_facts (tag_in f.tag) f.first

-- of any item; of an aborted frame that it is one
abbrev pub facts_of : Item → Facts
facts_of (whole f) = frame_facts f
facts_of (dropped tag) = facts.Aborted
