-- What reading gives: a payload where memory sufficed, and what stands at the front of the unread bytes.
use Rattle.std.specs.Prelude.{◌≡◌, ◌≢◌, ◌≤◌, ℕ, List, length, drop, Option, Some, None, Result, Ok, Err}
use Rattle.m2_control.specs.declared.control.Control.{Control}
use Rattle.m2_control.specs.declared.fault.ControlFault.{ControlFault}
use Rattle.m2_frame.specs.declared.tag.Tag.{Tag}
use Rattle.m2_frame.specs.declared.tag.Tag.TheVariants.{Message}
use Rattle.m2_frame.specs.declared.tag.TheConstants.{FIRST_TAG, LAST_TAG}
use Rattle.m2_control.specs.Control.{bare, payload_of}
use Rattle.m2_frame.specs.Tags.{tag_number}
use Rattle.m2_frame.specs.declared.frame.Frame.{Frame}
use Rattle.m2_frame.specs.Frame.{Parts, message_tag, parts}
use Rattle.m2_frame.specs.Position.{Position}
use Rattle.m2_frame.specs.Reading.{whole, dropped, Front, start, bad, text, judge, size_of}
use Rattle.m2_handshake.specs.declared.fault.HalfFault.{HalfFault}
use Rattle.m2_handshake.specs.declared.fault.HalfFault.TheVariants as fault
use Rattle.m2_handshake.specs.declared.halt.Halt.{Halt}
use Rattle.m2_handshake.specs.declared.halt.Halt.TheVariants.{NotYet, Fault, NoMemory}

-- the tag of a frame that has one payload
pub record IsControlTag (tag : Tag) : Type 0 where
  pub from : FIRST_TAG ≤ tag_number tag
  pub to : tag_number tag ≤ LAST_TAG
  pub control : tag_number tag ≢ tag_number Message

-- ---- payloads

-- a payload's fault is one of the half
abbrev pub of_payload : Result Control ControlFault → Result Control HalfFault
of_payload (Ok c) = Ok c
of_payload (Err e) = Err (fault.Control e)

-- the payload of a frame with this tag
abbrev pub payload_in : Tag → List ℕ → Result Control HalfFault
payload_in t bytes = of_payload (payload_of t bytes)

-- it was read without where its parts lie in memory, or memory ran out
abbrev pub GivesControl : Result Control Halt → Result Control HalfFault → Type 0
GivesControl (Ok c) read = read ≡ Ok (bare c)
GivesControl (Err (Fault f)) read = read ≡ Err f
GivesControl (Err NoMemory) read = Unit {0}
GivesControl (Err NotYet) read = ⊥

-- ---- the front of the unread bytes

-- what a half finds there: the start of a frame, or nothing; a fault; a whole frame, of so many bytes
pub data Found : Type 0 where
  begun : Found
  refused : HalfFault → Found
  framed : Parts → ℕ → Found

-- Before there is a session no MESSAGE may come: its preamble, which asks for a size, shows it, whatever follows. What its
-- sender gave up is a MESSAGE too.
abbrev pub found_by : Option ℕ → Front → Found
found_by (Some size) front = refused (fault.Unexpected message_tag)
found_by None start = begun
found_by None (bad f) = refused (fault.Frame f)
found_by None (text (dropped tag) n) = refused (fault.Unexpected tag)
found_by None (text (whole f) n) = framed f n

abbrev pub found_in : List ℕ → Found
found_in rest = found_by (size_of rest) (judge rest)

-- a frame is taken; the start of one; a fault; want of memory, where a whole frame is there
abbrev pub Takes : Result Frame Halt → Position → Position → Type 0
Takes (Ok f) old new = (n : ℕ) × (found_in old.rest ≡ framed (parts f) n) × (32 ≤ n) × (n ≤ length old.rest) × (new.rest ≡ drop n old.rest)
Takes (Err NotYet) old new = (found_in old.rest ≡ begun) × (new.rest ≡ old.rest)
Takes (Err (Fault f)) old new = (found_in old.rest ≡ refused f) × (new.rest ≡ old.rest)
Takes (Err NoMemory) old new = (f : Parts) × (n : ℕ) × (found_in old.rest ≡ framed f n) × (new.rest ≡ old.rest)
