-- What the front of a stream is: the text of a frame or of an aborted frame, the start of one, or bad with
-- its first fault. A part of a text is judged when it is whole. Ceph's msgr2 documentation, frame format of
-- msgr2.1 in crc mode.
use Rattle.std.specs.Prelude.{◌==◌, ℕ, ◌+◌, ◌*◌, ◌-◌, ◌%◌, Bool, List, length, take, drop, slice_index, nat_lt, ◌||◌, ◌&&◌, not, if◌then◌else◌, Result, Ok, Err, Option, Some, None}
use Rattle.m2_frame.specs.declared.fault.FrameFault.{FrameFault}
use Rattle.m2_frame.specs.declared.fault.FrameFault.TheVariants.{BadSegmentCrc, BadLate}
use Rattle.m2_frame.specs.declared.epilogue.Late.{Late}
use Rattle.m2_frame.specs.declared.epilogue.Late.TheVariants.{Complete, Aborted}
use Rattle.m2_frame.specs.declared.encoding.TheConstants.{ABORTED, COMPLETE, CRC_BYTES, EPILOGUE_BYTES}
use Rattle.m2_frame.specs.declared.preamble.Preamble.{Preamble}
use Rattle.m2_frame.specs.declared.preamble.TheConstants.{PREAMBLE_BYTES}
use Rattle.m2_frame.specs.Frame.{Parts, message_tag}
use Rattle.m2_frame.specs.Preamble.{number_at, read_preamble}
use Rattle.m2_frame.specs.Text.{segment_crc}

-- what one text stands for
pub data Item : Type 0 where
  whole : Parts → Item
  dropped : ℕ → Item

-- what a stream's front is: too short to say, bad, or a text of so many bytes
pub data Front : Type 0 where
  start : Front
  bad : FrameFault → Front
  text : Item → ℕ → Front

-- ---- the parts of a text: the preamble, the first segment with its checksum, and what follows

abbrev pub first_len : Preamble → ℕ
first_len p = if p.first == 0 then 0 else p.first + CRC_BYTES

abbrev pub later_len : Preamble → ℕ
later_len p = if nat_lt 1 p.count then p.second + p.third + p.fourth + EPILOGUE_BYTES else 0

abbrev pub text_len : Preamble → ℕ
text_len p = PREAMBLE_BYTES + first_len p + later_len p

-- an empty first segment has no checksum
abbrev pub first_is_right : Preamble → List ℕ → Bool
first_is_right p first = (p.first == 0) || (number_at p.first first == segment_crc (take p.first first))

abbrev pub second_in : Preamble → List ℕ → List ℕ
second_in p later = take p.second later

abbrev pub third_in : Preamble → List ℕ → List ℕ
third_in p later = take p.third (drop p.second later)

abbrev pub fourth_in : Preamble → List ℕ → List ℕ
fourth_in p later = take p.fourth (drop (p.second + p.third) later)

abbrev pub epilogue_in : Preamble → List ℕ → List ℕ
epilogue_in p later = drop (p.second + p.third + p.fourth) later

-- a counted segment whose checksum differs from the one at its place of the epilogue
abbrev pub is_wrong : ℕ → ℕ → List ℕ → List ℕ → Bool
is_wrong place count epilogue segment = nat_lt place count && not (number_at (4 * place - 3) epilogue == segment_crc segment)

-- the low four bits of the late status
abbrev pub judge_late : ℕ → Result Late FrameFault
judge_late low = if low == COMPLETE then Ok Complete else if low == ABORTED then Ok Aborted else Err BadLate

-- the checksums in the order of their segments, and then the late status
unfoldable pub judge_epilogue : Preamble → List ℕ → Result Late FrameFault
judge_epilogue p later =
    let epilogue = epilogue_in p later in
    if is_wrong 1 p.count epilogue (second_in p later) then Err (BadSegmentCrc 1)
    else if is_wrong 2 p.count epilogue (third_in p later) then Err (BadSegmentCrc 2)
    else if is_wrong 3 p.count epilogue (fourth_in p later) then Err (BadSegmentCrc 3)
    else judge_late (slice_index epilogue 0 % 16)

-- a frame of one segment has no epilogue and is complete
abbrev pub judge_rest : Preamble → List ℕ → Result Late FrameFault
judge_rest p later = if nat_lt 1 p.count then judge_epilogue p later else Ok Complete

abbrev pub frame_in : Preamble → List ℕ → List ℕ → Parts
frame_in p first later = record {
  tag = p.tag;
  first = take p.first first;
  second = second_in p later;
  third = third_in p later;
  fourth = fourth_in p later;
}

abbrev pub front_of : Preamble → List ℕ → List ℕ → Result Late FrameFault → Front
front_of p first later (Ok Complete) = text (whole (frame_in p first later)) (text_len p)
front_of p first later (Ok Aborted) = text (dropped p.tag) (text_len p)
front_of p first later (Err f) = bad f

-- ---- the judgement, part by part

unfoldable pub judge_later : Preamble → List ℕ → List ℕ → Front
judge_later p first after =
    if nat_lt (length after) (later_len p) then start
    else front_of p first (take (later_len p) after) (judge_rest p (take (later_len p) after))

unfoldable pub judge_first : Preamble → List ℕ → Front
judge_first p body =
    if nat_lt (length body) (first_len p) then start
    else if first_is_right p (take (first_len p) body) then judge_later p (take (first_len p) body) (drop (first_len p) body)
    else bad (BadSegmentCrc 0)

abbrev pub judge_body : Result Preamble FrameFault → List ℕ → Front
judge_body (Ok p) body = judge_first p body
judge_body (Err f) body = bad f

unfoldable pub judge : List ℕ → Front
judge rest = if nat_lt (length rest) PREAMBLE_BYTES then start else judge_body (read_preamble (take PREAMBLE_BYTES rest)) (drop PREAMBLE_BYTES rest)

-- ---- what a preamble asks for

-- how many bytes of front, middle and data a preamble names
abbrev pub asked_by : Preamble → ℕ
asked_by p = p.second + p.third + p.fourth

-- how many a MESSAGE asks for
abbrev pub size_in : Preamble → Option ℕ
size_in p = if p.tag == message_tag then Some (asked_by p) else None

-- the same, where it isn't granted
abbrev pub owed_by : Preamble → Bool → Option ℕ
owed_by p granted = if granted then None else size_in p

abbrev pub size_asked : Result Preamble FrameFault → Option ℕ
size_asked (Ok p) = size_in p
size_asked (Err f) = None

-- what a whole preamble at the front asks for
unfoldable pub size_of : List ℕ → Option ℕ
size_of rest = if nat_lt (length rest) PREAMBLE_BYTES then None else size_asked (read_preamble (take PREAMBLE_BYTES rest))

-- the same, where it isn't granted
abbrev pub owed_at : List ℕ → Bool → Option ℕ
owed_at rest granted = if granted then None else size_of rest
