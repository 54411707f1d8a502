-- What is wrong with the front of a stream, row by row as the format's tables list it and apart from what
-- judges it: Ceph's msgr2 documentation, frame format of msgr2.1 in crc mode; the rows of compressed frames,
-- of several segments in a control frame and of long segments, and the order of the rows after the preamble,
-- are this project's profile.
use Rattle.std.specs.Prelude.{◌≡◌, ◌≢◌, ℕ, zero, suc, ◌+◌, ◌%◌, ◌<◌, ◌≤◌, ◌⊎◌, List, length, take, slice_index}
use Rattle.m2_frame.specs.declared.tag.TheConstants.{FIRST_TAG, LAST_TAG}
use Rattle.m2_crc.specs.Crc.{crc_of}
use Rattle.m2_frame.specs.declared.encoding.TheConstants.{ABORTED, COMPLETE}
use Rattle.m2_frame.specs.declared.fault.FrameFault.{FrameFault}
use Rattle.m2_frame.specs.declared.fault.FrameFault.TheVariants.{BadPreambleCrc, BadCount, LastEmpty, Compressed, BadTag, BadSegments, TooLong, BadSegmentCrc, BadLate}
use Rattle.m2_frame.specs.declared.frame.TheConstants.{MOST_SEGMENTS}
use Rattle.m2_frame.specs.declared.preamble.Preamble.{Preamble}
use Rattle.m2_frame.specs.declared.preamble.TheConstants.{COVERED_BYTES, PREAMBLE_BYTES}
use Rattle.m2_frame.specs.Frame.{most_segments, segment_limit}
use Rattle.m2_frame.specs.Judging.{first_part, later_part}
use Rattle.m2_frame.specs.Preamble.{number_at, preamble_in, last_length}
use Rattle.m2_frame.specs.Reading.{first_len, text_len, second_in, third_in, fourth_in, epilogue_in}
use Rattle.m2_frame.specs.Text.{segment_crc}

-- the 32 bytes of the preamble, and what they say
abbrev pub preamble_part : List ℕ → List ℕ
preamble_part rest = take PREAMBLE_BYTES rest

abbrev pub said_by : List ℕ → Preamble
said_by rest = preamble_in (preamble_part rest)

-- a segment is above the bound for its frame's tag
abbrev pub HasLongSegment : Preamble → Type 0
HasLongSegment p = (segment_limit p.tag < p.first) ⊎ (segment_limit p.tag < p.second) ⊎ (segment_limit p.tag < p.third) ⊎ (segment_limit p.tag < p.fourth)

-- a counted segment's checksum differs: that of the first stands behind it, the others' in the epilogue
abbrev pub HasWrongCrc : ℕ → Preamble → List ℕ → List ℕ → Type 0
HasWrongCrc zero p first later = (0 < p.first) × (number_at p.first first ≢ segment_crc (take p.first first))
HasWrongCrc (suc zero) p first later = (1 < p.count) × (number_at 1 (epilogue_in p later) ≢ segment_crc (second_in p later))
HasWrongCrc (suc (suc zero)) p first later = (2 < p.count) × (number_at 5 (epilogue_in p later) ≢ segment_crc (third_in p later))
HasWrongCrc (suc (suc (suc zero))) p first later = (3 < p.count) × (number_at 9 (epilogue_in p later) ≢ segment_crc (fourth_in p later))
HasWrongCrc _ p first later = ⊥

-- there is an epilogue, and the low four bits of its late status say neither complete nor aborted
abbrev pub HasWrongLate : Preamble → List ℕ → Type 0
HasWrongLate p later =
    let low = slice_index (epilogue_in p later) 0 % 16 in
    (1 < p.count) × (low ≢ COMPLETE) × (low ≢ ABORTED)

-- the rows: a cause, and what is wrong with the bytes
abbrev pub IsWrong : FrameFault → List ℕ → Type 0
IsWrong BadPreambleCrc rest = crc_of 0 (take COVERED_BYTES (preamble_part rest)) ≢ number_at COVERED_BYTES (preamble_part rest)
IsWrong BadCount rest = ((said_by rest).count ≡ 0) ⊎ (MOST_SEGMENTS < (said_by rest).count)
IsWrong LastEmpty rest = (1 < (said_by rest).count) × (last_length (said_by rest) ≡ 0)
IsWrong Compressed rest = slice_index (preamble_part rest) 26 % 2 ≡ 1
IsWrong BadTag rest = ((said_by rest).tag < FIRST_TAG) ⊎ (LAST_TAG < (said_by rest).tag)
IsWrong BadSegments rest = most_segments (said_by rest).tag < (said_by rest).count
IsWrong TooLong rest = HasLongSegment (said_by rest)
IsWrong (BadSegmentCrc segment) rest = HasWrongCrc segment (said_by rest) (first_part (said_by rest) rest) (later_part (said_by rest) rest)
IsWrong BadLate rest = HasWrongLate (said_by rest) (later_part (said_by rest) rest)

-- how many bytes have to be there: a cause is one of the preamble, of the first segment or of what follows,
-- and is looked for when that part is whole
abbrev pub part_end : FrameFault → Preamble → ℕ
part_end (BadSegmentCrc zero) p = PREAMBLE_BYTES + first_len p
part_end (BadSegmentCrc (suc _)) p = text_len p
part_end BadLate p = text_len p
part_end _ p = PREAMBLE_BYTES

abbrev pub HasCause : List ℕ → FrameFault → Type 0
HasCause rest f = (part_end f (said_by rest) ≤ length rest) × IsWrong f rest

-- the order of the rows, and of the checksums that of their segments
abbrev pub row_of : FrameFault → ℕ
row_of BadPreambleCrc = 1
row_of BadCount = 2
row_of LastEmpty = 3
row_of Compressed = 4
row_of BadTag = 5
row_of BadSegments = 6
row_of TooLong = 7
row_of (BadSegmentCrc segment) = 8 + segment
row_of BadLate = 12

-- the front is bad with this cause: it has it, and none of an earlier row
pub record IsBad (f : FrameFault) (rest : List ℕ) : Type 0 where
  pub has : HasCause rest f
  pub first : (g : FrameFault) → row_of g < row_of f → HasCause rest g → ⊥
