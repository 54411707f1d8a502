-- The 32 bytes that a frame begins with: what they say, what is wrong with them, and the one text that
-- is written. Ceph's msgr2 documentation, frame format; the refusals of compressed frames, of several
-- segments in a control frame and of long segments are this project's profile.
use Rattle.std.specs.Prelude.{◌≡◌, ◌==◌, ℕ, ◌%◌, Bool, List, [], ◌∷◌, ◌++◌, length, take, drop, slice_index, nat_lt, ◌||◌, ◌&&◌, if◌then◌else◌, Result, Ok, Err}
use Rattle.std.specs.Int.{w16, w32, to_le_bytes, from_le_bytes}
use Rattle.m2_crc.specs.Crc.{crc_of}
use Rattle.m2_frame.specs.declared.fault.FrameFault.{FrameFault}
use Rattle.m2_frame.specs.declared.fault.FrameFault.TheVariants.{BadPreambleCrc, BadCount, LastEmpty, Compressed, BadTag, BadSegments, TooLong}
use Rattle.m2_frame.specs.declared.tag.TheConstants.{FIRST_TAG, LAST_TAG}
use Rattle.m2_frame.specs.declared.frame.TheConstants.{MOST_SEGMENTS}
use Rattle.m2_frame.specs.declared.preamble.Preamble.{Preamble}
use Rattle.m2_frame.specs.declared.preamble.TheConstants.{COVERED_BYTES, DATA_ALIGNMENT, DATA_SEGMENT, PREAMBLE_BYTES, SEGMENT_ALIGNMENT}
use Rattle.m2_frame.specs.Frame.{Parts, count_of, most_segments, segment_limit}

-- four bytes as a number, the lowest first
abbrev pub number_at : ℕ → List ℕ → ℕ
number_at at text = from_le_bytes w32 (take 4 (drop at text))

-- the length in a descriptor that is counted; one past the count says nothing
abbrev pub counted_length : ℕ → ℕ → ℕ → List ℕ → ℕ
counted_length segment count at text = if nat_lt segment count then number_at at text else 0

-- what the bytes say; alignments, the reserved byte and the other flags say nothing
abbrev pub preamble_in : List ℕ → Preamble
preamble_in text =
    let count = slice_index text 1 in
    record {
      tag = slice_index text 0;
      count = count;
      first = number_at 2 text;
      second = counted_length 1 count 8 text;
      third = counted_length 2 count 14 text;
      fourth = counted_length 3 count 20 text;
    }

abbrev pub last_length : Preamble → ℕ
last_length p = if p.count == 1 then p.first else if p.count == 2 then p.second else if p.count == 3 then p.third else p.fourth

abbrev pub is_too_long : Preamble → Bool
is_too_long p =
    let most = segment_limit p.tag in
    nat_lt most p.first || nat_lt most p.second || nat_lt most p.third || nat_lt most p.fourth

-- the refusals that speak of what the bytes say, in their order; `flags` is the byte of that name
abbrev pub judge_fields : ℕ → Preamble → Result Preamble FrameFault
judge_fields flags p =
    if p.count == 0 || nat_lt MOST_SEGMENTS p.count then Err BadCount
    else if nat_lt 1 p.count && (last_length p == 0) then Err LastEmpty
    else if flags % 2 == 1 then Err Compressed
    else if nat_lt p.tag FIRST_TAG || nat_lt LAST_TAG p.tag then Err BadTag
    else if nat_lt (most_segments p.tag) p.count then Err BadSegments
    else if is_too_long p then Err TooLong
    else Ok p

-- the preamble that the bytes are, or the first refusal
unfoldable pub read_preamble : List ℕ → Result Preamble FrameFault
read_preamble text =
    if crc_of 0 (take COVERED_BYTES text) == number_at COVERED_BYTES text then judge_fields (slice_index text 26) (preamble_in text) else Err BadPreambleCrc

-- the bytes are this preamble: their checksum is right and no refusal holds
abbrev pub IsPreamble : List ℕ → Preamble → Type 0
IsPreamble text p = (length text ≡ PREAMBLE_BYTES) × (read_preamble text ≡ Ok p)

-- ---- as it is written

-- the preamble of a frame
abbrev pub preamble_of : Parts → Preamble
preamble_of f = record { tag = f.tag; count = count_of f; first = length f.first; second = length f.second; third = length f.third; fourth = length f.fourth }

-- the alignment of a counted segment: pages for the data of a MESSAGE, else 8
abbrev pub alignment : Preamble → ℕ → ℕ
alignment p segment = if nat_lt segment p.count then (if nat_lt segment DATA_SEGMENT then SEGMENT_ALIGNMENT else DATA_ALIGNMENT) else 0

abbrev pub descriptor : ℕ → ℕ → List ℕ
descriptor len aligned = to_le_bytes w32 len ++ to_le_bytes w16 aligned

-- all but the checksum; flags and the reserved byte are 0
abbrev pub preamble_body : Preamble → List ℕ
preamble_body p =
    p.tag ∷ p.count ∷ (descriptor p.first (alignment p 0) ++ descriptor p.second (alignment p 1) ++ descriptor p.third (alignment p 2) ++ descriptor p.fourth (alignment p 3) ++ 0 ∷ 0 ∷ [])

unfoldable pub preamble_text : Preamble → List ℕ
preamble_text p = preamble_body p ++ to_le_bytes w32 (crc_of 0 (preamble_body p))
