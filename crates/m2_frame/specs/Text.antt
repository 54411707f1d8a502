-- The one text of a frame, as it is written: Ceph's msgr2 documentation, frame format of msgr2.1 in crc
-- mode. Trailing empty segments aren't written.
use Rattle.std.specs.Prelude.{ℕ, List, [], ◌∷◌, ◌++◌, nat_lt, if◌then◌else◌}
use Rattle.std.specs.Int.{w32, to_le_bytes}
use Rattle.m2_crc.specs.Crc.{crc_of}
use Rattle.m2_frame.specs.declared.encoding.TheConstants.{COMPLETE, SEGMENT_SEED}
use Rattle.m2_frame.specs.Frame.{Parts, count_of}
use Rattle.m2_frame.specs.Preamble.{preamble_of, preamble_text}

-- the checksum of a segment, begun at all ones
unfoldable pub segment_crc : List ℕ → ℕ
segment_crc segment = crc_of SEGMENT_SEED segment

abbrev pub crc_field : List ℕ → List ℕ
crc_field segment = to_le_bytes w32 (segment_crc segment)

-- the first segment, and its checksum where it isn't empty
abbrev pub first_text : List ℕ → List ℕ
first_text [] = []
first_text (b ∷ bs) = (b ∷ bs) ++ crc_field (b ∷ bs)

-- in the epilogue a counted segment has its checksum, and a place past the count 0
abbrev pub epilogue_field : ℕ → ℕ → List ℕ → List ℕ
epilogue_field place count segment = if nat_lt place count then crc_field segment else to_le_bytes w32 0

abbrev pub epilogue : Parts → List ℕ
epilogue f =
    let count = count_of f in
    COMPLETE ∷ (epilogue_field 1 count f.second ++ epilogue_field 2 count f.third ++ epilogue_field 3 count f.fourth)

-- where several segments are counted, the others and the epilogue
abbrev pub later_text : Parts → List ℕ
later_text f = if nat_lt 1 (count_of f) then f.second ++ f.third ++ f.fourth ++ epilogue f else []

unfoldable pub text_of : Parts → List ℕ
text_of f = preamble_text (preamble_of f) ++ first_text f.first ++ later_text f
