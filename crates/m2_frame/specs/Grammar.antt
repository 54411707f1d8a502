-- The text of a frame and of an aborted frame, as the format's tables give it and apart from what writes
-- and what judges it: Ceph's msgr2 documentation, frame format of msgr2.1 in crc mode; the bounds in `Fits`
-- are this project's profile.
-- Of what isn't named here any bytes will do: alignments, the reserved byte, the flags but the lowest,
-- descriptors and places of the epilogue past the count, and the high four bits of the late status.
use Rattle.std.specs.Prelude.{◌≡◌, ℕ, ◌<◌, ◌%◌, List, [], ◌∷◌, ◌++◌, length, take, slice_index}
use Rattle.std.specs.List.{All}
use Rattle.m2_crc.specs.Crc.{crc_of}
use Rattle.m2_frame.specs.declared.encoding.TheConstants.{ABORTED, COMPLETE, CRC_BYTES, EPILOGUE_BYTES}
use Rattle.m2_frame.specs.declared.preamble.Preamble.{Preamble}
use Rattle.m2_frame.specs.declared.preamble.TheConstants.{COVERED_BYTES, PREAMBLE_BYTES}
use Rattle.m2_frame.specs.Frame.{Parts, count_of, Fits}
use Rattle.m2_frame.specs.Preamble.{number_at, preamble_of}
use Rattle.m2_frame.specs.Reading.{Item, whole, dropped}
use Rattle.m2_frame.specs.Text.{segment_crc}

-- the preamble, by its places: tag, count, the lengths of the counted segments, flags, and the checksum of
-- all before it
pub record IsPreambleText (p : Preamble) (text : List ℕ) : Type 0 where
  pub long : length text ≡ PREAMBLE_BYTES
  pub tag : slice_index text 0 ≡ p.tag
  pub count : slice_index text 1 ≡ p.count
  pub first : number_at 2 text ≡ p.first
  pub second : 1 < p.count → number_at 8 text ≡ p.second
  pub third : 2 < p.count → number_at 14 text ≡ p.third
  pub fourth : 3 < p.count → number_at 20 text ≡ p.fourth
  pub uncompressed : slice_index text 26 % 2 ≡ 0
  pub crc : number_at COVERED_BYTES text ≡ crc_of 0 (take COVERED_BYTES text)

-- the checksum of a segment
pub record IsChecksumText (segment : List ℕ) (text : List ℕ) : Type 0 where
  pub long : length text ≡ CRC_BYTES
  pub crc : number_at 0 text ≡ segment_crc segment

-- the first segment, and its checksum where it isn't empty
abbrev pub IsFirstText : List ℕ → List ℕ → Type 0
IsFirstText [] text = text ≡ []
IsFirstText (b ∷ bs) text = (crc : List ℕ) × (text ≡ (b ∷ bs) ++ crc) × IsChecksumText (b ∷ bs) crc

-- the epilogue, by its places: the late status, and the checksums of the other counted segments
pub record IsEpilogueText (low : ℕ) (f : Parts) (text : List ℕ) : Type 0 where
  pub long : length text ≡ EPILOGUE_BYTES
  pub late : slice_index text 0 % 16 ≡ low
  pub second : 1 < count_of f → number_at 1 text ≡ segment_crc f.second
  pub third : 2 < count_of f → number_at 5 text ≡ segment_crc f.third
  pub fourth : 3 < count_of f → number_at 9 text ≡ segment_crc f.fourth

-- what follows the first segment: nothing, or the other segments and the epilogue
pub record IsLaterText (low : ℕ) (f : Parts) (text : List ℕ) : Type 0 where
  pub alone : count_of f ≡ 1 → text ≡ []
  pub several : 1 < count_of f → (epilogue : List ℕ) × (text ≡ f.second ++ f.third ++ f.fourth ++ epilogue) × IsEpilogueText low f epilogue

-- the parts of a text, one after the other; `low` is the low four bits of the late status
pub record IsText (low : ℕ) (f : Parts) (text : List ℕ) : Type 0 where
  pub fits : Fits f
  pub preamble : List ℕ
  pub first : List ℕ
  pub later : List ℕ
  pub cut : text ≡ preamble ++ first ++ later
  pub is_preamble : IsPreambleText (preamble_of f) preamble
  pub is_first : IsFirstText f.first first
  pub is_later : IsLaterText low f later

-- the text of a frame
abbrev pub IsFrameText : Parts → List ℕ → Type 0
IsFrameText f text = IsText COMPLETE f text

-- the text of a frame of several segments with this tag that its sender gave up
abbrev pub IsAbortText : ℕ → List ℕ → Type 0
IsAbortText tag text = (f : Parts) × (f.tag ≡ tag) × (1 < count_of f) × IsText ABORTED f text

abbrev pub IsItemText : Item → List ℕ → Type 0
IsItemText (whole f) text = IsFrameText f text
IsItemText (dropped tag) text = IsAbortText tag text

-- a stream is the texts of these items, one after the other, and then the rest
abbrev pub IsStreamText : List ℕ → List Item → List ℕ → Type 0
IsStreamText stream [] rest = stream ≡ rest
IsStreamText stream (item ∷ items) rest = (bytes : List ℕ) × (more : List ℕ) × (stream ≡ bytes ++ more) × IsItemText item bytes × IsStreamText more items rest

-- every number of a frame's segments is a byte
pub record AreBytes (f : Parts) : Type 0 where
  pub first : All (λ b. b < 256) f.first
  pub second : All (λ b. b < 256) f.second
  pub third : All (λ b. b < 256) f.third
  pub fourth : All (λ b. b < 256) f.fourth
