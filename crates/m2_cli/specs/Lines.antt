-- The lines of a listing: for each frame its tag's name and the lengths of its counted segments, for an
-- aborted frame its tag's name and the word `aborted`. The names are those of Ceph's msgr2 documentation, the
-- form of a line is this project's own.
use Rattle.std.specs.Prelude.{ℕ, List, [], ◌∷◌, ◌++◌, length, nat_lt, if◌then◌else◌, codes}
use Rattle.std.specs.Fmt.{decimal}
use Rattle.m2_frame.specs.Frame.{Parts, count_of}
use Rattle.m2_frame.specs.Reading.{Item, whole, dropped}
use Rattle.m2_frame.specs.Tags.{name_in}

-- a space and a number
abbrev pub number_word : ℕ → List ℕ
number_word n = 0x20 ∷ decimal n

-- a segment's length, where so many are counted
abbrev pub length_word : ℕ → ℕ → List ℕ → List ℕ
length_word segment count bytes = if nat_lt segment count then number_word (length bytes) else []

unfoldable pub frame_words : Parts → List ℕ
frame_words f =
    let count = count_of f in
    name_in f.tag ++ number_word (length f.first) ++ length_word 1 count f.second ++ length_word 2 count f.third ++ length_word 3 count f.fourth

unfoldable pub line_of : Item → List ℕ
line_of (whole f) = frame_words f ++ 0x0A ∷ []
line_of (dropped tag) = name_in tag ++ codes " aborted" ++ 0x0A ∷ []
