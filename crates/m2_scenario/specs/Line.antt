-- A line of a text, without its line feed.
use Rattle.std.specs.Prelude.{ℕ, ◌-◌, ◌==◌, slice_index, nat_le, Bool, false, ◌&&◌, ◌||◌, if◌then◌else◌, List, [], ◌∷◌, length, take}
use Rattle.std.specs.List.{list_all}
use Rattle.m2_scenario.specs.Text.{Word, words_of}

abbrev pub is_printable : ℕ → Bool
is_printable b = nat_le 32 b && nat_le b 126

-- a carriage return at the end of a line is left out
abbrev pub without_return : Word → Word
without_return line = if slice_index line (length line - 1) == 13 then take (length line - 1) line else line

abbrev pub is_comment : Word → Bool
is_comment [] = false
is_comment (b ∷ bs) = b == 35

abbrev pub words_unless_comment : Word → List Word
words_unless_comment line = if is_comment line then [] else words_of line

-- the words of a line without its carriage return; a line that begins with # has none
abbrev pub line_words : Word → List Word
line_words line = words_unless_comment (without_return line)

-- a line that begins with # may hold any bytes
abbrev pub is_clean : Word → Bool
is_clean line = is_comment line || list_all is_printable line
