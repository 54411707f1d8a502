-- The first word of a line says what it is about.
use Rattle.std.specs.Prelude.{ℕ, ◌==◌, Bool, if◌then◌else◌, Option, Some, None, codes}
use Rattle.std.specs.Str.{bytes_eq}
use Rattle.m2_scenario_text.specs.declared.first_word.FirstWord.{FirstWord}
use Rattle.m2_scenario_text.specs.declared.first_word.FirstWord.TheVariants as first
use Rattle.m2_scenario.specs.Text.{Word}

-- the first words of lines
unfoldable pub first_word_of : Word → Option FirstWord
first_word_of w =
    if bytes_eq w (codes "node") then Some first.Node else
    if bytes_eq w (codes "link") then Some first.Link else
    if bytes_eq w (codes "post") then Some first.Post else
    if bytes_eq w (codes "dial") then Some first.Dial else
    if bytes_eq w (codes "down") then Some first.Down else
    if bytes_eq w (codes "cut") then Some first.Cut else
    if bytes_eq w (codes "turn") then Some first.Turn else
    if bytes_eq w (codes "flow") then Some first.Flow else
    if bytes_eq w (codes "fault") then Some first.Fault else
    if bytes_eq w (codes "settle") then Some first.Settle else
    if bytes_eq w (codes "off") then Some first.Off else
    if bytes_eq w (codes "limit") then Some first.Limit else None

-- each has a number of its own, by which two are compared
abbrev pub number_of_word : FirstWord → ℕ
number_of_word first.Node = 0
number_of_word first.Link = 1
number_of_word first.Post = 2
number_of_word first.Dial = 3
number_of_word first.Down = 4
number_of_word first.Cut = 5
number_of_word first.Turn = 6
number_of_word first.Flow = 7
number_of_word first.Fault = 8
number_of_word first.Settle = 9
number_of_word first.Off = 10
number_of_word first.Limit = 11

abbrev pub is_word : FirstWord → FirstWord → Bool
is_word v w = number_of_word w == number_of_word v
