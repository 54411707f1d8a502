-- What holds of words that are counted.
use Rattle.std.specs.Prelude.{◌≡◌, ℕ, ◌^◌, ◌<◌, List, length}
use Rattle.std.specs.List.{range_with_len}
use Rattle.m2_edge.specs.Words.{Counts, GivesEach}

-- so many words that are counted from the first on are the numbers from 1 to that
abbrev pub CountedWordsAreFromOne : Type 0
CountedWordsAreFromOne = (words : List ℕ) (last : ℕ) → GivesEach Counts 0 words last → length words < 2 ^ 64 →
    words ≡ range_with_len 1 (length words)
