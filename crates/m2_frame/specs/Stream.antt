-- A stream as the texts of frames and aborted frames, and then a rest.
use Rattle.std.specs.Prelude.{◌≡◌, ◌≢◌, ℕ, List, [], ◌∷◌, drop}
use Rattle.m2_frame.specs.Reading.{Item, text, judge}

-- the stream is the texts of these items, one after the other, and then the rest
abbrev pub Splits : List ℕ → List Item → List ℕ → Type 0
Splits stream [] rest = stream ≡ rest
Splits stream (item ∷ items) rest = (n : ℕ) × (judge stream ≡ text item n) × Splits (drop n stream) items rest

-- no whole text stands at the front
abbrev pub IsOpen : List ℕ → Type 0
IsOpen rest = (item : Item) (n : ℕ) → judge rest ≢ text item n
