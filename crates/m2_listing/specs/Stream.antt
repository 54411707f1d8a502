-- A stream as the texts of items at their places, and then a rest.
use Rattle.std.specs.Prelude.{◌≡◌, ℕ, ◌+◌, List, [], ◌∷◌, drop}
use Rattle.m2_frame.specs.Reading.{Item, text, judge}

-- an item of a stream, the place of its text's first byte, and how many bytes that has
pub record Placed : Type 0 where
  pub item : Item
  pub place : ℕ
  pub size : ℕ

-- the stream, whose first byte has this place, is the texts of these items, one after the other, and then the rest
abbrev pub SplitsAt : ℕ → List ℕ → List Placed → List ℕ → Type 0
SplitsAt at stream [] rest = stream ≡ rest
SplitsAt at stream (p ∷ items) rest = (p.place ≡ at) × (judge stream ≡ text p.item p.size) × SplitsAt (at + p.size) (drop p.size stream) items rest
