-- What a decoder answers: a function of what it was fed and of what was granted.
use Rattle.std.specs.Prelude.{◌≡◌, ℕ, ◌+◌, false, List, ◌++◌, drop, Option, Some, None}
use Rattle.m2_frame.specs.declared.got.Got.{Got}
use Rattle.m2_frame.specs.declared.got.Got.TheVariants as got
use Rattle.m2_frame.specs.Frame.{Parts, parts}
use Rattle.m2_frame.specs.Position.{Position}
use Rattle.m2_frame.specs.Reading.{Item, whole, dropped, start, bad, text, judge, owed_at}

-- the size that was asked for and isn't granted
abbrev pub owed : Position → Option ℕ
owed s = owed_at s.rest s.granted

-- a text of n bytes is passed
abbrev pub passed : Position → ℕ → Position
passed s n = record s { place = s.place + n; rest = drop n s.rest; granted = false }

-- one text is passed
abbrev pub Passes : Position → Item → Position → Type 0
Passes old item new = (n : ℕ) × (judge old.rest ≡ text item n) × (new ≡ passed old n)

-- the whole text of this frame stands at the front, and nothing is owed
pub record IsAtFront (s : Position) (f : Parts) : Type 0 where
  pub settled : owed s ≡ None
  pub len : ℕ
  pub there : judge s.rest ≡ text (whole f) len

-- what is left is the start of a frame, or nothing, and nothing is owed
abbrev pub IsAtStart : Position → Type 0
IsAtStart s = (owed s ≡ None) × (judge s.rest ≡ start)

-- the answers: a size for as long as one is owed; else the item, the start or the fault that the rest is. Memory
-- is taken for a frame alone.
abbrev pub Answers : Position → Got → Position → Type 0
Answers old (got.Frame f) new = (owed old ≡ None) × Passes old (whole (parts f)) new
Answers old (got.Aborted tag) new = (owed old ≡ None) × Passes old (dropped tag) new
Answers old (got.Size n) new = (owed old ≡ Some n) × (new ≡ old)
Answers old got.NotYet new = IsAtStart old × (new ≡ old)
Answers old (got.Fault f) new = (owed old ≡ None) × (judge old.rest ≡ bad f) × (new ≡ old)
Answers old got.NoMemory new = (f : Parts) × IsAtFront old f × (new ≡ old)

-- a piece comes at the end of the rest
abbrev pub fed : Position → List ℕ → Position
fed s piece = record s { rest = s.rest ++ piece }

-- all but the room is the same
abbrev pub IsSameButRoom : Position → Position → Type 0
IsSameButRoom old new = new ≡ record old { room = new.room }
