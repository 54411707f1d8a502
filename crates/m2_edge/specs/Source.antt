-- What contracts see of a source, and how beginning and reading an input changes it. This project's own.
use Rattle.std.specs.Prelude.{◌≡◌, ℕ, ◌<◌, ◌==◌, ◌&&◌, not, Bool, false, IsTrue, ◌↔◌, List, [], ◌++◌, length, take, Option, Result, Ok, Err, IfSome}
use Rattle.m2_edge.specs.declared.failed.Failed.{Failed}

-- How many faults there were; what the reads gave since an input was begun, in order, and whether the last of
-- them found the end of it. A source that knows its inputs tells besides what the one that was begun last holds,
-- and what the input of each name holds; another has None there.
pub record SeenSource : Type 0 where
  pub faults : ℕ
  pub given : List ℕ
  pub ended : Bool
  pub begun : Option (List ℕ)
  pub inputs : List ℕ → Option (List ℕ)

-- these bytes are the first ones of those
abbrev pub IsPrefixOf : List ℕ → List ℕ → Type 0
IsPrefixOf bytes whole = (n : ℕ) × (bytes ≡ take n whole)

-- what the reads gave is a prefix of an input, and all of it where the end was found
pub record IsGivenFrom (input : List ℕ) (s : SeenSource) : Type 0 where
  pub prefix : IsPrefixOf s.given input
  pub whole : IsTrue s.ended → s.given ≡ input

-- the same of the input that was begun last, by a source that knows it
abbrev pub GivesItsInput : SeenSource → Type 0
GivesItsInput s = IfSome s.begun (λ input. IsGivenFrom input s)

-- the same input is begun, and nothing more was read of it
pub record IsWhereItWas (old new : SeenSource) : Type 0 where
  pub given : new.given ≡ old.given
  pub ended : new.ended ≡ old.ended
  pub begun : new.begun ≡ old.begun

-- an input is begun, of which nothing was read yet
pub record IsAtStartOf (input : Option (List ℕ)) (new : SeenSource) : Type 0 where
  pub given : new.given ≡ []
  pub ended : new.ended ≡ false
  pub begun : new.begun ≡ input

-- whether a read of so many bytes found the end: it gave none for a piece that isn't empty
abbrev pub finds_end : ℕ → List ℕ → Bool
finds_end n piece = (n == 0) && not (length piece == 0)

-- one more read gave the first n bytes of this piece, and found the end where it gave none for all its room
pub record GivesPiece (n : ℕ) (piece : List ℕ) (old new : SeenSource) : Type 0 where
  pub given : new.given ≡ old.given ++ take n piece
  pub ended : IsTrue new.ended ↔ ((n ≡ 0) × (0 < length piece))
  pub begun : new.begun ≡ old.begun

-- Beginning the input of a name: Ok starts it, and Failed leaves all as it was.
abbrev pub BeginsInput : Result (Unit {0}) Failed → List ℕ → SeenSource → SeenSource → Type 0
BeginsInput (Ok _) name old new = IsAtStartOf (old.inputs name) new
BeginsInput (Err _) name old new = IsWhereItWas old new

-- Reading into a piece, as it is after the call: Ok says how many bytes were given, and Failed gave none.
abbrev pub ReadsPiece : Result ℕ Failed → List ℕ → SeenSource → SeenSource → Type 0
ReadsPiece (Ok n) piece old new = GivesPiece n piece old new
ReadsPiece (Err _) piece old new = IsWhereItWas old new
