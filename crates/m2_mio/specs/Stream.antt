-- What one call of the system on a stream may answer, and what all of them gave and took.
use Rattle.std.specs.Prelude.{ℕ, Bool, true, false, ◌||◌, List, [], ◌∷◌, ◌++◌, length, min, take, Option}
use Rattle.std.specs.Io.KnownBytes.{Appends, Consumes, IsAtEnd, Keeps}
use Rattle.m2_fabric.specs.Log.{IsPieceOf}
use Rattle.m2_fabric.specs.declared.end.EndRead.{EndRead}
use Rattle.m2_fabric.specs.declared.end.EndRead.TheVariants as read
use Rattle.m2_fabric.specs.declared.end.EndWrite.{EndWrite}
use Rattle.m2_fabric.specs.declared.end.EndWrite.TheVariants as write
use Rattle.m2_fabric.specs.declared.log.TheConstants.{MOST_MOVED}
use Rattle.m2_mio.specs.declared.stream.Asked.{Asked}

-- a read into a piece that isn't empty: a count of bytes that the piece has and that one call moves, at least one; no
-- want of memory
abbrev pub IsReadOf : EndRead → List ℕ → Type 0
IsReadOf (read.Got n) piece = IsPieceOf n piece
IsReadOf read.NoMemory piece = ⊥
IsReadOf _ piece = Unit {0}

-- the same of a write of a piece that isn't empty
abbrev pub IsWriteOf : EndWrite → List ℕ → Type 0
IsWriteOf (write.Put n) piece = IsPieceOf n piece
IsWriteOf write.NoMemory piece = ⊥
IsWriteOf _ piece = Unit {0}

-- as much of a piece as one call moves
abbrev pub moved : List ℕ → List ℕ
moved piece = take (min (length piece) MOST_MOVED) piece

-- the bytes that a read into a piece gave, by its answer
abbrev pub given_by : EndRead → List ℕ → List ℕ
given_by (read.Got n) piece = take n piece
given_by _ piece = []

-- the bytes of a piece that a write took, by its answer
abbrev pub taken_by : EndWrite → List ℕ → List ℕ
taken_by (write.Put n) piece = take n piece
taken_by _ piece = []

-- whether a write was refused, by its answer
abbrev pub is_refusal : EndWrite → Bool
is_refusal write.Failed = true
is_refusal _ = false

-- What was read is what the stream gave, where the bytes that it has left are known: no byte that it didn't give, and
-- none of those that it gave is lost. Ended comes only where none is left.
abbrev pub IsGiven : EndRead → List ℕ → Option (List ℕ) → Option (List ℕ) → Type 0
IsGiven (read.Got n) piece old new = Consumes old new (take n piece)
IsGiven read.Ended piece old new = Consumes old new [] × IsAtEnd new
IsGiven _ piece old new = Keeps old new

-- What was written is what the stream took, where the bytes that it holds are known.
abbrev pub IsTaken : EndWrite → List ℕ → Option (List ℕ) → Option (List ℕ) → Type 0
IsTaken (write.Put n) piece old new = Appends old new (take n piece)
IsTaken _ piece old new = Keeps old new

-- the mark of what a read answered
abbrev pub mark_of : EndRead → ℕ
mark_of (read.Got n) = 1
mark_of read.NotYet = 2
mark_of read.Ended = 3
mark_of read.Failed = 4
mark_of read.NoMemory = 5

-- What a stream answered so far: all bytes that its reads gave, a mark for what each read answered, in order, all bytes
-- that its writes took, and whether it refused one.
pub record Answers : Type 0 where
  pub given : List ℕ
  pub reads : List ℕ
  pub taken : List ℕ
  pub refused : Bool

abbrev pub answers_of : Asked → Answers
answers_of a = record { given = a.given.bytes; reads = a.reads.bytes; taken = a.taken.bytes; refused = a.refused }

abbrev pub nothing_asked : Answers
nothing_asked = record { given = []; reads = []; taken = []; refused = false }

-- after a read into a piece, as it is after the call
abbrev pub after_reading : EndRead → List ℕ → Answers → Answers
after_reading answer piece a = record a { given = a.given ++ given_by answer piece; reads = a.reads ++ mark_of answer ∷ [] }

-- after a write of a piece
abbrev pub after_writing : EndWrite → List ℕ → Answers → Answers
after_writing answer piece a = record a { taken = a.taken ++ taken_by answer piece; refused = a.refused || is_refusal answer }
