-- What a program of one file read, printed and said. This project's own.
use Rattle.std.specs.Prelude.{◌≡◌, ◌⊎◌, ℕ, List, [], ◌∷◌}
use Rattle.m2_edge.specs.Sink.{SeenSink, TakesPrefix}
use Rattle.m2_edge.specs.Source.{SeenSource, IsWhereItWas}
use Rattle.m2_edge.specs.Whole.{IsReadUpTo, StandsIn}
use Rattle.m2_program.specs.declared.status.ProgramStatus.{ProgramStatus}
use Rattle.m2_program.specs.declared.status.ProgramStatus.TheVariants.{Done, WriteFault, NoMemory}
use Rattle.m2_program.specs.Status.{line_of}
use Rattle.m2_program.specs.Writing.{Prints}

-- by the words: of the file that the one word names a prefix was read, or nothing at all; other words leave the source alone
abbrev pub ReadsFile : List (List ℕ) → SeenSource → SeenSource → Type 0
ReadsFile (file ∷ []) old new = IsWhereItWas old new ⊎ StandsIn file old new
ReadsFile _ old new = new ≡ old

-- a text is, in this relation, one of what the source gave of the one file, to its end or to so many bytes
pub record IsOfFile (most : ℕ) (IsOf : List ℕ → List ℕ → Type 0) (source : SeenSource) (text : List ℕ) : Type 0 where
  pub bytes : List ℕ
  pub read : IsReadUpTo most bytes source
  pub is_of : IsOf bytes text

-- such a text was printed
pub record PrintsOne (Is : List ℕ → Type 0) (old new : SeenSink) : Type 0 where
  pub text : List ℕ
  pub is : Is text
  pub printed : Prints text old new

-- a prefix of such a text was printed
pub record PrintsPart (Is : List ℕ → Type 0) (old new : SeenSink) : Type 0 where
  pub text : List ℕ
  pub is : Is text
  pub printed : TakesPrefix text old new

-- this text was printed, or a prefix of it
abbrev pub IsPrinted : ProgramStatus → List ℕ → SeenSink → SeenSink → Type 0
IsPrinted Done text old new = Prints text old new
IsPrinted WriteFault text old new = TakesPrefix text old new
IsPrinted _ text old new = ⊥

-- With Done such a text was printed; with WriteFault a prefix of one, or nothing; else nothing was.
abbrev pub PrintsAs : ProgramStatus → (List ℕ → Type 0) → SeenSink → SeenSink → Type 0
PrintsAs Done Is old new = PrintsOne Is old new
PrintsAs WriteFault Is old new = PrintsPart Is old new ⊎ (new ≡ old)
PrintsAs _ Is old new = new ≡ old

-- With Done nothing was said. The line of each other status was said whole; that of NoMemory, and any line with WriteFault, may be
-- cut short or missing.
abbrev pub SaysAs : ProgramStatus → List ℕ → SeenSink → SeenSink → Type 0
SaysAs Done usage old new = new ≡ old
SaysAs WriteFault usage old new = Unit {0}
SaysAs NoMemory usage old new = TakesPrefix (line_of usage NoMemory) old new
SaysAs status usage old new = Prints (line_of usage status) old new
