-- What contracts see of a sink, and how writing to it and flushing it changes that. This project's own.
use Rattle.std.specs.Prelude.{◌≡◌, ℕ, List, ◌++◌, take, Result, Ok, Err}
use Rattle.m2_edge.specs.declared.failed.Failed.{Failed}

-- How many faults there were; all bytes that the writes took, in order; and what of them the last flush that
-- succeeded passed on.
pub record SeenSink : Type 0 where
  pub faults : ℕ
  pub taken : List ℕ
  pub flushed : List ℕ

-- what was taken has grown by exactly these bytes
abbrev pub TakesBytes : List ℕ → SeenSink → SeenSink → Type 0
TakesBytes bytes old new = new.taken ≡ old.taken ++ bytes

-- what was taken has grown by a prefix of these bytes
abbrev pub TakesPrefix : List ℕ → SeenSink → SeenSink → Type 0
TakesPrefix bytes old new = (n : ℕ) × TakesBytes (take n bytes) old new

-- all that was taken was passed on
abbrev pub IsFlushed : SeenSink → Type 0
IsFlushed s = s.flushed ≡ s.taken

-- Writing a piece: Ok says how many of its first bytes were taken, and Failed took none.
abbrev pub WritesPiece : Result ℕ Failed → List ℕ → SeenSink → SeenSink → Type 0
WritesPiece (Ok n) piece old new = TakesBytes (take n piece) old new
WritesPiece (Err _) piece old new = new.taken ≡ old.taken

-- Flushing: Ok passed on all that was taken, and Failed may have passed on nothing.
abbrev pub FlushesAll : Result (Unit {0}) Failed → SeenSink → SeenSink → Type 0
FlushesAll (Ok _) old new = IsFlushed new
FlushesAll (Err _) old new = new.flushed ≡ old.flushed
