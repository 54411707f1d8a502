-- A text written whole and passed on.
use Rattle.std.specs.Prelude.{ℕ, List, Result, Ok, Err}
use Rattle.m2_edge.specs.declared.failed.Failed.{Failed}
use Rattle.m2_edge.specs.Sink.{SeenSink, TakesBytes, TakesPrefix, IsFlushed}

-- a text was taken whole, and all is flushed
pub record Prints (text : List ℕ) (old new : SeenSink) : Type 0 where
  pub taken : TakesBytes text old new
  pub flushed : IsFlushed new

-- Ok: the text was taken whole, and all is flushed. Err: a prefix of it was taken.
abbrev pub PrintsText : Result (Unit {0}) Failed → List ℕ → SeenSink → SeenSink → Type 0
PrintsText (Ok _) text old new = Prints text old new
PrintsText (Err _) text old new = TakesPrefix text old new
