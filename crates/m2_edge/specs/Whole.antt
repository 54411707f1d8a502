-- A whole input read, and a whole text written.
use Rattle.std.specs.Prelude.{◌≡◌, ℕ, ◌+◌, ◌≤◌, ◌⊎◌, IsTrue, List, [], ◌++◌, length, take, Option, Result, Ok, Err, IfSome}
use Rattle.m2_bytes.specs.Blob.{Contents}
use Rattle.m2_edge.specs.Faults.{HasRisen}
use Rattle.m2_edge.specs.Sink.{SeenSink, TakesBytes, TakesPrefix}
use Rattle.m2_edge.specs.Source.{SeenSource, IsWhereItWas, GivesItsInput}
use Rattle.m2_edge.specs.declared.failed.Failed.{Failed as SinkFailed}
use Rattle.m2_edge.specs.declared.whole.ReadFault.{ReadFault}
use Rattle.m2_edge.specs.declared.whole.ReadFault.TheVariants.{Failed, NoMemory}

-- why reading stopped early: Failed only where the count of faults rose; want of memory is free
abbrev pub IsReadCause : ReadFault → ℕ → ℕ → Type 0
IsReadCause Failed old new = HasRisen old new
IsReadCause NoMemory old new = Unit {0}

-- an answer and the source's count of faults before and after: Failed comes only where it rose
abbrev pub IsCaused : {X : Type 0} → Result X ReadFault → ℕ → ℕ → Type 0
IsCaused (Ok _) old new = Unit {0}
IsCaused (Err e) old new = IsReadCause e old new

-- the same, and the count never falls
pub record HasReadCause {X : Type 0} (result : Result X ReadFault) (old new : ℕ) : Type 0 where
  pub never_falls : old ≤ new
  pub failed : IsCaused result old new

-- A source stands in the input of a name: that is begun, and what the reads gave since is a prefix of it, where
-- the source knows it.
pub record StandsIn (name : List ℕ) (old new : SeenSource) : Type 0 where
  pub begun : new.begun ≡ old.inputs name
  pub gives : GivesItsInput new

-- These bytes are all that the reads gave of an input, and they are the whole of it: the end was found, or so
-- many bytes were read. Where the source knows the input, they are its first bytes, as many as that.
pub record IsReadUpTo (most : ℕ) (bytes : List ℕ) (s : SeenSource) : Type 0 where
  pub given : bytes ≡ s.given
  pub whole : IsTrue s.ended ⊎ (length bytes ≡ most)
  pub known : IfSome s.begun (λ input. bytes ≡ take most input)

-- Reading the input of a name to its end or to so many bytes. Err: it wasn't begun, or was read in part.
abbrev pub ReadsInput : Result Contents ReadFault → ℕ → List ℕ → SeenSource → SeenSource → Type 0
ReadsInput (Ok b) most name old new = IsReadUpTo most b.bytes new × StandsIn name old new
ReadsInput (Err _) most name old new = IsWhereItWas old new ⊎ StandsIn name old new

-- One more read, whose bytes are put at the end of those that were read before; none only at the end.
pub record ExtendsBy (n : ℕ) (bytes bytes' : List ℕ) (new : SeenSource) : Type 0 where
  pub length : length bytes' ≡ length bytes + n
  pub given : bytes' ≡ new.given
  pub ended : n ≡ 0 → IsTrue new.ended

-- Writing a whole text: Err says that a prefix of it was taken.
abbrev pub WritesText : Result (Unit {0}) SinkFailed → List ℕ → SeenSink → SeenSink → Type 0
WritesText (Ok _) text old new = TakesBytes text old new
WritesText (Err _) text old new = TakesPrefix text old new
