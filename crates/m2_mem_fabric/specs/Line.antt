-- What a write under a lock may answer.
use Rattle.std.specs.Prelude.{◌≡◌, ℕ, List, length}
use Rattle.m2_fabric.specs.declared.end.EndWrite.{EndWrite}
use Rattle.m2_fabric.specs.declared.end.EndWrite.TheVariants as write

-- a piece is taken whole, or not at all; it never has to wait
abbrev pub IsPutOf : EndWrite → List ℕ → Type 0
IsPutOf (write.Put n) piece = n ≡ length piece
IsPutOf write.NotYet piece = ⊥
IsPutOf _ piece = Unit {0}
