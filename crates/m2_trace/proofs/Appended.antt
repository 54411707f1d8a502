-- Texts that are appended.
use Rattle.std.proofs.Common.{◌≡◌, ℕ, List, ◌++◌, Result, Ok, Err, OnOk}
use Rattle.m2_bytes.specs.declared.memory.NoMemory.{NoMemory}
use Rattle.m2_bytes.specs.Blob.{Appends, Contents}

-- where an append succeeds, its bytes are at the end
pub appended : (result : Result (Unit {0}) NoMemory) (old new : Contents) (more : List ℕ) → Appends result old new more → OnOk result (new.bytes ≡ old.bytes ++ more)
appended (Ok u) old new more h = h.0
appended (Err e) old new more h = tt
