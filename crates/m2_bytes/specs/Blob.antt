-- What a byte buffer holds, and what an append leaves.
use Rattle.std.specs.Prelude.{◌≡◌, ℕ, ◌+◌, ◌<◌, ◌≤◌, List, ◌++◌, length, Result, Ok, Err}
use Rattle.m2_bytes.specs.declared.memory.NoMemory.{NoMemory}

-- the bytes, and how many more fit before memory is taken
pub record Contents : Type 0 where
  pub bytes : List ℕ
  pub room : ℕ

-- Ok: the bytes are added at the end, in the room that was there as far as it went. Err: they didn't
-- fit in that room and memory ran out; the bytes are as before.
abbrev pub Appends : Result (Unit {0}) NoMemory → Contents → Contents → List ℕ → Type 0
Appends (Ok _) old new more = (new.bytes ≡ old.bytes ++ more) × (old.room ≤ new.room + length more)
Appends (Err _) old new more = (new.bytes ≡ old.bytes) × (old.room ≤ new.room) × (old.room < length more)
