-- Numbers as fields of a wire format: little-endian, as msgr2 writes all but a port.
use Rattle.std.specs.Prelude.{◌≡◌, ℕ, ◌<◌, ◌≤◌, List, ◌++◌, length, take, drop, Result, Ok, Err}
use Rattle.std.specs.Int.{Width, byte_len, to_le_bytes, from_le_bytes}
use Rattle.m2_bytes.specs.declared.memory.Short.{Short}

-- Ok: the field's bytes stood at the front and are read. Short: fewer bytes were left than the field
-- has, and nothing is read.
abbrev pub ReadsField : Width → List ℕ → Result ℕ Short → List ℕ → Type 0
ReadsField w old (Ok v) new = (byte_len w ≤ length old) × (v ≡ from_le_bytes w (take (byte_len w) old)) × (new ≡ drop (byte_len w) old)
ReadsField w old (Err _) new = (length old < byte_len w) × (new ≡ old)

-- A field that was read is the one that was written: the bytes are those of the number and then the rest.
abbrev pub IsFieldWritten : Width → List ℕ → Result ℕ Short → List ℕ → Type 0
IsFieldWritten w old (Ok v) new = old ≡ to_le_bytes w v ++ new
IsFieldWritten w old (Err _) new = Unit {0}
