-- Reading a text from left to right. A reader answers a value and the bytes after it, or the first fault.
-- These words are those of any format that is read so; addresses and control payloads share them.
use Rattle.std.specs.Prelude.{ℕ, List, length, take, drop, Bool, ◌==◌, Result, Ok, Err, nat_lt, if◌then◌else◌}
use Rattle.std.specs.Int.{Width, w8, byte_len, from_le_bytes}

infixl 10 ◌>>=◌
abbrev pub ◌>>=◌ : {A B F : Type 0} → Result A F → (A → Result B F) → Result B F
(Ok x) >>= f = f x
(Err e) >>= f = Err e

-- a little-endian number; short where the bytes end inside it
abbrev pub number : {F : Type 0} → Width → F → List ℕ → Result (ℕ × List ℕ) F
number w short bytes = if nat_lt (length bytes) (byte_len w) then Err short else Ok (from_le_bytes w (take (byte_len w) bytes), drop (byte_len w) bytes)

-- n bytes; short where there are fewer
abbrev pub prefix : {F : Type 0} → ℕ → F → List ℕ → Result (List ℕ × List ℕ) F
prefix n short bytes = if nat_lt (length bytes) n then Err short else Ok (take n bytes, drop n bytes)

-- a value that passes the test; the fault where it doesn't
abbrev pub checked : {A F : Type 0} → (A → Bool) → F → (List ℕ → Result (A × List ℕ) F) → List ℕ → Result (A × List ℕ) F
checked test fault read bytes = read bytes >>= λ x. if test x.0 then Ok x else Err fault

-- this very byte, another being the fault; then what follows it
abbrev pub marked : {A F : Type 0} → ℕ → F → F → (List ℕ → Result (A × List ℕ) F) → List ℕ → Result (A × List ℕ) F
marked byte short fault read bytes = number w8 short bytes >>= λ x. if x.0 == byte then read x.1 else Err fault

-- one field and then the other
infixr 20 ◌⊳◌
abbrev pub ◌⊳◌ : {A B F : Type 0} → (List ℕ → Result (A × List ℕ) F) → (List ℕ → Result (B × List ℕ) F) → List ℕ → Result ((A × B) × List ℕ) F
(first ⊳ second) bytes = first bytes >>= λ x. second x.1 >>= λ y. Ok ((x.0, y.0), y.1)

-- what is made of what is read
abbrev pub made : {A B F : Type 0} → (A → B) → (List ℕ → Result (A × List ℕ) F) → List ℕ → Result (B × List ℕ) F
made make read bytes = read bytes >>= λ x. Ok (make x.0, x.1)
