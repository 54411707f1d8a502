-- The grammar of texts that are made of fields in order: which texts a field may have, apart from how they are
-- read. Addresses and control payloads share these words.
use Rattle.std.specs.Prelude.{◌≡◌, ℕ, ◌<◌, ◌^◌, List, [], ◌∷◌, ◌++◌, length, slice_index}
use Rattle.std.specs.Int.{Width, w32, byte_len, to_le_bytes}

-- what a slice of bytes holds
abbrev pub IsBytes : List ℕ → Type 0
IsBytes bytes = (i : ℕ) → slice_index bytes i < 256

-- a text of the one and then a text of the other
infixr 20 ◌▹◌
abbrev pub ◌▹◌ : (List ℕ → Type 0) → (List ℕ → Type 0) → List ℕ → Type 0
(P ▹ Q) text = (prefix : List ℕ) × (back : List ℕ) × P prefix × Q back × (text ≡ prefix ++ back)

-- no text
abbrev pub Nothing : List ℕ → Type 0
Nothing text = text ≡ []

-- one byte
abbrev pub IsByte : ℕ → List ℕ → Type 0
IsByte n text = (text ≡ n ∷ []) × (n < 256)

-- a little-endian number
abbrev pub IsNumber : Width → ℕ → List ℕ → Type 0
IsNumber w n text = (text ≡ to_le_bytes w n) × (n < 256 ^ byte_len w)

-- these bytes
abbrev pub IsText : List ℕ → List ℕ → Type 0
IsText bytes text = text ≡ bytes

-- bytes behind a u32 of how many they are
abbrev pub IsString : List ℕ → List ℕ → Type 0
IsString bytes = IsNumber w32 (length bytes) ▹ IsText bytes

-- this byte, and then such a text
abbrev pub Marked : ℕ → (List ℕ → Type 0) → List ℕ → Type 0
Marked byte P text = (back : List ℕ) × P back × (text ≡ byte ∷ back)
