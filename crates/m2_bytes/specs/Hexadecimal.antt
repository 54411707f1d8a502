-- Bytes as words of scenario files and reports: two hexadecimal digits a byte, and `-` for no bytes.
use Rattle.std.specs.Prelude.{◌≡◌, ℕ, if◌then◌else◌, List, [], ◌∷◌, Option, Some, None, Result, Ok, Err}
use Rattle.std.specs.Str.{bytes_eq}
use Rattle.hex.specs.Hex.{decode_of, encode_lower}
use Rattle.hex.specs.declared.error.FromHexError.{FromHexError}
use Rattle.m2_bytes.specs.declared.blob.Blob.{Blob}
use Rattle.m2_bytes.specs.declared.hexadecimal.HexFault.{HexFault}
use Rattle.m2_bytes.specs.declared.hexadecimal.HexFault.TheVariants.{BadHex, NoMemory}

-- the bytes that were decoded, if any
abbrev pub decoded : Result (List ℕ) FromHexError → Option (List ℕ)
decoded (Ok bytes) = Some bytes
decoded (Err _) = None

-- what the digits spell: a positive even number of them, of either case
abbrev pub digits_value : List ℕ → Option (List ℕ)
digits_value [] = None
digits_value (c ∷ cs) = decoded (decode_of (c ∷ cs))

-- the word for no bytes, a dash
abbrev pub no_bytes : List ℕ
no_bytes = 45 ∷ []

-- what a word spells
abbrev pub hex_value : List ℕ → Option (List ℕ)
hex_value word = if bytes_eq word no_bytes then Some [] else digits_value word

-- the word that is written for some bytes, in lower case
abbrev pub hex_text : List ℕ → List ℕ
hex_text [] = no_bytes
hex_text (b ∷ bs) = encode_lower (b ∷ bs)

-- `BadHex` exactly where the word spells no bytes
abbrev pub ReadsHex : List ℕ → Result Blob HexFault → Type 0
ReadsHex word (Ok b) = hex_value word ≡ Some b.bytes
ReadsHex word (Err BadHex) = hex_value word ≡ None
ReadsHex word (Err NoMemory) = Unit {0}
