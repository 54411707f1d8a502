-- Hexadecimal text: its length, and that what was written is read again.
use Rattle.std.proofs.Common.{◌≡◌, ℕ, ◌*◌, ◌<◌, false, ◌&&◌, List, [], ◌∷◌, length, get_or, Some, refl, ap, ◌∙◌}
use Rattle.std.specs.Str.{bytes_eq}
use Rattle.hex.specs.Hex.{decode_of, encode_lower, encode_with, lower_digits}
use Rattle.hex.proofs.HexLemmas.{length-encode_with, decode_of-encode_lower}
use Rattle.m2_bytes.specs.Hexadecimal.{hex_value, hex_text, no_bytes, digits_value, decoded}
use Rattle.m2_lemmas.proofs.Booleans.{and_false}

pub length_hex : (bytes : List ℕ) → length (encode_lower bytes) ≡ 2 * length bytes
length_hex bytes = length-encode_with lower_digits bytes

-- the text of some bytes has two digits or more, so it isn't the dash
no_dash : (b : ℕ) (bs : List ℕ) → bytes_eq (encode_lower (b ∷ bs)) no_bytes ≡ false
unfolding encode_with
no_dash b bs = and_false _

spells : (b : ℕ) (bs : List ℕ) → digits_value (encode_lower (b ∷ bs)) ≡ decoded (decode_of (encode_lower (b ∷ bs)))
unfolding encode_with
spells b bs = refl

pub hex_value-hex_text : (bytes : List ℕ) → ((i : ℕ) → get_or bytes i 0 < 256) → hex_value (hex_text bytes) ≡ Some bytes
hex_value-hex_text [] small = refl
hex_value-hex_text (b ∷ bs) small =
    rw (no_dash b bs) (spells b bs ∙ ap decoded (decode_of-encode_lower (b ∷ bs) small))
