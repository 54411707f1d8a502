-- Bytes as hexadecimal words: the words are plain, and tell the bytes.
use Rattle.std.proofs.Common.{◌≡◌, ℕ, ◌<◌, ◌/◌, ◌%◌, inl, inr, List, [], ◌∷◌, length, get_or, Some, refl, sym, ap, ◌∙◌, arith}
use Rattle.std.specs.Prelude.{nat_lt, slice_index}
use Rattle.std.proofs.lemmas.Bool.{cases_lt, ltb-true}
use Rattle.std.proofs.lemmas.List.{get_or_past}
use Rattle.std.proofs.lemmas.List.Elements.{All-head, All-tail}
use Rattle.std.proofs.lemmas.List.Sums.{AllPass-from_list_all}
use Rattle.hex.specs.Hex.{encode_with, lower_digits}
use Rattle.m2_bytes.specs.Hexadecimal.{hex_text, hex_value}
use Rattle.m2_scenario.specs.Printed.{IsPart}
use Rattle.m2_scenario.proofs.PlainWords.{IsPlain}

-- what is written for bytes spells them
abbrev pub HexIsReadAgain : Type 0
HexIsReadAgain = (bytes : List ℕ) → ((i : ℕ) → slice_index bytes i < 256) → hex_value (hex_text bytes) ≡ Some bytes

at_each : (bytes : List ℕ) → IsPart bytes → (i : ℕ) → slice_index bytes i < 256
at_each bytes small i = elim (cases_lt i (length bytes)) [
  | inl inside ↦ small i 0 inside
  | inr past ↦ omega (arith, get_or_past bytes i 0 past)
]

pub hex_once : HexIsReadAgain → (a b : List ℕ) → IsPart a → IsPart b → hex_text a ≡ hex_text b → a ≡ b
hex_once again a b small fits e =
    let left = again a (at_each a small) in
    let right = again b (at_each b fits) in
    let both : Some a ≡ Some b = sym left ∙ ap hex_value e ∙ right in
    cc

plain_digit : (k : ℕ) → k < 16 → 32 < get_or lower_digits k 0
plain_digit k h = ltb-true 32 _ (AllPass-from_list_all (nat_lt 32) lower_digits refl k 0 h)

plain_hex : (bytes : List ℕ) → IsPart bytes → IsPlain (encode_with lower_digits bytes)
unfolding encode_with
plain_hex [] small = tt
plain_hex (b ∷ bs) small =
    let here : b < 256 = All-head (λ x. x < 256) b bs small in
    (plain_digit (b / 16) (omega arith), (plain_digit (b % 16) (omega arith), plain_hex bs (All-tail (λ x. x < 256) b bs small)))

pub plain_hex_text : (bytes : List ℕ) → IsPart bytes → IsPlain (hex_text bytes)
plain_hex_text [] small = (omega arith, tt)
plain_hex_text (b ∷ bs) small = plain_hex (b ∷ bs) small
