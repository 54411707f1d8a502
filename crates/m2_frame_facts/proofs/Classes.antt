-- The bytes that stand in the text of a number, of bytes, of an address and of a word.
use Rattle.std.proofs.Common.{◌≡◌, ℕ, suc, ◌<◌, ◌≤◌, ◌^◌, ◌/◌, ◌%◌, Bool, true, false, not, ◌&&◌, ◌==◌, List, [], ◌∷◌, length, get_or, nat_lt, nat_le, decimal, refl, arith}
use Rattle.std.specs.List.{list_all}
use Rattle.std.specs.Char.{is_ascii_digit}
use Rattle.std.proofs.lemmas.Bool.{and_from, le-leb}
use Rattle.std.proofs.lemmas.Bool.Decides.{nat_tests}
use Rattle.std.proofs.lemmas.Fmt.{decimal_is_IsNumeral}
use Rattle.std.proofs.lemmas.Str.Parse.{digit_at}
use Rattle.std.proofs.lemmas.List.Sums.{AllPass-from_list_all}
use Rattle.hex.specs.Hex.{encode_with, lower_digits}
use Rattle.m2_bytes.specs.Hexadecimal.{hex_text}

-- no space, line feed, quote, comma, bracket or brace: what separates the parts of a line
abbrev pub is_inner : ℕ → Bool
is_inner b = nat_lt 44 b && not (b == 93) && not (b == 125)

-- of the names of fields: a small letter or a low line
abbrev pub is_of_name : ℕ → Bool
is_of_name b = nat_le 95 b && nat_le b 122

pub inner_digit : (b : ℕ) → is_ascii_digit b ≡ true → is_inner b ≡ true
inner_digit b h = grind (arith, nat_tests)

pub inner_no_digit : (b : ℕ) → is_inner b ≡ false → is_ascii_digit b ≡ false
inner_no_digit b h = grind (arith, nat_tests)

all_digits : (ds : List ℕ) → ((i : ℕ) → i < length ds → (48 ≤ get_or ds i 0) × (get_or ds i 0 ≤ 57)) → list_all is_ascii_digit ds ≡ true
all_digits [] h = refl
all_digits (d ∷ ds) h =
    let first = h 0 (omega arith) in
    and_from (is_ascii_digit d) (list_all is_ascii_digit ds) (and_from _ _ (le-leb 48 d first.0) (le-leb d 57 first.1)) (all_digits ds (λ i l. h (suc i) (omega arith)))

pub digits_of_decimal : (n : ℕ) → n < 2 ^ 64 → list_all is_ascii_digit (decimal n) ≡ true
digits_of_decimal n h = all_digits (decimal n) (λ i l. digit_at _ i (decimal_is_IsNumeral n h).0.1 l)

inner_hex_digit : (k : ℕ) → k < 16 → is_inner (get_or lower_digits k 0) ≡ true
inner_hex_digit k h = AllPass-from_list_all is_inner lower_digits refl k 0 h

inner_digits : (bytes : List ℕ) → ((i : ℕ) → get_or bytes i 0 < 256) → list_all is_inner (encode_with lower_digits bytes) ≡ true
unfolding encode_with
inner_digits [] small = refl
inner_digits (b ∷ bs) small =
    let here : b < 256 = small 0 in
    and_from _ _ (inner_hex_digit (b / 16) (omega arith)) (and_from _ _ (inner_hex_digit (b % 16) (omega arith)) (inner_digits bs (λ i. small (suc i))))

pub inner_hex : (bytes : List ℕ) → ((i : ℕ) → get_or bytes i 0 < 256) → list_all is_inner (hex_text bytes) ≡ true
inner_hex [] small = refl
inner_hex (b ∷ bs) small = inner_digits (b ∷ bs) small
