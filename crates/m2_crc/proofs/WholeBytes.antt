-- A whole byte at a time: eight shifts of a state are the state moved down by eight bits, with what
-- eight shifts make of its lowest byte put in.
use Rattle.std.proofs.Common.{◌≡◌, ℕ, zero, suc, ◌+◌, ◌*◌, ◌/◌, ◌%◌, ◌^◌, ◌<◌, refl, sym, ap, ◌∙◌, arith, inl, inr}
use Rattle.std.specs.Prelude.{bit_and, bit_xor}
use lib.Bits.{xor_assoc, xor_zero_r}
use Rattle.std.proofs.lemmas.Nat.{xor_block, xor_lt, xor_shr, xor_comm, shr_split, and_mask, pow_pos}
use Rattle.std.proofs.lemmas.Bool.{cases_lt}
use Rattle.std.proofs.Math.Nat.{pow-suc, mul_assoc, mod-lt}
use Rattle.m2_crc.specs.Crc.{polynomial, shifted, shifted_by, after_byte}

doubled : (n hi : ℕ) → hi * 2 ^ suc n ≡ (hi * 2 ^ n) * 2
doubled n hi = ap (λ (x : ℕ). hi * x) (pow-suc 2 n) ∙ sym (mul_assoc hi (2 ^ n) 2)

halves : (n hi lo : ℕ) → (hi * 2 ^ suc n + lo) / 2 ≡ hi * 2 ^ n + lo / 2
halves n hi lo = omega (arith, doubled n hi)

lowest : (n hi lo : ℕ) → (hi * 2 ^ suc n + lo) % 2 ≡ lo % 2
lowest n hi lo = omega (arith, doubled n hi)

below_half : (n lo : ℕ) → lo < 2 ^ suc n → lo / 2 < 2 ^ n
below_half n lo h = let e : 2 ^ suc n ≡ 2 ^ n * 2 = pow-suc 2 n in omega arith

-- an exclusive or of two numbers, by what lies above n bits and below them
xor_parts : (n hi lo p : ℕ) → lo < 2 ^ n → bit_xor (hi * 2 ^ n + lo) p ≡ bit_xor hi (p / 2 ^ n) * 2 ^ n + bit_xor lo (p % 2 ^ n)
xor_parts n hi lo p h =
    let some : 0 < 2 ^ n = pow_pos n in
    let below : p % 2 ^ n < 2 ^ n = mod-lt p some in
    ap (λ (x : ℕ). bit_xor (hi * 2 ^ n + lo) x) (sym (shr_split p n)) ∙ xor_block n hi (p / 2 ^ n) lo (p % 2 ^ n) h below

-- so many shifts leave what lies above n bits, with what they make of the lower bits put in
Splits : ℕ → Type 0
Splits n = (hi lo : ℕ) → lo < 2 ^ n → shifted_by n (hi * 2 ^ n + lo) ≡ bit_xor hi (shifted_by n lo)

put_in : (n hi lo p : ℕ) → Splits n → lo < 2 ^ n → shifted_by n (bit_xor (hi * 2 ^ n + lo) p) ≡ bit_xor hi (shifted_by n (bit_xor lo p))
unfolding Splits
put_in n hi lo p splits h =
    let some : 0 < 2 ^ n = pow_pos n in
    let low = bit_xor lo (p % 2 ^ n) in
    let small : low < 2 ^ n = xor_lt n lo (p % 2 ^ n) h (mod-lt p some) in
    let one : shifted_by n (bit_xor (hi * 2 ^ n + lo) p) ≡ bit_xor (bit_xor hi (p / 2 ^ n)) (shifted_by n low) =
    ap (shifted_by n) (xor_parts n hi lo p h) ∙ splits (bit_xor hi (p / 2 ^ n)) low small in
    let bare : lo ≡ 0 * 2 ^ n + lo = omega arith in
    let two : shifted_by n (bit_xor lo p) ≡ bit_xor (p / 2 ^ n) (shifted_by n low) =
    ap (λ (x : ℕ). shifted_by n (bit_xor x p)) bare ∙ ap (shifted_by n) (xor_parts n 0 lo p h) ∙ splits (p / 2 ^ n) low small in
    one ∙ xor_assoc hi (p / 2 ^ n) (shifted_by n low) ∙ ap (bit_xor hi) (sym two)

pub odd : (state : ℕ) → state % 2 ≡ 1 → shifted state ≡ bit_xor (state / 2) polynomial
unfolding shifted
odd state h = rw h refl

pub even : (state : ℕ) → state % 2 ≡ 0 → shifted state ≡ state / 2
unfolding shifted
even state h = rw h refl

shifted_by-splits : (n : ℕ) → Splits n
unfolding Splits shifted_by
shifted_by-splits zero hi lo h =
    let none : lo ≡ 0 = omega arith in
    let all : hi * 2 ^ 0 + lo ≡ hi = omega arith in
    all ∙ sym (ap (bit_xor hi) none ∙ xor_zero_r hi)
shifted_by-splits (suc n) hi lo h =
    elim (cases_lt (lo % 2) 1) [
      | inl lt ↦
          let e : lo % 2 ≡ 0 = omega arith in
          let whole : shifted (hi * 2 ^ suc n + lo) ≡ hi * 2 ^ n + lo / 2 = even (hi * 2 ^ suc n + lo) (lowest n hi lo ∙ e) ∙ halves n hi lo in
          ap (shifted_by n) whole ∙ shifted_by-splits n hi (lo / 2) (below_half n lo h) ∙ ap (λ (x : ℕ). bit_xor hi (shifted_by n x)) (sym (even lo e))
      | inr le ↦
          let e : lo % 2 ≡ 1 = omega arith in
          let whole : shifted (hi * 2 ^ suc n + lo) ≡ bit_xor (hi * 2 ^ n + lo / 2) polynomial = odd (hi * 2 ^ suc n + lo) (lowest n hi lo ∙ e) ∙ ap (λ (x : ℕ). bit_xor x polynomial) (halves n hi lo) in
          ap (shifted_by n) whole ∙ put_in n hi (lo / 2) polynomial (shifted_by-splits n) (below_half n lo h) ∙ ap (λ (x : ℕ). bit_xor hi (shifted_by n x)) (sym (odd lo e))
    ]

nothing : (n : ℕ) → shifted_by n 0 ≡ 0
unfolding shifted_by
nothing zero = refl
nothing (suc n) = ap (shifted_by n) (even 0 refl) ∙ nothing n

-- what lies above n bits stays where nothing lies below them
pub moved_down : (n hi : ℕ) → shifted_by n (hi * 2 ^ n) ≡ hi
unfolding Splits
moved_down n hi =
    let some : 0 < 2 ^ n = pow_pos n in
    let bare : hi * 2 ^ n ≡ hi * 2 ^ n + 0 = omega arith in
    ap (shifted_by n) bare ∙ shifted_by-splits n hi 0 some ∙ ap (bit_xor hi) (nothing n) ∙ xor_zero_r hi

pub after_byte-split : (state byte : ℕ) → byte < 256 → after_byte state byte ≡ bit_xor (shifted_by 8 (bit_and (bit_xor state byte) 255)) (state / 256)
unfolding Splits after_byte
after_byte-split state byte h =
    let x = bit_xor state byte in
    let high : x / 2 ^ 8 ≡ state / 256 = xor_shr state byte 8 ∙ ap (bit_xor (state / 256)) (omega arith) ∙ xor_zero_r (state / 256) in
    let below : x % 2 ^ 8 < 2 ^ 8 = omega arith in
    ap (shifted_by 8) (sym (shr_split x 8)) ∙ shifted_by-splits 8 (x / 2 ^ 8) (x % 2 ^ 8) below
    ∙ xor_comm (x / 2 ^ 8) (shifted_by 8 (x % 2 ^ 8))
    ∙ ap (λ (y : ℕ). bit_xor (shifted_by 8 (x % 2 ^ 8)) y) high
    ∙ ap (λ (y : ℕ). bit_xor (shifted_by 8 y) (state / 256)) (sym (and_mask x 8))
